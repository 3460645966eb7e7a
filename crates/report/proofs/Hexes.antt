-- The digits of what is left of some bytes. Assumes nothing.
use Rattle.std.proofs.Common.{◌≡◌, List, [], ◌++◌, ℕ, ◌+◌, ◌<◌, ◌≤◌, add-one, length, get_or, drop, drop-cons, drop_of_length-le}
use Rattle.report.specs.Text.{hex, hexes}

module _ (bytes : List ℕ) (i : ℕ) where
  pub hexes_on : i < length bytes → hexes (drop i bytes) ≡ hex (get_or bytes i 0) ++ hexes (drop (i + 1) bytes)
  hexes_on h = rw (drop-cons bytes i 0 h, add-one i)

  pub hexes_over : length bytes ≤ i → hexes (drop i bytes) ≡ []
  hexes_over h = rw (drop_of_length-le bytes {i = i} h)
