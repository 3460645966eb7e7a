-- What a call promises where it leaves more than one thing: its answer, and the lent array at its exit. Assumes nothing.
use Rattle.std.specs.Prelude.{ℕ, ◌≡◌, List, length, Result}
use Rattle.refusals.specs.declared.refusal.Refusal.{Refusal}
use Rattle.supply.specs.Power.{checked, fill_refusal, filled}

-- the array xs filled with one byte: the answer a, a refusal or none, and the array ys
abbrev pub FillPromise : ℕ → ℕ → List ℕ → Result (Unit {0}) Refusal → List ℕ → Type 0
FillPromise part byte xs a ys = (a ≡ checked (fill_refusal part (length xs))) × (ys ≡ filled part byte xs)
