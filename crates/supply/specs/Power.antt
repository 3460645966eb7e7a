-- Power-up, and a fresh array. Assumes nothing.
use Rattle.std.specs.Prelude.{ℕ, true, false, cond, not, List, length, replicate, Option, Some, None, is_none, Result, Ok, Err}
use Rattle.parts.specs.Figures.{is_part, in_mask, fits_part}
use Rattle.pins.specs.Levels.{at_rest}
use Rattle.refusals.specs.declared.refusal.Refusal.{Refusal}
use Rattle.refusals.specs.declared.refusal.Refusal.TheVariants.{NoPart, ArrayLength, KeptBits}
use Rattle.supply.specs.declared.power.Powered.{Powered}

-- what a check answers by the refusal that it gives, or none
abbrev pub checked : Option Refusal → Result (Unit {0}) Refusal
checked None = Ok tt
checked (Some why) = Err why

-- "Filling a fresh array .. checks 1, 2."
unfoldable pub fill_refusal : ℕ → ℕ → Option Refusal
fill_refusal part len = cond (not (is_part part)) (Some NoPart) (cond (not (fits_part part len)) (Some ArrayLength) None)

-- "A fresh array holds FF." (document 02, Wish 6), in place of document 01's 00
abbrev pub fresh : ℕ
fresh = 0xFF

-- "A caller that wants 00 says so with a fill byte": every byte is that one. "Lent memory stays at every refusal."
unfoldable pub filled : ℕ → ℕ → List ℕ → List ℕ
filled part byte xs = cond (is_none (fill_refusal part (length xs))) (replicate (length xs) byte) xs

-- "Power-up checks 1, 2, 3.": those two, then the mask
unfoldable pub power_refusal : ℕ → ℕ → ℕ → Option Refusal
power_refusal part kept len =
    cond (is_none (fill_refusal part len))
    (cond (in_mask part kept) None (Some KeptBits))
    (fill_refusal part len)

-- "A refused power-up returns part 1 in the off state with kept bits 0." "An accepted power-up call gives that
--  state too."
unfoldable pub power_up : ℕ → ℕ → List ℕ → Powered
power_up part kept xs =
    cond (is_none (power_refusal part kept (length xs)))
    (record { refusal = None; state = at_rest part kept true })
    (record { refusal = power_refusal part kept (length xs); state = at_rest 1 0 false })
