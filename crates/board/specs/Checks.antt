-- The refusals of an event on the board that are found before any chip moves. Assumes nothing.
use Rattle.std.specs.Prelude.{ℕ, ◌/◌, Bool, true, cond, not, ◌&&◌, ◌||◌, List, [], ◌∷◌, eqb, leb, ltb, Option, Some, None}
use Rattle.pins.specs.Sound.{sound}
use Rattle.pins.specs.declared.state.State.{State}
use Rattle.refusals.specs.declared.refusal.Refusal.{Refusal}
use Rattle.refusals.specs.declared.refusal.Refusal.TheVariants.{ArrayLength, Unsound, NoEvent, ChipCount, NoChip, SerialLength}
use Rattle.board.specs.Chips.{fitted, together, serials_together}
use Rattle.board.specs.declared.chips.Board.{Board}

-- "each with its own /CS and /HOLD": pins 0 and 3, "its code is twice the pin number plus the level"
unfoldable pub is_own : ℕ → Bool
is_own code = eqb (code / 2) 0 || eqb (code / 2) 3

-- "no chips or over eight"
unfoldable pub no_board : ℕ → Bool
no_board count = eqb count 0 || ltb 8 count

unfoldable pub all_sound : List State → Bool
all_sound [] = true
all_sound (s ∷ ss) = sound s && all_sound ss

-- "13, no chips or over eight; 14, no such chip, for an own line only; 4 for any chip; 2, slice not as long as all pieces
--  together; 5"; 15, "slice not eight bytes per part 5 chip", "after 2" (Wish 8). By the lengths of the slice and of the serials.
unfoldable pub checks : Board → ℕ → ℕ → ℕ → ℕ → Option Refusal
checks b len serials chip code =
    cond (no_board b.count) (Some ChipCount)
    (cond (is_own code && leb b.count chip) (Some NoChip)
    (cond (not (all_sound (fitted b))) (Some Unsound)
    (cond (not (eqb len (together (fitted b)))) (Some ArrayLength)
    (cond (not (eqb serials (serials_together (fitted b)))) (Some SerialLength)
    (cond (leb 12 code) (Some NoEvent)
    None)))))
