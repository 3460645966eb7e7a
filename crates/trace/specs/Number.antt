-- What reading and writing a number answer, and what a write leaves in the slice. Assumes nothing.
use Rattle.std.specs.Prelude.{ℕ, ◌+◌, ◌-◌, cond, List, ◌++◌, ltb, eqb, length, take, drop}
use Rattle.trace.specs.Figures.{groups, largest}
use Rattle.refusals.specs.Refusals.{number_of}
use Rattle.refusals.specs.declared.refusal.Refusal.TheVariants.{Malformed, TooLarge, Beyond, NoRoom}
use Rattle.trace.specs.Answers.{Told, number_read, ended, placed, refused_at}
use Rattle.trace.specs.Form.{bytes, value, misshapen, form}

-- The bytes of a number that begins at a place before the end: 8, then 9; else
-- "An accepted read gives the number and the place after it".
abbrev pub judged : List ℕ → ℕ → Told
judged bs at =
    cond (misshapen groups bs) (refused_at (number_of Malformed) at)
    (cond (ltb largest (value bs)) (refused_at (number_of TooLarge) at)
    (number_read (value bs) (at + length bs)))

-- "Reading a number checks 10, 8, 9." "Reading at the slice's very end answers "end"."
unfoldable pub reading : List ℕ → ℕ → Told
reading s at =
    cond (ltb (length s) at) (refused_at (number_of Beyond) at)
    (cond (eqb at (length s)) (ended at)
    (judged (bytes (drop at s)) at))

-- "Writing checks 9, 10, 11; 11 is given when fewer bytes remain than the number's form takes."
unfoldable pub writing : List ℕ → ℕ → ℕ → Told
writing s at n =
    cond (ltb largest n) (refused_at (number_of TooLarge) at)
    (cond (ltb (length s) at) (refused_at (number_of Beyond) at)
    (cond (ltb (length s - at) (length (form n))) (refused_at (number_of NoRoom) at)
    (placed (at + length (form n)))))

-- "an accepted write .. changes only the number's own bytes"
abbrev pub over : List ℕ → ℕ → List ℕ → List ℕ
over s at bs = take at s ++ bs ++ drop (at + length bs) s

-- "Lent memory stays at every refusal."
unfoldable pub slice_written : List ℕ → ℕ → ℕ → List ℕ
slice_written s at n = cond (eqb (writing s at n).refusal 0) (over s at (form n)) s
