-- What a bench sends as lists (demand 3 over lists): the calls one after the other, and the events that were accepted. What a power
-- cut leaves after them is proved in proofs/Lists. Assumes nothing.
use Rattle.std.specs.Prelude.{ℕ, List, [], ◌∷◌, ◌++◌, take}
use Rattle.chip.specs.List.{Course, listed}
use Rattle.chip.specs.Run.{Chip, course_chip}

-- one call: its codes, and what the answers held
pub record Sending : Type 0 where
  pub codes : List ℕ
  pub levels : List ℕ

abbrev pub sending : Chip → Sending → Course
sending c l = listed c.serial c.array c.state l.codes l.levels

-- the calls one after the other, each on the state and the array that the last one left
unfoldable pub sent : Chip → List Sending → Chip
sent c [] = c
sent c (l ∷ ls) = sent (course_chip c.serial (sending c l)) ls

-- the events that were accepted, in order
unfoldable pub accepted_of : Chip → List Sending → List ℕ
accepted_of c [] = []
accepted_of c (l ∷ ls) = take (sending c l).count l.codes ++ accepted_of (course_chip c.serial (sending c l)) ls
