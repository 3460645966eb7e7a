-- Counting row cycles (document 02, Wish 9). Assumes nothing.
use Rattle.std.specs.Prelude.{ℕ, ◌+◌, ◌-◌, ◌/◌, Bool, cond, not, ◌&&◌, List, [], ◌∷◌, eqb, get_or, length, set, Option, Some, None, Err}
use Rattle.parts.specs.Figures.{figure_of}
use Rattle.parts.specs.declared.figures.Figure.{Figure}
use Rattle.stages.specs.Last.{last_of}
use Rattle.pins.specs.Sound.{sound}
use Rattle.pins.specs.declared.state.State.{State}
use Rattle.refusals.specs.declared.refusal.Refusal.{Refusal}
use Rattle.refusals.specs.declared.refusal.Refusal.TheVariants.{Unsound, NoPart, CounterCount}
use Rattle.chip.specs.Event.{answer_of, event, first, lend_refusal}
use Rattle.chip.specs.declared.event.Answer.{Answer}

-- the rows of the byte that the select touched last (stages/Last), before an event and after it, are one: there was such a byte, and it
-- "lay in the same row"
abbrev pub same_row : ℕ → ℕ → ℕ → Bool
same_row size before after = not (eqb before 0) && eqb ((before - 1) / size) ((after - 1) / size)

-- "In a select, a READ or FSTRD byte whose first bit was driven, or a stored byte, adds one to its row unless the select's previous such
--  byte lay in the same row": the row of the byte touched last after an event, unless it was the row before; none where no byte was
-- touched
abbrev pub cycled : ℕ → ℕ → ℕ → List ℕ
cycled size before after =
    cond (eqb after 0) []
    (cond (same_row size before after) []
    ((after - 1) / size ∷ []))

-- "A full counter stays full.": one of 32 bits
abbrev pub full : ℕ
full = 0xFFFFFFFF

abbrev pub one_more : ℕ → ℕ
one_more count = cond (eqb count full) full (count + 1)

abbrev pub add_one : List ℕ → ℕ → List ℕ
add_one counters row = set counters row (one_more (get_or counters row 0))

-- one more for each of these rows, in order
unfoldable pub add_all : List ℕ → List ℕ → List ℕ
add_all counters [] = counters
add_all counters (row ∷ rows) = add_all (add_one counters row) rows

-- "one counter of 32 bits per row"
abbrev pub row_count : Figure → ℕ
row_count f = f.size / f.row

-- "Refusals, in the counting call: 1 for parts 1 and 2, after 4; 16, counter slice not one per row, right before 5.": 4, 1, 2, 15, 16.
-- By the lengths of the array, the serial number and the counters.
unfoldable pub count_refusal : State → ℕ → ℕ → ℕ → Option Refusal
count_refusal s len serial counters =
    cond (not (sound s)) (Some Unsound)
    (cond (eqb (figure_of s.part).row 0) (Some NoPart)
    (first (lend_refusal s len serial)
    (cond (eqb counters (row_count (figure_of s.part))) None (Some CounterCount))))

-- a refusal before the event, or the event's own answer
abbrev pub refused_or : Option Refusal → State → Answer → Answer
refused_or None s own = own
refused_or (Some why) s own = answer_of s (Err why)

-- the counting call on the lent array xs and the lent counters, with the lent serial number
unfoldable pub counted : List ℕ → List ℕ → List ℕ → State → ℕ → Answer
counted serial xs counters s code =
    refused_or (count_refusal s (length xs) (length serial) (length counters)) s (event serial xs s code)

-- and the counters after it. A refused event leaves the state as it was, and so the counters.
unfoldable pub counters_after : List ℕ → List ℕ → List ℕ → State → ℕ → List ℕ
counters_after serial xs counters s code =
    add_all counters
    (cycled (figure_of s.part).row (last_of s.stage) (last_of (counted serial xs counters s code).state.stage))
