-- A whole list of events at once (document 02, Wish 1). Assumes nothing.
use Rattle.std.specs.Prelude.{ℕ, ◌+◌, cond, List, [], ◌∷◌, ltb, length, set, Option, Some, None, is_none}
use Rattle.select.specs.Notes.{level_number}
use Rattle.select.specs.declared.notes.Note.{Note}
use Rattle.select.specs.declared.notes.Note.TheVariants.{Nothing}
use Rattle.pins.specs.declared.state.State.{State}
use Rattle.refusals.specs.declared.refusal.Refusal.{Refusal}
use Rattle.refusals.specs.declared.refusal.Refusal.TheVariants.{FewAnswers}
use Rattle.step.specs.Step.{written}
use Rattle.chip.specs.Event.{event, first, lend_refusal}
use Rattle.chip.specs.declared.event.Answer.{Answer}

-- how far a list came: the refusal that stopped it, or none; "the count of events accepted and the state and memory those
-- made"; the answers; and the last event's note, which only the single call tells
pub record Course : Type 0 where
  pub refusal : Option Refusal
  pub count : ℕ
  pub note : Note
  pub state : State
  pub array : List ℕ
  pub levels : List ℕ

-- before the first event
abbrev pub set_all_out : Option Refusal → State → List ℕ → List ℕ → Course
set_all_out refusal s xs levels =
    record { refusal = refusal; count = 0; note = Nothing; state = s; array = xs; levels = levels }

-- "one SO level per event (0, 1, or 2 for released)", at the event's own place
abbrev pub took_one : Course → Answer → Course
took_one c a =
    record {
      refusal = None;
      count = c.count + 1;
      note = a.note;
      state = a.state;
      array = written a.note c.array;
      levels = set c.levels c.count (level_number a.so);
    }

-- "what demand 1 and document 01 leave unchanged at a refusal is what stood right before the refused event"; "later answer
--  places stay", its own too
abbrev pub stops_at : Course → Option Refusal → Course
stops_at c refusal =
    record { refusal = refusal; count = c.count; note = Nothing; state = c.state; array = c.array; levels = c.levels }

abbrev pub turn : Course → Answer → Course
turn c a = cond (is_none a.refusal) (took_one c a) (stops_at c a.refusal)

-- "The outcome equals the single calls one after the other: state, array and levels. It stops at the first refusal".
-- "The soundness test runs before each event": it is the event's own.
unfoldable pub course : List ℕ → Course → List ℕ → Course
course serial c [] = c
course serial c (code ∷ codes) =
    cond (is_none c.refusal) (course serial (turn c (event serial c.array c.state code)) codes) c

-- "Refusals, checked first even for an empty list: 4, 2, then 12, answer slice shorter than the event slice." 15 comes "after 2 and
--  before 12".
unfoldable pub list_refusal : State → ℕ → ℕ → ℕ → ℕ → Option Refusal
list_refusal s len serial codes levels = first (lend_refusal s len serial) (cond (ltb levels codes) (Some FewAnswers) None)

-- the list call on the lent array xs, with the lent serial number, from the state s
unfoldable pub listed : List ℕ → List ℕ → State → List ℕ → List ℕ → Course
listed serial xs s codes levels =
    course serial (set_all_out (list_refusal s (length xs) (length serial) (length codes) (length levels)) s xs levels) codes
