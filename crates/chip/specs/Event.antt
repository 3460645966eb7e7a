-- One event, and the refusals (document 01, "Refusals and their order"). Assumes nothing.
use Rattle.std.specs.Prelude.{ℕ, cond, not, List, length, leb, Option, Some, None, Result, Ok, Err}
use Rattle.parts.specs.Figures.{figure_of, fits_part, fits_serial}
use Rattle.parts.specs.declared.figures.Figure.{Figure}
use Rattle.select.specs.declared.notes.Level.TheVariants.{Released}
use Rattle.select.specs.declared.notes.Note.TheVariants.{Nothing}
use Rattle.pins.specs.Levels.{so_level}
use Rattle.pins.specs.Sound.{sound}
use Rattle.pins.specs.declared.state.State.{State}
use Rattle.pins.specs.declared.state.Moved.{Moved}
use Rattle.refusals.specs.declared.refusal.Refusal.{Refusal}
use Rattle.refusals.specs.declared.refusal.Refusal.TheVariants.{ArrayLength, Unsound, NoEvent, SerialLength}
use Rattle.step.specs.Step.{step}
use Rattle.chip.specs.declared.event.Answer.{Answer}

-- "The answer to an event: a refusal number or 0; the state; the level of SO after it; and one note"
abbrev pub answer_of : State → Result Moved Refusal → Answer
answer_of s (Ok m) = record { refusal = None; so = so_level m.state; note = m.note; state = m.state }
-- "Any other refusal returns its number with the state given; SO reads released, the note is nothing."
answer_of s (Err why) = record { refusal = Some why; so = Released; note = Nothing; state = s }

-- the first of two refusals that is given
abbrev pub first : Option Refusal → Option Refusal → Option Refusal
first None b = b
first (Some why) b = Some why

-- what checks that give a refusal, or none, leave of what they stand before
abbrev pub unless_refused : Option Refusal → Result Moved Refusal → Result Moved Refusal
unless_refused None r = r
unless_refused (Some why) r = Err why

-- 4 "state fails the soundness test", 2 "array length is not the part's", 15 "serial not eight bytes long" (document 02, Wish 8:
--  "after 2"), or none. By the lengths of the array and of the serial number.
abbrev pub lend_refusal : State → ℕ → ℕ → Option Refusal
lend_refusal s len serial =
    cond (not (sound s)) (Some Unsound)
    (cond (not (fits_part s.part len)) (Some ArrayLength)
    (cond (not (fits_serial s.part serial)) (Some SerialLength)
    None))

-- "An event checks 4, 2, 5, 6, 7." Those before 6 and 7: 4, 2, 15, then 5 "event code 12 or more".
unfoldable pub checks : State → ℕ → ℕ → ℕ → Option Refusal
checks s len serial code = first (lend_refusal s len serial) (cond (leb 12 code) (Some NoEvent) None)

-- refused by the first checks, or the step
abbrev pub tried : Figure → List ℕ → List ℕ → State → ℕ → Result Moved Refusal
tried f serial xs s code = unless_refused (checks s (length xs) (length serial) code) (step f serial xs s code)

-- one event on the lent array xs, with the lent serial number, which stands first here, since it stays from event to event
unfoldable pub event : List ℕ → List ℕ → State → ℕ → Answer
event serial xs s code = answer_of s (tried (figure_of s.part) serial xs s code)
