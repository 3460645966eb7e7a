-- An answer in the numbers of document 01. Assumes nothing.
use Rattle.std.specs.Prelude.{ℕ}
use Rattle.select.specs.Notes.{level_number, NoteNumbers, note_numbers}
use Rattle.pins.specs.declared.state.State.{State}
use Rattle.refusals.specs.Refusals.{number_or_0}
use Rattle.chip.specs.declared.event.Answer.{Answer}

-- "The answer to an event: a refusal number or 0; the state; the level of SO after it (0, 1 or released); and one note"
pub record Paper : Type 0 where
  pub refusal : ℕ
  pub state : State
  pub so : ℕ
  pub note : NoteNumbers

abbrev pub paper : Answer → Paper
paper r =
    record { refusal = number_or_0 r.refusal; state = r.state; so = level_number r.so; note = note_numbers r.note }
