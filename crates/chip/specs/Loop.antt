-- A list's course as the loop has it: its answer beside the slices that it left. Assumes nothing.
use Rattle.std.specs.Prelude.{ℕ, List, Result, Ok}
use Rattle.pins.specs.declared.state.Moved.{Moved}
use Rattle.refusals.specs.declared.refusal.Refusal.{Refusal}
use Rattle.chip.specs.Event.{unless_refused}
use Rattle.chip.specs.List.{Course}
use Rattle.chip.specs.declared.run.Ran.{Ran}

abbrev pub course_of : Ran → List ℕ → List ℕ → Course
course_of r array levels =
    record { refusal = r.refusal; count = r.count; note = r.note; state = r.state; array = array; levels = levels }

-- what the last event came to
abbrev pub last_step : Ran → Result Moved Refusal
last_step r = unless_refused r.refusal (Ok (record { state = r.state; note = r.note }))
