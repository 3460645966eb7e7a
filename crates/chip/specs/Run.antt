-- The chip's run over a list of events: the state threaded, the array changed by what each event wrote. It is the
-- definition that the contract of the event call cites, event after event. Assumes nothing.
use Rattle.std.specs.Prelude.{ℕ, true, List, [], ◌∷◌}
use Rattle.pins.specs.Levels.{at_rest}
use Rattle.pins.specs.declared.state.State.{State}
use Rattle.step.specs.Step.{written}
use Rattle.chip.specs.Event.{event}
use Rattle.chip.specs.List.{Course}
use Rattle.supply.specs.Power.{power_up}
use Rattle.chip.specs.declared.event.Answer.{Answer}

-- the state, and what is lent with it: the array, and the serial number, which stays
pub record Chip : Type 0 where
  pub state : State
  pub array : List ℕ
  pub serial : List ℕ

-- what a list leaves of it
abbrev pub course_chip : List ℕ → Course → Chip
course_chip serial c = record { state = c.state; array = c.array; serial = serial }

abbrev pub answered : Chip → Answer → Chip
answered c a = record { state = a.state; array = written a.note c.array; serial = c.serial }

-- the power-up state, over an array and with a serial number
abbrev pub powered_up : ℕ → ℕ → List ℕ → List ℕ → Chip
powered_up part kept array serial = record { state = at_rest part kept true; array = array; serial = serial }

-- what the power-up call gives, over the array that was lent to it; it "takes no serial"
abbrev pub from_power_up : ℕ → ℕ → List ℕ → List ℕ → Chip
from_power_up part kept array serial = record { state = (power_up part kept array).state; array = array; serial = serial }

-- one event; a refused one changes nothing, as its answer says
unfoldable pub next : Chip → ℕ → Chip
next c code = answered c (event c.serial c.array c.state code)

unfoldable pub run : Chip → List ℕ → Chip
run c [] = c
run c (code ∷ codes) = run (next c code) codes
