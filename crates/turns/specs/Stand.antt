-- What stands on the bench, event by event: which select an event belongs to, and what it leaves in its record.
-- Assumes nothing.
use Rattle.std.specs.Prelude.{ℕ, Bool, false, cond, not, ◌&&◌, List}
use Rattle.stages.specs.Close.{is_asleep}
use Rattle.stages.specs.Wp.{is_up}
use Rattle.pins.specs.Levels.{so_level}
use Rattle.pins.specs.Watch.{is_open, sees_rise}
use Rattle.chip.specs.declared.event.Answer.{Answer}
use Rattle.pins.specs.declared.state.State.{State}
use Rattle.report.specs.Record.{counted, no_rise, risen, shown_after, noted}
use Rattle.report.specs.declared.record.Record.{Record}
use Rattle.turns.specs.declared.stand.Stand.{Stand}

-- a chip that no event came to
abbrev pub no_event : State → Stand
no_event chip = record { chip = chip; selects = 0; told = no_rise false }

-- a select opens
abbrev pub opens : State → State → Bool
opens before next = not (is_open before) && is_open next

-- "One line for each select": a select is over where it was open and is open no more, by /CS or by "a power cut"
unfoldable pub closes : State → State → Bool
closes before next = is_open before && not (is_open next)

-- "SO sampled before each seen rise": SI and SO are those of the state before
unfoldable pub clocked_by : Stand → ℕ → Record
clocked_by s code =
    cond (sees_rise s.chip code)
    (risen s.told (is_up s.chip.si) (so_level s.chip))
    s.told

unfoldable pub shown_by : List ℕ → Stand → ℕ → List ℕ
shown_by xs s code =
    cond (sees_rise s.chip code) (shown_after xs s.told (so_level s.chip)) xs

-- the bench after an accepted event: a select that opens is the next in number, with a record of its own; "the rest of that
-- select is ignored", where the chip slept
unfoldable pub after : Stand → ℕ → Answer → Stand
after s code a =
    cond (opens s.chip a.state)
    (record { chip = a.state; selects = counted s.selects; told = no_rise (is_asleep s.chip.stage) })
    (record { chip = a.state; selects = s.selects; told = noted (clocked_by s code) a.note })
