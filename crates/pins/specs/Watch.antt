-- What a bench sees of a state besides the answers. Assumes nothing.
use Rattle.std.specs.Prelude.{ℕ, Bool, not, ◌&&◌, eqb}
use Rattle.stages.specs.Close.{is_closed}
use Rattle.pins.specs.Levels.{hold_high}
use Rattle.pins.specs.declared.state.State.{State}

-- a select is open
unfoldable pub is_open : State → Bool
is_open s = not (is_closed s.stage)

-- "Each seen rise of SCK in an open select": event 3 with power on, /HOLD high and SCK low
unfoldable pub sees_rise : State → ℕ → Bool
sees_rise s code = s.power && hold_high s.hold && is_open s && not s.sck && eqb code 3
