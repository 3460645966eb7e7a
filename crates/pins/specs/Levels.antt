-- "Lines and events" (document 01). Assumes nothing.
use Rattle.std.specs.Prelude.{ℕ, Bool, true, false}
use Rattle.stages.specs.Close.{is_closed}
use Rattle.select.specs.Fall.{stage_level}
use Rattle.select.specs.declared.notes.Level.{Level}
use Rattle.select.specs.declared.notes.Level.TheVariants.{Released}
use Rattle.stages.specs.declared.stage.Line.TheVariants.{Down, Up}
use Rattle.stages.specs.declared.stage.Stage.{Stage}
use Rattle.stages.specs.declared.stage.Stage.TheVariants.{Closed}
use Rattle.pins.specs.declared.hold.Hold.{Hold}
use Rattle.pins.specs.declared.hold.Hold.TheVariants.{High, LowCsLow, LowCsHigh}
use Rattle.pins.specs.declared.state.State.{State}

-- "At power-up (H): /CS, /HOLD and /WP high, SCK and SI low, no select open, latch off." "the off state: part and kept
--  bits stay, all else is as at power-up but for the power, SO released."
abbrev pub at_rest : ℕ → ℕ → Bool → State
at_rest part kept power =
    record {
      part = part;
      kept = kept;
      power = power;
      sck = false;
      si = Down;
      wp = Up;
      latch = false;
      hold = High;
      stage = Closed;
    }

-- /HOLD is high; where it is low, its state keeps the level of /CS
abbrev pub hold_high : Hold → Bool
hold_high High = true
hold_high LowCsLow = false
hold_high LowCsHigh = false

-- the level of /CS: with /HOLD high, high exactly where no select is open; in hold, "only their levels kept"
abbrev pub cs_from : Hold → Stage → Bool
cs_from High stage = is_closed stage
cs_from LowCsLow stage = false
cs_from LowCsHigh stage = true

abbrev pub cs_level : State → Bool
cs_level s = cs_from s.hold s.stage

-- "While /HOLD is low .. SO is released. When /HOLD rises, SO shows again what it showed before."
abbrev pub so_from : Hold → Stage → Level
so_from High stage = stage_level stage
so_from LowCsLow stage = Released
so_from LowCsHigh stage = Released

abbrev pub so_level : State → Level
so_level s = so_from s.hold s.stage
