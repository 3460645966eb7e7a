-- "The soundness test .. fails exactly a state with a part not 1 to 3 (now to 5), kept bits outside the mask, an address not below
-- the part's size, a partial byte or bit count that no number of clocks gives, or power off in another form than the off
-- state." Assumes nothing.
use Rattle.std.specs.Prelude.{Bool, not, ◌&&◌, ◌||◌}
use Rattle.parts.specs.Figures.{figure_of, is_part, under_mask}
use Rattle.parts.specs.declared.figures.Figure.{Figure}
use Rattle.stages.specs.Close.{is_closed, is_asleep}
use Rattle.stages.specs.Sound.{sound_stage}
use Rattle.stages.specs.Wp.{is_up}
use Rattle.pins.specs.Levels.{hold_high}
use Rattle.pins.specs.declared.state.State.{State}

-- every line and bit but the kept ones as at power-up
unfoldable pub rests : State → Bool
rests s =
    not s.sck && not (is_up s.si) && is_up s.wp && not s.latch && hold_high s.hold && is_closed s.stage && not (is_asleep s.stage)

-- by the figures of the state's part
abbrev pub sound_by : Figure → State → Bool
sound_by f s = is_part s.part && under_mask f s.kept && sound_stage f s.stage && (s.power || rests s)

unfoldable pub sound : State → Bool
sound s = sound_by (figure_of s.part) s
