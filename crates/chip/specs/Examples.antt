-- Document 01's starred examples, computed from the definitions that the calls' promises cite: one list, one proof. The
-- examples that tell each rule from the ways in which it could be misread are the crate `worked`. Assumes nothing.
use Rattle.std.specs.Prelude.{T}
use Rattle.trace.specs.Items.{clocked}
use Rattle.parts.specs.Figures.{figure_of}
use Rattle.parts.specs.Commands.{command}
use Rattle.parts.specs.Guards.{first_protected, may_store, may_keep}
use Rattle.stages.specs.Address.{after_code, after_address, next_address}
use Rattle.stages.specs.Bits.{take_bit, bit_of}
use Rattle.stages.specs.Wp.{fall_wp, byte_wp, byte_came}
use Rattle.stages.specs.Close.{after_fall}
use Rattle.stages.specs.Sound.{sound_stage}
use Rattle.select.specs.Fall.{show_array, show_status, fall}
use Rattle.select.specs.Rise.{opened, code_rise, upper_rise, lower_rise, write_rise, keep_rise, rise}
use Rattle.pins.specs.Edges.{cs_fall, cs_rise, sck_rise, sck_fall, hold_fall, hold_rise}
use Rattle.pins.specs.Sound.{rests, sound}
use Rattle.pins.specs.Watch.{is_open, sees_rise}
use Rattle.step.specs.Step.{cs_stayed, live, step, written}
use Rattle.chip.specs.Event.{checks, event}
use Rattle.chip.specs.Examples.Run.{all_hold}
use Rattle.chip.specs.Examples.Starred.{starred}
use Rattle.supply.specs.Power.{fill_refusal, filled, power_refusal, power_up}
pub mod Run
pub mod Starred

pub starred_hold : T (all_hold starred)
unfolding clocked starred figure_of command first_protected may_store may_keep after_code after_address next_address take_bit fall_wp byte_wp byte_came after_fall bit_of show_array show_status fall opened code_rise upper_rise lower_rise write_rise keep_rise rise sound_stage cs_fall cs_rise sck_rise sck_fall hold_fall hold_rise cs_stayed live step checks event written rests sound is_open sees_rise fill_refusal filled power_refusal power_up
starred_hold = tt
