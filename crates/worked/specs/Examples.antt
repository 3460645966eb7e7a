-- Examples, computed from the definitions that the calls' promises cite: each rule told from the ways in which it could be
-- misread, parts 4 and 5, single refused calls, lists. A list has one proof. Document 01's starred examples stand with the chip.
-- Assumes nothing.
use Rattle.std.specs.Prelude.{◌&&◌, T}
use Rattle.trace.specs.Items.{clocked}
use Rattle.parts.specs.Figures.{figure_of}
use Rattle.parts.specs.Commands.{command}
use Rattle.parts.specs.Guards.{first_protected, may_store, may_keep}
use Rattle.stages.specs.Address.{after_code, after_address, next_address}
use Rattle.stages.specs.Bits.{take_bit, bit_of}
use Rattle.stages.specs.Wp.{fall_wp, byte_wp, byte_came}
use Rattle.stages.specs.Close.{after_fall}
use Rattle.stages.specs.Sound.{sound_stage}
use Rattle.select.specs.Fall.{show_array, show_status, show_ident, next_ident, show_serial, next_serial, fall}
use Rattle.select.specs.Rise.{opened, code_rise, upper_rise, lower_rise, dummy_rise, write_rise, keep_rise, rise}
use Rattle.pins.specs.Edges.{cs_fall, cs_rise, sck_rise, sck_fall, hold_fall, hold_rise}
use Rattle.pins.specs.Sound.{rests, sound}
use Rattle.pins.specs.Watch.{is_open, sees_rise}
use Rattle.step.specs.Step.{cs_stayed, live, step, written}
use Rattle.chip.specs.Event.{checks, event}
use Rattle.chip.specs.Examples.Run.{all_hold}
use Rattle.worked.specs.Examples.Rules.{of_lines, of_codes, of_output, of_writing, of_guards, of_hold, rules}
use Rattle.worked.specs.Examples.Part4.{of_fast, of_guarded, of_sleep, part4}
use Rattle.worked.specs.Examples.Part5.{of_serial, of_like4, part5}
use Rattle.worked.specs.Examples.Calls.{all_refused, refused_events, all_powered, powerings, all_filled, fillings}
use Rattle.worked.specs.Examples.Lists.{all_listed, listings}
use Rattle.chip.specs.List.{course, list_refusal, listed}
use Rattle.supply.specs.Power.{fill_refusal, filled, power_refusal, power_up}
pub mod Rules
pub mod Part4
pub mod Part5
pub mod Calls
pub mod Lists

pub rules_hold : T (all_hold rules)
unfolding clocked rules of_lines of_codes of_output of_writing of_guards of_hold figure_of command first_protected may_store may_keep after_code after_address next_address take_bit fall_wp byte_wp byte_came after_fall bit_of show_array show_status fall opened code_rise upper_rise lower_rise write_rise keep_rise rise sound_stage cs_fall cs_rise sck_rise sck_fall hold_fall hold_rise cs_stayed live step checks event written rests sound is_open sees_rise fill_refusal filled power_refusal power_up
rules_hold = tt

pub part4_hold : T (all_hold part4)
unfolding clocked part4 of_fast of_guarded of_sleep figure_of command first_protected may_store may_keep after_code after_address next_address take_bit fall_wp byte_wp byte_came after_fall bit_of show_array show_status show_ident next_ident fall opened code_rise upper_rise lower_rise dummy_rise write_rise keep_rise rise sound_stage cs_fall cs_rise sck_rise sck_fall hold_fall hold_rise cs_stayed live step checks event written rests sound is_open sees_rise fill_refusal filled power_refusal power_up
part4_hold = tt

pub part5_hold : T (all_hold part5)
unfolding clocked part5 of_serial of_like4 figure_of command first_protected may_store may_keep after_code after_address next_address take_bit fall_wp byte_wp byte_came after_fall bit_of show_array show_status show_ident next_ident show_serial next_serial fall opened code_rise upper_rise lower_rise dummy_rise write_rise keep_rise rise sound_stage cs_fall cs_rise sck_rise sck_fall hold_fall hold_rise cs_stayed live step checks event written rests sound is_open sees_rise fill_refusal filled power_refusal power_up
part5_hold = tt

pub calls_hold : T (all_refused refused_events && all_powered powerings && all_filled fillings)
unfolding refused_events powerings fillings figure_of sound_stage live step checks event rests sound fill_refusal filled power_refusal power_up
calls_hold = tt

pub lists_hold : T (all_listed listings)
unfolding listings figure_of take_bit fall_wp byte_wp byte_came after_fall bit_of may_store first_protected next_address show_array show_serial next_serial fall opened code_rise write_rise rise sound_stage cs_fall cs_rise sck_rise sck_fall live step checks event written rests sound course list_refusal listed
lists_hold = tt
