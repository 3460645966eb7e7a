-- Examples, computed from the definitions that the board's promises cite: they tell each rule of document 02's Wish 5, and of
-- Wish 8 on the board, from the ways in which it could be misread. A list has one proof. Assumes nothing.
use Rattle.std.specs.Prelude.{◌&&◌, T}
use Rattle.trace.specs.Items.{clocked}
use Rattle.parts.specs.Figures.{figure_of}
use Rattle.parts.specs.Commands.{command}
use Rattle.parts.specs.Guards.{first_protected, may_store, may_keep}
use Rattle.stages.specs.Address.{after_code, after_address, next_address}
use Rattle.stages.specs.Bits.{take_bit, bit_of}
use Rattle.stages.specs.Wp.{fall_wp, byte_wp, byte_came}
use Rattle.stages.specs.Close.{after_fall}
use Rattle.stages.specs.Sound.{sound_stage}
use Rattle.select.specs.Fall.{show_array, show_status, show_serial, fall}
use Rattle.select.specs.Rise.{opened, code_rise, upper_rise, lower_rise, write_rise, keep_rise, rise}
use Rattle.pins.specs.Edges.{cs_fall, cs_rise, sck_rise, sck_fall, hold_fall, hold_rise}
use Rattle.pins.specs.Sound.{rests, sound}
use Rattle.step.specs.Step as chip-step
use Rattle.chip.specs.Event as chip
use Rattle.supply.specs.Power as chip-power
use Rattle.chip.specs.Run as chip-run
use Rattle.board.specs.Checks.{is_own, no_board, all_sound, checks}
use Rattle.board.specs.Chips.{sum, pieces, states, slice}
use Rattle.board.specs.Event.{every, at, refusal_at, refusal, event}
use Rattle.board.specs.Examples.Events.{all_leave, lines, refusals, numbered, in_order, moved}
use Rattle.board.specs.Examples.Powers.{all_give, powers}
use Rattle.board.specs.Examples.Runs.{all_run, histories}
use Rattle.board.specs.Power.{all_parts, all_masked, power_refusal, powered, power_up}
use Rattle.board.specs.So.{driven, line, levels, board_so}
pub mod Events
pub mod Powers
pub mod Runs

pub events_hold : T (all_leave lines && all_leave refusals && all_leave numbered && all_leave in_order && all_leave moved)
unfolding lines refusals numbered in_order moved figure_of fall_wp bit_of after_fall show_serial sound_stage rests sound cs_fall cs_rise sck_rise sck_fall hold_fall hold_rise fall rise chip-step.cs_stayed chip-step.live chip-step.step chip.checks chip.event chip-step.written chip-run.next is_own no_board all_sound checks sum pieces states slice every at refusal_at refusal event driven line levels board_so
events_hold = tt

pub powers_hold : T (all_give powers)
unfolding powers figure_of chip-power.fill_refusal chip-power.power_refusal chip-power.power_up no_board all_parts sum all_masked power_refusal powered power_up
powers_hold = tt

pub runs_hold : T (all_run histories)
unfolding clocked histories figure_of command first_protected may_store may_keep after_code after_address next_address take_bit fall_wp byte_wp byte_came after_fall bit_of show_array show_status fall opened code_rise upper_rise lower_rise write_rise keep_rise rise sound_stage cs_fall cs_rise sck_rise sck_fall hold_fall hold_rise chip-step.cs_stayed chip-step.live chip-step.step chip.checks chip.event chip-step.written chip-run.next rests sound chip-power.fill_refusal chip-power.power_refusal chip-power.power_up no_board all_parts sum all_masked power_refusal powered power_up is_own all_sound checks pieces states slice every at refusal_at refusal event driven line levels board_so
runs_hold = tt
