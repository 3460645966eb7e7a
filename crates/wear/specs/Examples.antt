-- Examples of row cycles, computed from the definitions that the counting call's promise cites. Assumes nothing.
use Rattle.std.specs.Prelude.{T}
use Rattle.trace.specs.Items.{clocked}
use Rattle.parts.specs.Figures.{figure_of}
use Rattle.parts.specs.Commands.{command}
use Rattle.parts.specs.Guards.{first_protected, may_store, may_keep}
use Rattle.stages.specs.Address.{after_code, after_address, next_address}
use Rattle.stages.specs.Bits.{take_bit, bit_of}
use Rattle.stages.specs.Wp.{fall_wp, byte_wp, byte_came}
use Rattle.stages.specs.Close.{after_fall}
use Rattle.stages.specs.Sound.{sound_stage}
use Rattle.select.specs.Fall.{show_array, show_status, show_ident, next_ident, show_serial, next_serial, fall}
use Rattle.select.specs.Rise.{opened, code_rise, upper_rise, lower_rise, dummy_rise, write_rise, keep_rise, rise}
use Rattle.pins.specs.Edges.{cs_fall, cs_rise, sck_rise, sck_fall, hold_fall, hold_rise}
use Rattle.pins.specs.Sound.{rests, sound}
use Rattle.step.specs.Step.{cs_stayed, live, step, written}
use Rattle.chip.specs.Event.{checks, event}
use Rattle.chip.specs.Run.{next, run}
use Rattle.wear.specs.Count.{add_all, count_refusal, counted, counters_after}
use Rattle.wear.specs.Run.{count_one, count_run}
use Rattle.wear.specs.Examples.Counts.{all_counted, of_reading, of_writing, of_plain, of_full}
use Rattle.wear.specs.Examples.Refusals.{all_refused, refusals}
pub mod Counts
pub mod Refusals

pub reading_counts : T (all_counted of_reading)
unfolding of_reading clocked figure_of command after_code after_address next_address take_bit fall_wp after_fall bit_of show_array show_status show_ident next_ident show_serial next_serial fall opened code_rise upper_rise lower_rise dummy_rise rise sound_stage cs_fall cs_rise sck_rise sck_fall hold_fall hold_rise cs_stayed live step checks event written rests sound add_all count_refusal counted counters_after count_one count_run
reading_counts = tt

pub writing_counts : T (all_counted of_writing)
unfolding of_writing clocked figure_of command first_protected may_store may_keep after_code after_address next_address take_bit fall_wp byte_wp byte_came after_fall bit_of show_array fall opened code_rise upper_rise lower_rise write_rise keep_rise rise sound_stage cs_fall cs_rise sck_rise sck_fall live step checks event written rests sound add_all count_refusal counted counters_after count_one count_run
writing_counts = tt

pub plain_counts : T (all_counted of_plain)
unfolding of_plain clocked figure_of command first_protected may_store after_code after_address next_address take_bit fall_wp byte_wp byte_came after_fall bit_of show_array fall opened code_rise upper_rise lower_rise write_rise rise sound_stage cs_fall cs_rise sck_rise sck_fall live step checks event written rests sound next run add_all count_refusal counted counters_after count_one count_run
plain_counts = tt

pub full_counts : T (all_counted of_full)
unfolding of_full clocked figure_of command after_code after_address next_address take_bit fall_wp after_fall bit_of show_array fall opened code_rise upper_rise lower_rise rise sound_stage cs_fall cs_rise sck_rise sck_fall live step checks event written rests sound add_all count_refusal counted counters_after count_one count_run
full_counts = tt

pub refusals_hold : T (all_refused refusals)
unfolding refusals figure_of sound_stage cs_stayed live step checks event written rests sound add_all count_refusal counted counters_after
refusals_hold = tt
