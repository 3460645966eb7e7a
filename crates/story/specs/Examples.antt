-- Traces with their whole stories, worked out by hand from documents 01 and 02: one list, one proof, computed from the definition
-- that the promise of `story` cites. Assumes nothing.
use Rattle.std.specs.Prelude.{ℕ, Bool, true, ◌&&◌, List, [], ◌∷◌, ◌++◌, T}
use Rattle.trace.specs.Number.{reading}
use Rattle.trace.specs.Items.{clocked}
use Rattle.parts.specs.Figures.{figure_of}
use Rattle.parts.specs.Commands.{command}
use Rattle.parts.specs.Guards.{first_protected, may_store}
use Rattle.stages.specs.Address.{after_code, after_address, next_address}
use Rattle.stages.specs.Bits.{take_bit, bit_of}
use Rattle.stages.specs.Wp.{fall_wp, byte_wp, byte_came}
use Rattle.stages.specs.Close.{after_fall}
use Rattle.stages.specs.Sound.{sound_stage}
use Rattle.select.specs.Fall.{show_array, show_status, fall}
use Rattle.select.specs.Rise.{opened, code_rise, upper_rise, lower_rise, write_rise, rise}
use Rattle.pins.specs.Edges.{cs_fall, cs_rise, sck_rise, sck_fall}
use Rattle.pins.specs.Sound.{rests, sound}
use Rattle.pins.specs.Watch.{is_open, sees_rise}
use Rattle.step.specs.Step.{live, step, written}
use Rattle.chip.specs.Event.{checks, event}
use Rattle.chip.specs.Examples.Run.{same}
use Rattle.supply.specs.Power.{fill_refusal, filled, power_refusal, power_up}
use Rattle.report.specs.Record.{counted, code_after, sampled, risen, shown_after, noted}
use Rattle.report.specs.Text.{ascii, capitals, hex, decimal}
use Rattle.turns.specs.Bench.{after_event}
use Rattle.turns.specs.Stand.{closes, clocked_by, shown_by, after}
use Rattle.pulses.specs.Pulse.{pulsed}
use Rattle.bench.specs.Head.{leading, head_of}
use Rattle.words.specs.Changes.{code_comes, falls_asleep, power_back, changes, turned, sampled_by}
use Rattle.words.specs.Dump.{all_fresh, spaced_byte, spaced, row_text, rows_text, array_text}
use Rattle.words.specs.Lines.{begun, said, power_line, open_line, code_line, close_line, stored_line, held_line, kept_line, kept_held_line, latch_line, note_text, byte_line, shown_text, refused_line, grown_text, run_line, left_line, end_line}
use Rattle.words.specs.Words.{address, reason_text, command_text, advice_text}
use Rattle.story.specs.Scene.{accepted_text, event_scene, event_text, run_scene, pulses_text, run_text, item_scene, item_text}
use Rattle.story.specs.Story.{end_text, story_from, left_text, not_powered, from_power, powered_text, story}

pub record Example : Type 0 where
  pub trace : List ℕ
  pub tells : List ℕ

all : List Example → Bool
all [] = true
all (e ∷ es) = same (story e.trace) e.tells && all es

unfoldable pub traces : List Example
traces =
    -- Order 4471: WREN once and two WRITEs. The first stores its byte and its close drops the latch; the second's byte is held back.
    record {
      trace = 0x01 ∷ 0x00 ∷ 0x00 ∷ 0x12 ∷ 0x01 ∷ 0x00 ∷ 0x0E ∷ 0x1C ∷ 0xB1 ∷ 0x01 ∷ 0x01 ∷ 0x00 ∷ 0x0E ∷ 0x1D ∷ 0x66 ∷ 0x01 ∷ [];
      tells =
          ascii "0: power-up of part 1, 512 bytes, kept bits 00\n"
          ++ ascii "2: select 1\n"
          ++ ascii "3: op-code 06 WREN\n"
          ++ ascii "3: latch on\n"
          ++ ascii "4: select 1 ends, clocks 8\n"
          ++ ascii "5: select 2\n"
          ++ ascii "6: op-code 02 WRITE\n"
          ++ ascii "8: stored A5 at 0010\n"
          ++ ascii "10: select 2 ends, clocks 24\n"
          ++ ascii "10: latch off\n"
          ++ ascii "11: select 3\n"
          ++ ascii "12: op-code 02 WRITE\n"
          ++ ascii "14: held back at 0011: latch off\n"
          ++ ascii "15: select 3 ends, clocks 24\n"
          ++ ascii "end: kept bits 00, latch off\n"
          ++ ascii "array, where it is not FF:\n"
          ++ ascii "0010: A5 FF FF FF FF FF FF FF FF FF FF FF FF FF FF FF\n";
    }
    -- "Blocks, by BP1 BP0: .. 01 the upper quarter", 600h up on part 3
    ∷ record {
      trace = 0x03 ∷ 0x04 ∷ 0x00 ∷ 0x12 ∷ 0x01 ∷ 0x00 ∷ 0x0E ∷ 0x11 ∷ 0x8B ∷ 0x02 ∷ 0x1D ∷ 0x2E ∷ 0x01 ∷ [];
      tells =
          ascii "0: power-up of part 3, 2048 bytes, kept bits 04\n"
          ++ ascii "2: select 1\n"
          ++ ascii "3: op-code 06 WREN\n"
          ++ ascii "3: latch on\n"
          ++ ascii "4: select 1 ends, clocks 8\n"
          ++ ascii "5: select 2\n"
          ++ ascii "6: op-code 02 WRITE\n"
          ++ ascii "10: stored 11 at 05FF\n"
          ++ ascii "11: held back at 0600: block protected\n"
          ++ ascii "12: select 2 ends, clocks 40\n"
          ++ ascii "12: latch off\n"
          ++ ascii "end: kept bits 04, latch off\n"
          ++ ascii "array, where it is not FF:\n"
          ++ ascii "05F0: FF FF FF FF FF FF FF FF FF FF FF FF FF FF FF 11\n";
    }
    -- Example 12: the two bytes that were whole are stored, and nothing of the third
    ∷ record {
      trace = 0x01 ∷ 0x00 ∷ 0x00 ∷ 0x12 ∷ 0x01 ∷ 0x00 ∷ 0x0E ∷ 0x2C ∷ 0x1D ∷ 0x2E ∷ 0x04 ∷ 0x03 ∷ 0x02 ∷ 0x03 ∷ 0x02 ∷ 0x05 ∷ 0x03 ∷ 0x02 ∷ 0x03 ∷ 0x02 ∷ 0x0A ∷ 0x0B ∷ [];
      tells =
          ascii "0: power-up of part 1, 512 bytes, kept bits 00\n"
          ++ ascii "2: select 1\n"
          ++ ascii "3: op-code 06 WREN\n"
          ++ ascii "3: latch on\n"
          ++ ascii "4: select 1 ends, clocks 8\n"
          ++ ascii "5: select 2\n"
          ++ ascii "6: op-code 02 WRITE\n"
          ++ ascii "8: stored 11 at 0020\n"
          ++ ascii "9: stored 22 at 0021\n"
          ++ ascii "20: select 2 ends, clocks 36\n"
          ++ ascii "20: power lost\n"
          ++ ascii "21: power back\n"
          ++ ascii "end: kept bits 00, latch off\n"
          ++ ascii "array, where it is not FF:\n"
          ++ ascii "0020: 11 22 FF FF FF FF FF FF FF FF FF FF FF FF FF FF\n";
    }
    -- "6: power on, /HOLD would move with SCK high": the item that got it has its place, 4
    ∷ record {
      trace = 0x01 ∷ 0x04 ∷ 0x00 ∷ 0x03 ∷ 0x06 ∷ 0x01 ∷ 0x00 ∷ [];
      tells =
          ascii "0: power-up of part 1, 512 bytes, kept bits 04\n"
          ++ ascii "2: select 1\n"
          ++ ascii "4: refused 6: /HOLD would move with SCK high; lower SCK first\n"
          ++ ascii "end: select 1 is open, clocks 1\n"
          ++ ascii "end: kept bits 04, latch off\n"
          ++ ascii "array: all FF\n";
    }
    -- WREN, then RDSR: "whole bytes of SO"
    ∷ record {
      trace = 0x01 ∷ 0x00 ∷ 0x00 ∷ 0x12 ∷ 0x01 ∷ 0x00 ∷ 0x11 ∷ 0x0C ∷ 0x01 ∷ [];
      tells =
          ascii "0: power-up of part 1, 512 bytes, kept bits 00\n"
          ++ ascii "2: select 1\n"
          ++ ascii "3: op-code 06 WREN\n"
          ++ ascii "3: latch on\n"
          ++ ascii "4: select 1 ends, clocks 8\n"
          ++ ascii "5: select 2\n"
          ++ ascii "6: op-code 05 RDSR\n"
          ++ ascii "7: shown 02\n"
          ++ ascii "8: select 2 ends, clocks 16\n"
          ++ ascii "end: kept bits 00, latch on\n"
          ++ ascii "array: all FF\n";
    }
    -- three bytes by a run of pulses (document 02, Wish 7): one line
    ∷ record {
      trace = 0x01 ∷ 0x00 ∷ 0x00 ∷ 0x12 ∷ 0x01 ∷ 0x00 ∷ 0x0E ∷ 0x0C ∷ 0xA3 ∷ 0x02 ∷ 0x01 ∷ [];
      tells =
          ascii "0: power-up of part 1, 512 bytes, kept bits 00\n"
          ++ ascii "2: select 1\n"
          ++ ascii "3: op-code 06 WREN\n"
          ++ ascii "3: latch on\n"
          ++ ascii "4: select 1 ends, clocks 8\n"
          ++ ascii "5: select 2\n"
          ++ ascii "6: op-code 02 WRITE\n"
          ++ ascii "8: run: pulses 24, clocks 24, bytes stored 3, bytes shown 0\n"
          ++ ascii "10: select 2 ends, clocks 40\n"
          ++ ascii "10: latch off\n"
          ++ ascii "end: kept bits 00, latch off\n"
          ++ ascii "array, where it is not FF:\n"
          ++ ascii "0000: 00 00 00 FF FF FF FF FF FF FF FF FF FF FF FF FF\n";
    }
    -- "a kept number .. outside the mask": no power-up
    ∷ record {
      trace = 0x01 ∷ 0x01 ∷ [];
      tells =
          ascii "0: refused 3: bits that the part does not keep; take bits of 0C on parts 1 and 2, of 8C on parts 3 to 5\n"
          ++ ascii "end: no power-up\n";
    }
    ∷ []

examples : T (all traces)
unfolding all traces figure_of command after_code after_address next_address take_bit fall_wp byte_wp byte_came after_fall bit_of show_array show_status fall first_protected may_store opened code_rise upper_rise lower_rise write_rise rise sound_stage cs_fall cs_rise sck_rise sck_fall live step checks event written rests sound is_open sees_rise reading fill_refusal filled power_refusal power_up clocked counted code_after sampled risen shown_after noted leading head_of after_event closes clocked_by shown_by after capitals hex decimal pulsed code_comes falls_asleep power_back changes turned sampled_by all_fresh spaced_byte spaced row_text rows_text array_text begun said power_line open_line code_line close_line stored_line held_line kept_line kept_held_line latch_line note_text byte_line shown_text refused_line grown_text run_line left_line end_line address reason_text command_text advice_text accepted_text event_scene event_text run_scene pulses_text run_text item_scene item_text end_text story_from left_text not_powered from_power powered_text story
examples = tt
