-- Document 01's trace and others, each with its whole report, worked out by hand from the document: one list, one
-- proof, computed from the definition that the promise of `report` cites. Assumes nothing.
use Rattle.std.specs.Prelude.{ℕ, Bool, true, ◌&&◌, List, [], ◌∷◌, ◌++◌, T}
use Rattle.trace.specs.Number.{reading}
use Rattle.parts.specs.Figures.{figure_of}
use Rattle.parts.specs.Commands.{command}
use Rattle.stages.specs.Address.{after_code, after_address, next_address}
use Rattle.stages.specs.Bits.{take_bit, bit_of}
use Rattle.stages.specs.Wp.{fall_wp, byte_wp, byte_came}
use Rattle.stages.specs.Close.{after_fall}
use Rattle.stages.specs.Sound.{sound_stage}
use Rattle.select.specs.Fall.{show_array, show_status, fall}
use Rattle.select.specs.Rise.{opened, code_rise, lower_rise, rise}
use Rattle.pins.specs.Edges.{cs_fall, cs_rise, sck_rise, sck_fall}
use Rattle.pins.specs.Sound.{rests, sound}
use Rattle.pins.specs.Watch.{is_open, sees_rise}
use Rattle.step.specs.Step.{live, step, written}
use Rattle.chip.specs.Event.{checks, event}
use Rattle.chip.specs.Examples.Run.{same}
use Rattle.supply.specs.Power.{fill_refusal, filled, power_refusal, power_up}
use Rattle.trace.specs.Items.{item_events, clocked}
use Rattle.report.specs.Lines.{code_text, shown_text, part_line, counts_text, select_line, end_line}
use Rattle.report.specs.Record.{counted, code_after, sampled, risen, shown_after, noted}
use Rattle.report.specs.Text.{ascii, capitals, hex, decimal}
use Rattle.turns.specs.Bench.{after_event}
use Rattle.bench.specs.Head.{leading, head_of}
use Rattle.bench.specs.Report.{report}
use Rattle.bench.specs.Run.{after_item, items_from, ran_from, started, ran, replayed}
use Rattle.turns.specs.Stand.{closes, clocked_by, shown_by, after}

pub record Example : Type 0 where
  pub trace : List ℕ
  pub prints : List ℕ

all : List Example → Bool
all [] = true
all (e ∷ es) = same (report e.trace) e.prints && all es

unfoldable pub traces : List Example
traces =
    -- "For input 01 00 00 12 01 00 11 0C 01 (hex) it prints, whole"
    record {
      trace = 0x01 ∷ 0x00 ∷ 0x00 ∷ 0x12 ∷ 0x01 ∷ 0x00 ∷ 0x11 ∷ 0x0C ∷ 0x01 ∷ [];
      prints =
          ascii "part 1 bytes 512 kept 00\n"
          ++ ascii "sel 1 so - op 06 clocks 8 stored 0\n"
          ++ ascii "sel 2 so 02 op 05 clocks 16 stored 0\n"
          ++ ascii "end kept 00 latch 1 refused 0\n";
    }
    -- "One line for each select, also one left open by .. a refusal": /HOLD would move with SCK high, and neither the
    -- rise of /CS nor the select after it comes
    ∷ record {
      trace = 0x01 ∷ 0x04 ∷ 0x00 ∷ 0x03 ∷ 0x06 ∷ 0x01 ∷ 0x00 ∷ [];
      prints =
          ascii "part 1 bytes 512 kept 04\n"
          ++ ascii "sel 1 so - op -- clocks 1 stored 0\n"
          ++ ascii "end kept 04 latch 0 refused 6\n";
    }
    -- "or a power cut": WREN, then the cut closes select 1 and drops the latch; with power off /CS opens nothing
    ∷ record {
      trace = 0x03 ∷ 0x8C ∷ 0x01 ∷ 0x00 ∷ 0x12 ∷ 0x0A ∷ 0x00 ∷ [];
      prints =
          ascii "part 3 bytes 2048 kept 8C\n"
          ++ ascii "sel 1 so - op 06 clocks 8 stored 0\n"
          ++ ascii "end kept 8C latch 0 refused 0\n";
    }
    -- "also one left open by the end", after one that closed: RDSR and one clock of its byte
    ∷ record {
      trace = 0x02 ∷ 0x00 ∷ 0x00 ∷ 0x01 ∷ 0x00 ∷ 0x11 ∷ 0x03 ∷ 0x02 ∷ [];
      prints =
          ascii "part 2 bytes 512 kept 00\n"
          ++ ascii "sel 1 so - op -- clocks 0 stored 0\n"
          ++ ascii "sel 2 so - op 05 clocks 9 stored 0\n"
          ++ ascii "end kept 00 latch 0 refused 0\n";
    }
    -- "A fresh array holds FF." (document 02, Wish 6): READ of 1FFh, the last byte, and of 000h, the first
    ∷ record {
      trace = 0x01 ∷ 0x00 ∷ 0x00 ∷ 0x17 ∷ 0x8B ∷ 0x02 ∷ 0x0C ∷ 0x0C ∷ 0x01 ∷ [];
      prints =
          ascii "part 1 bytes 512 kept 00\n"
          ++ ascii "sel 1 so FFFF op 0B clocks 32 stored 0\n"
          ++ ascii "end kept 00 latch 0 refused 0\n";
    }
    -- "An item from 268 up now means the number less 267 pulses of SCK, up then down, SI untouched." (document 02, Wish 7): with SI
    -- high, 268 and 274 are one and seven of them, and an op-code FF. In a select that opens with SCK high the "up" moves
    -- nothing, so that one is no clock; it leaves SCK low, and the next one is
    ∷ record {
      trace = 0x01 ∷ 0x00 ∷ 0x05 ∷ 0x00 ∷ 0x8C ∷ 0x02 ∷ 0x92 ∷ 0x02 ∷ 0x01 ∷ 0x03 ∷ 0x00 ∷ 0x8C ∷ 0x02 ∷ 0x8C ∷ 0x02 ∷ [];
      prints =
          ascii "part 1 bytes 512 kept 00\n"
          ++ ascii "sel 1 so - op FF clocks 8 stored 0\n"
          ++ ascii "sel 2 so - op -- clocks 1 stored 0\n"
          ++ ascii "end kept 00 latch 0 refused 0\n";
    }
    -- 267 is a data byte, FF; then 17 pulses, by a number of two bytes
    ∷ record {
      trace = 0x01 ∷ 0x00 ∷ 0x00 ∷ 0x8B ∷ 0x02 ∷ 0x9C ∷ 0x02 ∷ [];
      prints =
          ascii "part 1 bytes 512 kept 00\n"
          ++ ascii "sel 1 so - op FF clocks 25 stored 0\n"
          ++ ascii "end kept 00 latch 0 refused 0\n";
    }
    -- "9 is given .. by replay for a leading number above 267, as it is read": before the second number, which is cut off, and
    -- before 1; "8 now speaks of over four bytes"
    ∷ record { trace = 0x8C ∷ 0x02 ∷ 0x80 ∷ []; prints = ascii "end kept 00 latch 0 refused 9\n" }
    ∷ record { trace = 0x06 ∷ 0x8C ∷ 0x02 ∷ []; prints = ascii "end kept 00 latch 0 refused 9\n" }
    ∷ record { trace = 0x01 ∷ 0xFF ∷ 0xFF ∷ 0xFF ∷ 0x7F ∷ []; prints = ascii "end kept 00 latch 0 refused 9\n" }
    ∷ record { trace = 0x01 ∷ 0x80 ∷ 0x80 ∷ 0x80 ∷ 0x80 ∷ 0x01 ∷ []; prints = ascii "end kept 00 latch 0 refused 8\n" }
    -- WREN and a number that is cut off: 8, and the latch is set
    ∷ record {
      trace = 0x01 ∷ 0x00 ∷ 0x00 ∷ 0x12 ∷ 0x01 ∷ 0x80 ∷ [];
      prints =
          ascii "part 1 bytes 512 kept 00\n"
          ++ ascii "sel 1 so - op 06 clocks 8 stored 0\n"
          ++ ascii "end kept 00 latch 1 refused 8\n";
    }
    -- "a kept number over 255 is 3, after 1"; line 1 is "absent if power-up isn't reached"
    ∷ record { trace = 0x03 ∷ 0x80 ∷ 0x02 ∷ 0x00 ∷ []; prints = ascii "end kept 00 latch 0 refused 3\n" }
    ∷ record { trace = 0x06 ∷ 0x80 ∷ 0x02 ∷ 0x00 ∷ []; prints = ascii "end kept 00 latch 0 refused 1\n" }
    -- ""end" in place of either is refusal 8"
    ∷ record { trace = []; prints = ascii "end kept 00 latch 0 refused 8\n" }
    ∷ record { trace = 0x01 ∷ []; prints = ascii "end kept 00 latch 0 refused 8\n" }
    ∷ []

examples : T (all traces)
unfolding all traces figure_of command after_code after_address next_address take_bit fall_wp byte_wp byte_came after_fall bit_of show_array show_status fall opened code_rise lower_rise rise sound_stage cs_fall cs_rise sck_rise sck_fall live step checks event written rests sound is_open sees_rise reading fill_refusal filled power_refusal power_up clocked item_events counted code_after sampled risen shown_after noted leading head_of after_event after_item items_from ran_from started ran replayed closes clocked_by shown_by after code_text shown_text part_line counts_text select_line end_line capitals hex decimal report
examples = tt
