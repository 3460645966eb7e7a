-- The counting call's examples (wear's Examples), told by the history: the rows that it reads from the events alone, added up. And rows in
-- order, by chip and by history, on a part that is made up to be small: they come round to a row again, and /WP holds back a byte between two
-- that are stored. Computed; assumes nothing.
use Rattle.std.specs.Prelude.{ℕ, Bool, true, false, ◌&&◌, List, [], ◌∷◌, ◌++◌, T, replicate}
use Rattle.trace.specs.Items.{clocked}
use Rattle.parts.specs.Figures.{figure_of, fm25c160}
use Rattle.parts.specs.Commands.{command}
use Rattle.parts.specs.Guards.{first_protected, may_store, may_keep}
use Rattle.parts.specs.declared.figures.Figure.{Figure}
use Rattle.stages.specs.Address.{after_code, after_address, next_address}
use Rattle.stages.specs.Bits.{take_bit, bit_of}
use Rattle.stages.specs.Close.{after_fall}
use Rattle.stages.specs.Last.{last_of}
use Rattle.stages.specs.Wp.{fall_wp, byte_came}
use Rattle.select.specs.Fall.{show_array, fall}
use Rattle.select.specs.Rise.{opened, code_rise, upper_rise, lower_rise, write_rise, rise}
use Rattle.pins.specs.Edges.{cs_fall, cs_rise, sck_rise, sck_fall}
use Rattle.pins.specs.Levels.{at_rest}
use Rattle.pins.specs.declared.state.State.{State}
use Rattle.step.specs.Step.{live, step, written}
use Rattle.chip.specs.Event.{answer_of}
use Rattle.chip.specs.Examples.Run.{begins, blank, same, transfer, wren}
use Rattle.wear.specs.Count.{cycled, add_all}
use Rattle.wear.specs.Examples.Counts.{Wear, Turn, plainly, counting, keeping, lending, counters_of, of_reading, of_writing, of_full}
use Rattle.history.specs.Wire.{rest, put, refusal, after_one, act, acts}
use Rattle.history.specs.Transfers.{rises, transfer_from, spans}
use Rattle.history.specs.Bytes.{bits_value, eights, whole_bytes, top_bit, number, address, read_as, read_transfer}
use Rattle.history.specs.History.{store_if, overlay, keep_if, keep_first, effect, at_least_one, latch_drops, spanned, is_sleep, obeyed}
use Rattle.history.specs.Rows.{falls_past, places, stored_at, touched, changes, cycles, rows_of, row_history}

-- an example that is counted events from power-up, over the counters that are lent before them, and nothing else: the history knows of
-- no other
abbrev alone : ℕ → List ℕ → List ℕ → List Turn → List ℕ → Bool
alone part before events [] counters = same (add_all before (row_history part 0 (blank part) events)) counters
alone part before events (turn ∷ more) counters = true

abbrev told : ℕ → List ℕ → List Turn → List ℕ → Bool
told part before [] counters = true
told part before (plainly events ∷ more) counters = true
told part before (counting events ∷ more) counters = alone part before events more counters
told part before (keeping kept ∷ more) counters = true
told part before (lending counts ∷ more) counters = told part (counters_of part counts) more counters

abbrev told_all : List Wear → Bool
told_all [] = true
told_all (e ∷ es) = told e.part (counters_of e.part []) e.turns (counters_of e.part e.counts) && told_all es

pub wears_told : T (told_all (of_reading ++ of_writing ++ of_full))
unfolding of_reading of_writing of_full clocked add_all row_history rows_of cycles changes touched stored_at places falls_past obeyed is_sleep spanned latch_drops at_least_one effect keep_first keep_if overlay store_if read_transfer read_as address number top_bit whole_bytes eights bits_value rises transfer_from spans acts act after_one refusal put figure_of command first_protected may_store may_keep
wears_told = tt

-- part 3 with two rows of four bytes, and /WP low holding back the array
abbrev small : Figure
small =
    record {
      size = 8;
      kept = fm25c160.kept;
      latch = fm25c160.latch;
      address_bytes = fm25c160.address_bytes;
      upper = 0;
      top = fm25c160.top;
      guards_array = true;
      enable = fm25c160.enable;
      bp0 = fm25c160.bp0;
      bp1 = fm25c160.bp1;
      dummy = fm25c160.dummy;
      wp_at_fall = fm25c160.wp_at_fall;
      ident = fm25c160.ident;
      serial = fm25c160.serial;
      row = fm25c160.row;
      ops = fm25c160.ops;
    }

-- the rows that the chip adds one to, step by step
abbrev chip_rows : List ℕ → State → List ℕ → List ℕ
chip_rows xs s [] = []
chip_rows xs s (code ∷ codes) =
    let t = answer_of s (step small [] xs s code) in
    cycled small.row (last_of s.stage) (last_of t.state.stage) ++ chip_rows (written t.note xs) t.state codes

abbrev ones : List ℕ
ones = replicate 8 0xFF

abbrev history_rows : List ℕ → List ℕ
history_rows codes =
    rows_of small (record { latch = false; kept = 0; array = ones }) (obeyed small false (spans (acts (rest true) codes)))

abbrev both : List ℕ → List ℕ → Bool
both codes rows = same (chip_rows ones (at_rest 3 0 true) codes) rows && same (history_rows codes) rows

-- READ 6 and ten bytes with their last falls: 6, 7, then 0 to 7, then 0
abbrev round_again : List ℕ
round_again = transfer (0x03 ∷ 0x00 ∷ 0x06 ∷ 0 ∷ 0 ∷ 0 ∷ 0 ∷ 0 ∷ 0 ∷ 0 ∷ 0 ∷ 0 ∷ 0 ∷ [])

-- three bytes of a WRITE, the second with /WP low
abbrev held_between : ℕ → List ℕ
held_between at = wren ++ begins (0x02 ∷ 0x00 ∷ at ∷ 0x11 ∷ []) ++ (8 ∷ []) ++ clocked 0x22 ++ (9 ∷ []) ++ clocked 0x33 ++ (1 ∷ [])

pub rows_told : T (both round_again (1 ∷ 0 ∷ 1 ∷ 0 ∷ []) && both (held_between 0) (0 ∷ []) && both (held_between 3) (0 ∷ 1 ∷ []))
unfolding clocked rows_of cycles changes touched stored_at places falls_past obeyed is_sleep spanned latch_drops at_least_one effect keep_first keep_if overlay store_if read_transfer read_as address number top_bit whole_bytes eights bits_value rises transfer_from spans acts act after_one refusal put command first_protected may_store may_keep after_code after_address next_address take_bit bit_of fall_wp byte_came after_fall show_array fall opened code_rise upper_rise lower_rise write_rise rise cs_fall cs_rise sck_rise sck_fall live step written
rows_told = tt
