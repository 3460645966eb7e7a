-- Row cycles, worked out by hand from document 02, Wish 9: part 3 has 512 rows of 4 bytes, parts 4 and 5 have 2,048 of 8. Each example
-- tells the rule from a way in which it could be misread. Assumes nothing.
use Rattle.std.specs.Prelude.{ℕ, Bool, true, ◌&&◌, List, [], ◌∷◌, ◌++◌, is_none, replicate, set}
use Rattle.trace.specs.Items.{clocked}
use Rattle.parts.specs.Figures.{figure_of}
use Rattle.pins.specs.declared.state.State.{State}
use Rattle.chip.specs.Examples.Run.{begins, blank, clock_all, clocks, own_serial, same, transfer, wren}
use Rattle.chip.specs.Run.{Chip, powered_up, run}
use Rattle.wear.specs.Count.{counted, row_count}
use Rattle.wear.specs.Run.{Worn, count_one, count_run, unworn}

-- a row's counter; of a list of them no other is above 0
pub record Count : Type 0 where
  pub row : ℕ
  pub count : ℕ

abbrev of : ℕ → ℕ → Count
of row count = record { row = row; count = count }

abbrev once : ℕ → Count
once row = of row 1

abbrev none : List Count
none = []

-- what the caller does: events by the plain call or by the counting call; or it gives the state other kept bits, or lends other
-- counters, between two calls
pub data Turn : Type 0 where
  plainly : List ℕ → Turn
  counting : List ℕ → Turn
  keeping : ℕ → Turn
  lending : List Count → Turn

-- an example: the part, powered up with no kept bits over an array of FF and counters at 0; what the caller does; the counters at the
-- end
pub record Wear : Type 0 where
  pub part : ℕ
  pub turns : List Turn
  pub counts : List Count

abbrev wears : ℕ → List ℕ → List Count → Wear
wears part events counts = record { part = part; turns = counting events ∷ []; counts = counts }

abbrev by_turns : ℕ → List Turn → List Count → Wear
by_turns part turns counts = record { part = part; turns = turns; counts = counts }

-- how it is run

abbrev pub filled_in : List ℕ → List Count → List ℕ
filled_in counters [] = counters
filled_in counters (c ∷ cs) = filled_in (set counters c.row c.count) cs

abbrev pub counters_of : ℕ → List Count → List ℕ
counters_of part counts = filled_in (replicate (row_count (figure_of part)) 0) counts

abbrev with_kept : State → ℕ → State
with_kept s kept =
    record {
      part = s.part;
      kept = kept;
      power = s.power;
      sck = s.sck;
      si = s.si;
      wp = s.wp;
      latch = s.latch;
      hold = s.hold;
      stage = s.stage;
    }

abbrev with_state : Chip → State → Chip
with_state c s = record { state = s; array = c.array; serial = c.serial }

abbrev turned : Worn → Turn → Worn
turned w (plainly events) = record { chip = run w.chip events; counters = w.counters }
turned w (counting events) = count_run w events
turned w (keeping kept) = record { chip = with_state w.chip (with_kept w.chip.state kept); counters = w.counters }
turned w (lending counts) = record { chip = w.chip; counters = counters_of w.chip.state.part counts }

-- whether no counted event is refused
abbrev all_taken : Worn → List ℕ → Bool
all_taken w [] = true
all_taken w (code ∷ codes) =
    let c = w.chip in
    is_none (counted c.serial c.array w.counters c.state code).refusal && all_taken (count_one w code) codes

abbrev taken : Worn → Turn → Bool
taken w (plainly events) = true
taken w (counting events) = all_taken w events
taken w (keeping kept) = true
taken w (lending counts) = true

abbrev ends : List ℕ → Worn → List Turn → Bool
ends counters w [] = same w.counters counters
ends counters w (t ∷ ts) = taken w t && ends counters (turned w t) ts

abbrev pub all_counted : List Wear → Bool
all_counted [] = true
all_counted (e ∷ es) =
    ends (counters_of e.part e.counts) (unworn e.part (powered_up e.part 0 (blank e.part) own_serial)) e.turns && all_counted es

-- what is sent

-- READ from an odd address below 100h, up to the address's last rise; and from any, with the fall that drives the first bit
abbrev asked : ℕ → List ℕ
asked at = begins (0x03 ∷ 0x00 ∷ []) ++ clocks 7 at ++ (5 ∷ 3 ∷ [])

abbrev shown : ℕ → List ℕ
shown at = begins (0x03 ∷ 0x00 ∷ at ∷ [])

-- a select in mode 3, SCK high at its start and at its end: the bytes, and one that is read
abbrev high : List ℕ → List ℕ
high bytes = 3 ∷ 0 ∷ 2 ∷ clock_all bytes ++ clocks 7 0 ++ (4 ∷ 3 ∷ 1 ∷ [])

-- a byte that is stored at an address below 100h, with the latch set before, in a select that is left open
abbrev stored : ℕ → List ℕ
stored at = wren ++ begins (0x02 ∷ 0x00 ∷ at ∷ 0x11 ∷ [])

-- "a READ or FSTRD byte whose first bit was driven"
unfoldable pub of_reading : List Wear
of_reading =
    -- one byte in mode 0: the fall after its last bit's rise drives the first bit of the next, 0004h, in row 1
    wears 3 (transfer (0x03 ∷ 0x00 ∷ 0x03 ∷ 0 ∷ [])) (once 0 ∷ once 1 ∷ [])
    -- in mode 3 that fall does not come
    ∷ wears 3 (high (0x03 ∷ 0x00 ∷ 0x03 ∷ [])) (once 0 ∷ [])
    -- the address alone, with its last fall, and without
    ∷ wears 3 (transfer (0x03 ∷ 0x00 ∷ 0x03 ∷ [])) (once 0 ∷ [])
    ∷ wears 3 (asked 0x03 ++ (1 ∷ [])) none
    -- bytes 0002h to 0008h: "adds one to its row unless the select's previous such byte lay in the same row"
    ∷ wears 3 (transfer (0x03 ∷ 0x00 ∷ 0x02 ∷ 0 ∷ 0 ∷ 0 ∷ 0 ∷ 0 ∷ 0 ∷ [])) (once 0 ∷ once 1 ∷ once 2 ∷ [])
    -- a row's four bytes
    ∷ wears 3 (high (0x03 ∷ 0x00 ∷ 0x04 ∷ 0 ∷ 0 ∷ 0 ∷ [])) (once 1 ∷ [])
    -- "rollover included": 07FFh, then 0000h
    ∷ wears 3 (transfer (0x03 ∷ 0x07 ∷ 0xFF ∷ 0 ∷ [])) (once 511 ∷ once 0 ∷ [])
    -- FSTRD of 0007h alone, and with 0008h: its dummy byte begins no byte of the array
    ∷ wears 4 (transfer (0x0B ∷ 0x00 ∷ 0x07 ∷ 0 ∷ [])) (once 0 ∷ [])
    ∷ wears 4 (transfer (0x0B ∷ 0x00 ∷ 0x07 ∷ 0 ∷ 0 ∷ [])) (once 0 ∷ once 1 ∷ [])
    -- rows of 8: FSTRD of 0003h and 0004h; READ of 3FFFh and 0000h on part 5
    ∷ wears 4 (transfer (0x0B ∷ 0x00 ∷ 0x03 ∷ 0 ∷ 0 ∷ [])) (once 0 ∷ [])
    ∷ wears 5 (transfer (0x03 ∷ 0x3F ∷ 0xFF ∷ 0 ∷ [])) (once 2047 ∷ once 0 ∷ [])
    -- nothing else that is shown: RDSR, RDID, SNR
    ∷ wears 3 (transfer (0x05 ∷ 0 ∷ [])) none
    ∷ wears 5 (transfer (0x9F ∷ 0 ∷ []) ++ transfer (0xC3 ∷ 0 ∷ [])) none
    -- "the select's previous such byte": one row in two selects
    ∷ wears 3 (transfer (0x03 ∷ 0x00 ∷ 0x00 ∷ []) ++ transfer (0x03 ∷ 0x00 ∷ 0x01 ∷ [])) (of 0 2 ∷ [])
    -- falls in hold drive nothing: 0003h, and eight pulses in hold
    ∷ wears 3 (shown 0x03 ++ (6 ∷ []) ++ clocked 0 ++ (7 ∷ 1 ∷ [])) (once 0 ∷ [])
    -- the select that wakes the chip is ignored
    ∷ wears 4 (transfer (0xB9 ∷ []) ++ transfer (0x03 ∷ 0x00 ∷ 0x00 ∷ [])) none
    -- a cut ends a select: READ 0000h, power off and on, READ 0000h
    ∷ wears 3 (shown 0x00 ++ (10 ∷ 11 ∷ []) ++ shown 0x00) (of 0 2 ∷ [])
    ∷ []

-- "or a stored byte"
unfoldable pub of_writing : List Wear
of_writing =
    -- five bytes from 0000h on; one at 0003h: a WRITE begins no further byte
    wears 3 (wren ++ transfer (0x02 ∷ 0x00 ∷ 0x00 ∷ 0x11 ∷ 0x22 ∷ 0x33 ∷ 0x44 ∷ 0x55 ∷ [])) (once 0 ∷ once 1 ∷ [])
    ∷ wears 3 (stored 0x03 ++ (1 ∷ [])) (once 0 ∷ [])
    -- seven bits of a byte; two bytes held back, with the latch off
    ∷ wears 3 (wren ++ begins (0x02 ∷ 0x00 ∷ 0x00 ∷ []) ++ clocks 7 0x11 ++ (1 ∷ [])) none
    ∷ wears 3 (transfer (0x02 ∷ 0x00 ∷ 0x00 ∷ 0x11 ∷ 0x22 ∷ [])) none
    -- a status byte that is kept is no byte of the array
    ∷ wears 3 (wren ++ transfer (0x01 ∷ 0x04 ∷ [])) none
    -- a WRITE and a READ of one row
    ∷ wears 3 (stored 0x02 ++ (1 ∷ []) ++ transfer (0x03 ∷ 0x00 ∷ 0x03 ∷ [])) (of 0 2 ∷ [])
    -- a byte held back between two that are stored in its row is not the "previous such byte": 0000h, 0001h held back, 0002h
    ∷ by_turns 3 (counting (stored 0x00) ∷ keeping 0x0C ∷ counting (clocked 0x22) ∷ keeping 0 ∷ counting (clocked 0x33) ∷ []) (once 0 ∷ [])
    -- nor is it where it begins a row: 0003h, 0004h held back, 0005h
    ∷ by_turns 3 (counting (stored 0x03) ∷ keeping 0x0C ∷ counting (clocked 0x22) ∷ keeping 0 ∷ counting (clocked 0x33) ∷ []) (once 0 ∷ once 1 ∷ [])
    ∷ []

-- "plain events on these parts keep that row too"
unfoldable pub of_plain : List Wear
of_plain =
    -- READ 0000h up to its first bit by plain events; then eight clocks begin 0001h, in the same row
    by_turns 3 (plainly (shown 0x00) ∷ counting (clocked 0) ∷ []) none
    -- 0003h, and then 0004h
    ∷ by_turns 3 (plainly (shown 0x03) ∷ counting (clocked 0) ∷ []) (once 1 ∷ [])
    -- the fall that drives the first bit is counted, and nothing before it; and the other way round
    ∷ by_turns 3 (plainly (asked 0x01) ∷ counting (2 ∷ []) ∷ []) (once 0 ∷ [])
    ∷ by_turns 3 (counting (asked 0x01) ∷ plainly (2 ∷ []) ∷ counting (1 ∷ []) ∷ []) none
    -- 0002h stored by plain events, then 0003h and 0004h
    ∷ by_turns 3 (plainly (stored 0x02) ∷ counting (clocked 0x22 ++ clocked 0x33) ∷ []) (once 1 ∷ [])
    ∷ []

-- "A full counter stays full.": of 32 bits there is no larger number than this
abbrev full : ℕ
full = 4294967295

unfoldable pub of_full : List Wear
of_full =
    by_turns 3 (lending (of 0 4294967294 ∷ []) ∷ counting (shown 0x00) ∷ []) (of 0 full ∷ [])
    ∷ by_turns 3 (lending (of 0 full ∷ []) ∷ counting (transfer (0x03 ∷ 0x00 ∷ 0x03 ∷ 0 ∷ [])) ∷ []) (of 0 full ∷ once 1 ∷ [])
    -- its byte is the "previous" one all the same
    ∷ by_turns 3 (lending (of 0 full ∷ []) ∷ counting (shown 0x00) ∷ lending none ∷ counting (clocked 0) ∷ []) none
    ∷ []
