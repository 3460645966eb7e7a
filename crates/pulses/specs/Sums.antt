-- What many pulses come to, by sums. Assumes nothing.
use Rattle.std.specs.Prelude.{ℕ, zero, suc, ◌+◌, ◌-◌, ◌*◌, ◌/◌, ◌%◌, Bool, cond, ◌&&◌, ◌||◌, not, List, eqb, leb, ltb, length, set}
use Rattle.parts.specs.Figures.{figure_of, fits_part}
use Rattle.parts.specs.Guards.{first_protected}
use Rattle.parts.specs.declared.figures.Figure.{Figure}
use Rattle.stages.specs.Bits.{no_bits}
use Rattle.stages.specs.Wp.{is_up}
use Rattle.stages.specs.Close.{is_closed}
use Rattle.stages.specs.declared.stage.Came.TheVariants.{Bytes}
use Rattle.stages.specs.declared.stage.Stage.{Stage}
use Rattle.stages.specs.declared.stage.Stage.TheVariants.{Writing}
use Rattle.select.specs.Fall.{show_array}
use Rattle.pins.specs.Levels.{hold_high}
use Rattle.pins.specs.Sound.{sound}
use Rattle.pins.specs.declared.state.State.{State}
use Rattle.report.specs.Record.{code_clocks}
use Rattle.report.specs.declared.record.Record.{Record}
use Rattle.turns.specs.declared.stand.Stand.{Stand}

-- the largest number that a count can hold
abbrev pub most : ℕ
most = 0xFFFFFFFFFFFFFFFF

-- so many things can be counted with no count stopping
abbrev pub room : ℕ → ℕ → Bool
room count more = leb (count + more) most

-- the op-code is whole, and no count stops within so many pulses
unfoldable pub counts_on : Record → ℕ → Bool
counts_on told n = leb code_clocks told.clocks && room told.clocks n && room told.shown n && room told.stored n

-- the checks of an event let the chip and the array through, and SCK is low
unfoldable pub steady : State → ℕ → Bool
steady s len = not s.sck && sound s && fits_part s.part len

-- no select sees a pulse: power off, hold, or none open
unfoldable pub idle : State → Bool
idle s = not s.power || not (hold_high s.hold) || is_closed s.stage

-- a record with so many more of each count
abbrev pub more : Record → ℕ → ℕ → ℕ → Record
more told clocks shown stored =
    record {
      ignored = told.ignored;
      clocks = told.clocks + clocks;
      code = told.code;
      sample = told.sample;
      shown = told.shown + shown;
      stored = told.stored + stored;
    }

-- the bench with its chip in another stage and another record
abbrev pub in_stage : Stand → Stage → Record → Stand
in_stage stand stage told =
    record {
      chip =
          record {
            part = stand.chip.part;
            kept = stand.chip.kept;
            power = stand.chip.power;
            sck = stand.chip.sck;
            si = stand.chip.si;
            wp = stand.chip.wp;
            latch = stand.chip.latch;
            hold = stand.chip.hold;
            stage = stage;
          };
      selects = stand.selects;
      told = told;
    }

-- a READ: so many bytes were shown, and bit 7 of the next one stands on SO
unfoldable pub read_on : Stand → List ℕ → ℕ → ℕ → Stand
read_on stand xs at bytes = in_stage stand (show_array xs ((at + bytes) % length xs) 7) (more stand.told (bytes * 8) bytes 0)

-- ---- a WRITE by whole bytes. SI stands, so that each is 00 or FF

abbrev pub still_byte : Bool → ℕ
still_byte si = cond si 255 0

-- "Who may write": an address may be stored to exactly where it lies below this; latch, /WP and blocks are in it
unfoldable pub allowed : Figure → Bool → ℕ → Bool → ℕ
allowed f latch kept wp = cond (not latch) 0 (cond (f.guards_array && not wp) 0 (first_protected f kept))

abbrev pub store_limit : State → ℕ
store_limit s = allowed (figure_of s.part) s.latch s.kept (is_up s.wp)

abbrev pub put : ℕ → ℕ → List ℕ → ℕ → List ℕ
put limit byte xs at = cond (ltb at limit) (set xs at byte) xs

-- one where a byte at the address is stored
abbrev pub one : ℕ → ℕ → ℕ
one limit at = cond (ltb at limit) 1 0

-- so many bytes from the place x on, which is counted on past the array's size
abbrev pub fill_bytes : ℕ → ℕ → ℕ → ℕ → ℕ → List ℕ → List ℕ
fill_bytes size limit byte zero x xs = xs
fill_bytes size limit byte (suc n) x xs = fill_bytes size limit byte n (suc x) (put limit byte xs (x % size))

-- how many of them are stored, one by one
abbrev pub stores : ℕ → ℕ → ℕ → ℕ → ℕ
stores size limit zero x = 0
stores size limit (suc n) x = one limit (x % size) + stores size limit n (suc x)

abbrev pub least : ℕ → ℕ → ℕ
least a b = cond (ltb a b) a b

-- and how many from place 0 up to the place x: in whole rounds of the array, and in the last one
unfoldable pub before : ℕ → ℕ → ℕ → ℕ
before size limit x = x / size * limit + least (x % size) limit

-- how many of so many bytes from an address on
abbrev pub stored_in : ℕ → ℕ → ℕ → ℕ → ℕ
stored_in size limit at bytes = before size limit (at + bytes) - before size limit at

-- the byte stored last, one by one: its address and one
abbrev pub last_put : ℕ → ℕ → ℕ → ℕ
last_put limit last at = cond (ltb at limit) (at + 1) last

abbrev pub last_in : ℕ → ℕ → ℕ → ℕ → ℕ → ℕ
last_in size limit zero x last = last
last_in size limit (suc n) x last = last_in size limit n (suc x) (last_put limit last (x % size))

-- and at once, from the address after them all: where any is stored, it is the one before that address or the last one below the
-- limit. Before address 0 lies the array's last one, and where that is stored it is both.
abbrev pub last_stored : ℕ → ℕ → ℕ → ℕ → ℕ
last_stored limit stored end last = cond (eqb stored 0) last (cond (ltb 0 end && ltb end limit) end limit)

-- a WRITE: so many bytes were written, and the next one begins
unfoldable pub write_on : Stand → ℕ → ℕ → ℕ → ℕ → Stand
write_on stand size last at bytes =
    let limit = store_limit stand.chip in
    let stored = stored_in size limit at bytes in
    let end = (at + bytes) % size in
    in_stage stand (Writing Bytes no_bits (last_stored limit stored end last) end) (more stand.told (bytes * 8) 0 stored)

-- and the array after it
unfoldable pub array_on : State → List ℕ → ℕ → ℕ → List ℕ
array_on s xs at bytes = fill_bytes (length xs) (store_limit s) (still_byte (is_up s.si)) bytes at xs
