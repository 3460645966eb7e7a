-- A seen fall of SCK: "Output moves on a seen fall of SCK once the header (op-code, and address for READ) is whole."
-- Assumes nothing.
use Rattle.std.specs.Prelude.{ℕ, ◌+◌, ◌-◌, Bool, cond, List, get_or, eqb, ltb, Option, Some, None}
use Rattle.std.specs.Int.Bits.{bit_or}
use Rattle.parts.specs.Figures.{ident_bytes}
use Rattle.parts.specs.declared.figures.Figure.{Figure}
use Rattle.stages.specs.Bits.{bit_of}
use Rattle.stages.specs.Address.{next_address}
use Rattle.select.specs.declared.notes.Level.{Level}
use Rattle.select.specs.declared.notes.Level.TheVariants.{Low, High, Released}
use Rattle.stages.specs.declared.stage.End.TheVariants.{Quiet}
use Rattle.stages.specs.declared.stage.Line.{Line}
use Rattle.stages.specs.declared.stage.Line.TheVariants.{Down, Up}
use Rattle.stages.specs.declared.stage.What.TheVariants.{Array, Status, Ident, Serial}
use Rattle.stages.specs.declared.stage.Stage.{Stage}
use Rattle.stages.specs.declared.stage.Stage.TheVariants.{Closed, Code, Upper, Lower, Ready, ArrayOut, StatusOut, Writing, Keeping, Over, Dummy, IdentOut, SerialOut, Asleep}

-- "Status byte: bit 7 WPEN (part 3; 0 on parts 1 and 2), bits 3 and 2 BP1 and BP0, bit 1 the latch, the rest 0."
-- The kept bits lie under the part's mask, so the rest is 0.
abbrev pub status_byte : Figure → ℕ → Bool → ℕ
status_byte f kept latch = cond latch (bit_or kept f.latch) kept

-- "READ shows the byte at the address, each bit from the array as lent at its fall"
unfoldable pub show_array : List ℕ → ℕ → ℕ → Stage
show_array xs at bit = ArrayOut (bit_of (get_or xs at 0) bit) bit at

unfoldable pub show_status : ℕ → ℕ → Stage
show_status status bit = StatusOut (bit_of status bit) bit

-- "RDID 9Fh shows the device bytes that 004 prints, then releases SO."
unfoldable pub show_ident : Figure → ℕ → ℕ → Stage
show_ident f at bit = IdentOut (bit_of (get_or f.ident at 0) bit) bit at

-- past a byte the next, of so many that are shown once
abbrev pub place_after : ℕ → ℕ → Option ℕ
place_after count at = cond (ltb (at + 1) count) (Some (at + 1)) None

unfoldable pub next_ident : Figure → ℕ → Stage
next_ident f at = cond (ltb at (ident_bytes - 1)) (show_ident f (at + 1) 7) (Over Quiet)

-- "C3h showing a serial number of eight bytes, then releasing SO. The bytes are lent, read only": each bit as lent at its fall
unfoldable pub show_serial : List ℕ → ℕ → ℕ → Stage
show_serial serial at bit = SerialOut (bit_of (get_or serial at 0) bit) bit at

unfoldable pub next_serial : Figure → List ℕ → ℕ → Stage
next_serial f serial at = cond (ltb (at + 1) f.serial) (show_serial serial (at + 1) 7) (Over Quiet)

-- "once the header is whole": before that, and where nothing is shown, a fall does nothing. "bit 7 first, then the next
--  address, rolling from the last to 0. RDSR shows the status byte once; the fall after its eighth bit's rise releases
--  SO (H)."
unfoldable pub fall : Figure → List ℕ → List ℕ → ℕ → Stage → Stage
fall f serial xs status Closed = Closed
fall f serial xs status (Code wp shift) = Code wp shift
fall f serial xs status (Upper purpose shift) = Upper purpose shift
fall f serial xs status (Lower purpose shift page) = Lower purpose shift page
fall f serial xs status (Ready Array at) = show_array xs at 7
fall f serial xs status (Ready Status at) = show_status status 7
fall f serial xs status (Ready Ident at) = show_ident f at 7
fall f serial xs status (Ready Serial at) = show_serial serial at 7
fall f serial xs status (ArrayOut level bit at) =
    cond (eqb bit 0) (show_array xs (next_address f at) 7) (show_array xs at (bit - 1))
fall f serial xs status (StatusOut level bit) = cond (eqb bit 0) (Over Quiet) (show_status status (bit - 1))
fall f serial xs status (Writing came shift last at) = Writing came shift last at
fall f serial xs status (Keeping wp shift) = Keeping wp shift
fall f serial xs status (Over end) = Over end
fall f serial xs status (Dummy shift at) = Dummy shift at
fall f serial xs status (IdentOut level bit at) = cond (eqb bit 0) (next_ident f at) (show_ident f at (bit - 1))
fall f serial xs status (SerialOut level bit at) =
    cond (eqb bit 0) (next_serial f serial at) (show_serial serial at (bit - 1))
fall f serial xs status Asleep = Asleep

abbrev pub line_level : Line → Level
line_level Down = Low
line_level Up = High

-- the level that a select puts on SO
abbrev pub stage_level : Stage → Level
stage_level Closed = Released
stage_level (Code wp shift) = Released
stage_level (Upper purpose shift) = Released
stage_level (Lower purpose shift page) = Released
stage_level (Ready what at) = Released
stage_level (ArrayOut level bit at) = line_level level
stage_level (StatusOut level bit) = line_level level
stage_level (Writing came shift last at) = Released
stage_level (Keeping wp shift) = Released
stage_level (Over end) = Released
stage_level (Dummy shift at) = Released
stage_level (IdentOut level bit at) = line_level level
stage_level (SerialOut level bit at) = line_level level
stage_level Asleep = Released
