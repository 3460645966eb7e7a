-- "Three SPI F-RAM parts by Ramtron, seen at their pins", the table of document 01, a fourth (document 02, Wish 3) and a fifth
-- (Wish 8). Assumes nothing.
-- What a row says: size, the array's bytes; kept, the status bits that are kept; latch, the status bit that shows the
-- latch; address_bytes, how many follow the op-code; upper, the upper address bits that are not ignored; top, the bit of
-- READ's and WRITE's op-code that is the top address bit, 0 for none; guards_array, whether /WP low holds back the array;
-- enable, the kept bit (WPEN) that must be set for /WP low to hold back the status byte, 0 where none need be; bp0 and
-- bp1, the block bits BP0 and BP1; dummy, how many dummy bytes follow FSTRD's address, 1 or none; wp_at_fall, whether /WP at the
-- fall of /CS counts for a status byte and not at the byte's first rise; ident, the bytes that RDID shows, zeros where the part has
-- none; serial, how many bytes the serial number has that SNR shows, 0 where the part has none; row, how many bytes a row
-- of the array has, where row cycles are counted (Wish 9), else 0; ops, the op-codes with their commands.
use Rattle.std.specs.Prelude.{ℕ, Bool, true, false, ◌&&◌, ◌||◌, List, [], ◌∷◌, get_or, length, replicate, eqb, ltb}
use Rattle.std.specs.Int.Bits.{bit_and}
use Rattle.parts.specs.declared.commands.Op.{Op}
use Rattle.parts.specs.declared.commands.Command.{Command}
use Rattle.parts.specs.declared.commands.Command.TheVariants.{Wren, Wrdi, Rdsr, Wrsr, Read, Fstrd, Write, Rdid, Snr, Sleep, Other}
use Rattle.parts.specs.declared.figures.Figure.{Figure}

abbrev op : ℕ → Command → Op
op code command = record { code = code; command = command }

-- "WREN 06h, WRDI 04h, RDSR 05h, WRSR 01h", on every part
abbrev common : List Op → List Op
common ops = op 0x06 Wren ∷ op 0x04 Wrdi ∷ op 0x05 Rdsr ∷ op 0x01 Wrsr ∷ ops

-- room that a row does not use: an op-code that does nothing, as other op-codes do
abbrev filler : Op
filler = op 0 Other

abbrev pub ident_bytes : ℕ
ident_bytes = 9

-- "a serial number of eight bytes"
abbrev pub serial_bytes : ℕ
serial_bytes = 8

abbrev unnamed : List ℕ
unnamed = replicate ident_bytes 0

-- "1 | FM25L04 | 512 | op-code bit 3 is the top bit, then one byte | 0Ch". "READ 03h and 0Bh, WRITE 02h and 0Ah, bit 3
--  being A8." "/WP low holds back the array and the status byte."
abbrev pub fm25l04 : Figure
fm25l04 =
    record {
      size = 512;
      kept = 0x0C;
      latch = 0x02;
      address_bytes = 1;
      upper = 0x01;
      top = 0x08;
      guards_array = true;
      enable = 0;
      bp0 = 0x04;
      bp1 = 0x08;
      dummy = 0;
      wp_at_fall = false;
      ident = unnamed;
      serial = 0;
      row = 0;
      ops = common (op 0x03 Read ∷ op 0x0B Read ∷ op 0x02 Write ∷ op 0x0A Write ∷ filler ∷ filler ∷ []);
    }

-- "2 | FM25L04B | 512 | as part 1 | 0Ch". "Parts 1 and 2 behave alike."
abbrev pub fm25l04b : Figure
fm25l04b = fm25l04

-- "3 | FM25C160 | 2,048 | two bytes, upper five bits ignored | 8Ch". "READ 03h, WRITE 02h." "/WP low with WPEN set holds
--  back the status byte only." 003: "512 rows each 32 bits wide. Each 4 bytes in the address mark the beginning of a new row."
abbrev pub fm25c160 : Figure
fm25c160 =
    record {
      size = 2048;
      kept = 0x8C;
      latch = 0x02;
      address_bytes = 2;
      upper = 0x07;
      top = 0;
      guards_array = false;
      enable = 0x80;
      bp0 = 0x04;
      bp1 = 0x08;
      dummy = 0;
      wp_at_fall = false;
      ident = unnamed;
      serial = 0;
      row = 4;
      ops = common (op 0x03 Read ∷ op 0x02 Write ∷ filler ∷ filler ∷ filler ∷ filler ∷ []);
    }

-- "It has 16,384 bytes, two-byte address with the upper two bits ignored, ten op-codes (source document 004). FSTRD 0Bh takes a
--  dummy byte after the address. RDID 9Fh shows the device bytes that 004 prints". "The status layout and the protected ranges
--  are 004's. /W guards the status byte only, with WPEN set, and its level at the fall of /S counts for the whole select. SLEEP
--  B9h takes effect at the rise of /S". 004, Table 3: "3000h to 3FFFh (upper ¼)", "2000h to 3FFFh (upper
--  ½)". Table 6: "six bytes of the continuation code 7Fh followed by the single byte C2h", then "21h" and a byte of zeros.
-- 004, "Endurance": "2K rows of 64-bits each".
-- Parts 4 and 5 differ in what C3h does and in the serial number, and in nothing else.
abbrev fm25v : Op → ℕ → Figure
fm25v snr serial =
    record {
      size = 16384;
      kept = 0x8C;
      latch = 0x02;
      address_bytes = 2;
      upper = 0x3F;
      top = 0;
      guards_array = false;
      enable = 0x80;
      bp0 = 0x04;
      bp1 = 0x08;
      dummy = 1;
      wp_at_fall = true;
      ident = 0x7F ∷ 0x7F ∷ 0x7F ∷ 0x7F ∷ 0x7F ∷ 0x7F ∷ 0xC2 ∷ 0x21 ∷ 0x00 ∷ [];
      serial = serial;
      row = 8;
      ops = common (op 0x03 Read ∷ op 0x0B Fstrd ∷ op 0x02 Write ∷ op 0xB9 Sleep ∷ op 0x9F Rdid ∷ snr ∷ []);
    }

-- "C3h does nothing here."
abbrev pub fm25v01 : Figure
fm25v01 = fm25v filler 0

-- "This part is part 4 with C3h showing a serial number of eight bytes". 004, Table 1: "SNR Read S/N 1100 0011b".
abbrev pub fm25vn01 : Figure
fm25vn01 = fm25v (op 0xC3 Snr) serial_bytes

-- a number that is no part's: no rule reads its row, since 1 or 4 is given before
abbrev pub none : Figure
none = fm25l04

-- the rows of parts 1 to 5
abbrev pub rows : List Figure
rows = fm25l04 ∷ fm25l04b ∷ fm25c160 ∷ fm25v01 ∷ fm25vn01 ∷ []

abbrev pub parts : List Figure
parts = none ∷ rows

-- a part's row
unfoldable pub figure_of : ℕ → Figure
figure_of part = get_or parts part none

-- "1 | part not 1 to 3"; "1 now begins at part 6"
abbrev pub is_part : ℕ → Bool
is_part part = ltb 0 part && ltb part (length parts)

-- "2 | array length is not the part's"; "2 knows 16,384"
abbrev pub fits_part : ℕ → ℕ → Bool
fits_part part len = eqb len (figure_of part).size

-- 15, "for part 5 only ..: serial not eight bytes long": where a part has no serial number, any length will do
abbrev pub takes_serial : Figure → ℕ → Bool
takes_serial f len = eqb f.serial 0 || eqb len f.serial

-- and by the part's number
abbrev pub fits_serial : ℕ → ℕ → Bool
fits_serial part len = takes_serial (figure_of part) len

-- "3 | kept bits outside the mask"
abbrev pub under_mask : Figure → ℕ → Bool
under_mask f kept = eqb (bit_and kept f.kept) kept

abbrev pub in_mask : ℕ → ℕ → Bool
in_mask part kept = under_mask (figure_of part) kept
