-- A transfer's bits cut into eights, and its bytes read as op-code, address and data. Assumes nothing.
use Rattle.std.specs.Prelude.{ℕ, zero, suc, ◌+◌, ◌*◌, ◌/◌, ◌%◌, ◌^◌, Bool, true, false, cond, List, [], ◌∷◌, map, length, take, drop, get_or, eqb}
use Rattle.parts.specs.Commands.{command}
use Rattle.parts.specs.declared.figures.Figure.{Figure}
use Rattle.parts.specs.declared.commands.Command.{Command}
use Rattle.parts.specs.declared.commands.Command.TheVariants.{Wren, Wrdi, Rdsr, Wrsr, Read, Fstrd, Write, Rdid, Snr, Sleep, Other}
use Rattle.history.specs.Wire.{Bit}

-- a whole byte: its value, and the level of /WP that it came with
pub record Byte : Type 0 where
  pub value : ℕ
  pub wp : Bool

-- "most significant bit first"
unfoldable pub bits_value : List Bit → ℕ
bits_value [] = 0
bits_value (b ∷ bs) = cond b.si 1 0 * 2 ^ length bs + bits_value bs

-- /WP "is read at the byte's first rise and remembered for that byte" (document 02, Wish 2). The bit that `get_or` names for want
-- of a first is never read.
abbrev pub byte : List Bit → Byte
byte bits = record { value = bits_value bits; wp = (get_or bits 0 (record { si = false; wp = true })).wp }

-- so many bytes' bits
unfoldable pub eights : ℕ → List Bit → List (List Bit)
eights zero bits = []
eights (suc n) bits = take 8 bits ∷ eights n (drop 8 bits)

-- "each whole memory byte", "the first whole status byte": fewer than eight bits at the end are no byte
unfoldable pub whole_bytes : List Bit → List Byte
whole_bytes bits = map byte (eights (length bits / 8) bits)

-- "op-code bit 3 is the top bit": the address bit that the op-code holds, 0 where the part has none there
unfoldable pub top_bit : Figure → ℕ → ℕ
top_bit f code = cond (eqb f.top 0) 0 (code / f.top % 2)

-- bytes as one number, the upper first
unfoldable pub number : ℕ → List Byte → ℕ
number high [] = high
number high (b ∷ bs) = number (high * 256 + b.value) bs

-- "op-code bit 3 is the top bit, then one byte", "two bytes, upper five bits ignored"
unfoldable pub address : Figure → ℕ → List Byte → ℕ
address f code bs = number (top_bit f code) (take f.address_bytes bs) % f.size

-- /W's "level at the fall of /S counts for the whole select" (document 02, Wish 3): where the row says so, WRSR's byte came with
-- that level. WRITE's is left: there "/W guards the status byte only".
abbrev pub wrsr_byte : Figure → Bool → Byte → Byte
wrsr_byte f fell b = record { value = b.value; wp = cond f.wp_at_fall fell b.wp }

-- what a transfer says: the latch's new value (WREN, WRDI), memory bytes from an address on (WRITE), that memory bytes from an
-- address on be shown after a header of so many bytes (READ, FSTRD), status bytes (WRSR), sleep (SLEEP), or nothing that any of
-- these rules reads. "Other op-codes and later bits that no rule names do nothing".
pub data Reading : Type 0 where
  latches : Bool → Reading
  stores : ℕ → List Byte → Reading
  shows : ℕ → ℕ → Reading
  keeps : List Byte → Reading
  sleeps : Reading
  idles : Reading

unfoldable pub read_as : Figure → Bool → ℕ → List Byte → Command → Reading
read_as f fell code bs Wren = latches true
read_as f fell code bs Wrdi = latches false
read_as f fell code bs Rdsr = idles
read_as f fell code bs Wrsr = keeps (map (wrsr_byte f fell) bs)
read_as f fell code bs Read = shows (address f code bs) (1 + f.address_bytes)
read_as f fell code bs Fstrd = shows (address f code bs) (1 + f.address_bytes + f.dummy)
read_as f fell code bs Write = stores (address f code bs) (drop f.address_bytes bs)
read_as f fell code bs Rdid = idles
read_as f fell code bs Snr = idles
read_as f fell code bs Sleep = sleeps
read_as f fell code bs Other = idles

-- "The first eight bits are the op-code". `fell` is the level of /WP at the fall of /CS.
unfoldable pub read_transfer : Figure → Bool → List Byte → Reading
read_transfer f fell [] = idles
read_transfer f fell (op ∷ bs) = read_as f fell op.value bs (command f.ops op.value)
