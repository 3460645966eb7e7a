-- Examples, computed from the long division and the check alone, with no table. Assumes nothing.
use Rattle.std.specs.Prelude.{ℕ, ◌≡◌, refl, true, false, List, [], ◌∷◌, map}
use Rattle.serial.specs.Check.{checked, check_numbers}
use Rattle.serial.specs.Division.{remainder, bits_of, zeros, check_byte}

-- x^10 + x^8, so 101 and eight coefficients more, by hand: x^10 leaves x^4 + x^3 + x^2, x^8 leaves x^2 + x + 1, together
-- x^4 + x^3 + x + 1
two_powers : remainder 3 (true ∷ false ∷ true ∷ zeros) ≡ bits_of 0b0001_1011
two_powers = refl

record Example : Type 0 where
  bytes : List ℕ
  gives : List ℕ

-- bytes, and their check byte
leaves : List ℕ → ℕ → Example
leaves bytes byte = record { bytes = bytes; gives = byte ∷ [] }

divisions : List Example
divisions =
    -- the check value that is printed for this CRC-8 everywhere: of the nine characters 123456789
    leaves (0x31 ∷ 0x32 ∷ 0x33 ∷ 0x34 ∷ 0x35 ∷ 0x36 ∷ 0x37 ∷ 0x38 ∷ 0x39 ∷ []) 0xF4
    ∷ leaves [] 0x00
    -- x^8 is x^2 + x + 1; x^15, the byte's bit 7, is x^7 + x^3 + 1
    ∷ leaves (0x01 ∷ []) 0x07
    ∷ leaves (0x80 ∷ []) 0x89
    -- in one order and in the other
    ∷ leaves (0x01 ∷ 0x02 ∷ []) 0x1B
    ∷ leaves (0x02 ∷ 0x01 ∷ []) 0x2D
    ∷ []

divisions_hold : map (λ (e : Example). check_byte e.bytes ∷ []) divisions ≡ map (λ (e : Example). e.gives) divisions
unfolding divisions leaves check_byte
divisions_hold = refl

-- a serial number, and what its check answers
yes : List ℕ → Example
yes serial = record { bytes = serial; gives = 0 ∷ 1 ∷ [] }

no : List ℕ → Example
no serial = record { bytes = serial; gives = 0 ∷ 0 ∷ [] }

fifteen : List ℕ → Example
fifteen serial = record { bytes = serial; gives = 15 ∷ 0 ∷ [] }

serials : List Example
serials =
    yes (0x00 ∷ 0x00 ∷ 0x00 ∷ 0x00 ∷ 0x00 ∷ 0x00 ∷ 0x00 ∷ 0x00 ∷ [])
    -- a 1 in the last byte that is divided, and in the first: the customer's bytes are divided, the first byte first
    ∷ yes (0x00 ∷ 0x00 ∷ 0x00 ∷ 0x00 ∷ 0x00 ∷ 0x00 ∷ 0x01 ∷ 0x07 ∷ [])
    ∷ yes (0x01 ∷ 0x00 ∷ 0x00 ∷ 0x00 ∷ 0x00 ∷ 0x00 ∷ 0x00 ∷ 0xDF ∷ [])
    ∷ no (0x01 ∷ 0x00 ∷ 0x00 ∷ 0x00 ∷ 0x00 ∷ 0x00 ∷ 0x00 ∷ 0x07 ∷ [])
    -- the check byte 00 is not always right
    ∷ no (0x01 ∷ 0x00 ∷ 0x00 ∷ 0x00 ∷ 0x00 ∷ 0x00 ∷ 0x00 ∷ 0x00 ∷ [])
    -- the check byte stands last, and its bits are not turned round
    ∷ yes (0x12 ∷ 0x34 ∷ 0x56 ∷ 0x78 ∷ 0x9A ∷ 0xBC ∷ 0xDE ∷ 0xD1 ∷ [])
    ∷ no (0xD1 ∷ 0x12 ∷ 0x34 ∷ 0x56 ∷ 0x78 ∷ 0x9A ∷ 0xBC ∷ 0xDE ∷ [])
    ∷ no (0x12 ∷ 0x34 ∷ 0x56 ∷ 0x78 ∷ 0x9A ∷ 0xBC ∷ 0xDE ∷ 0x8B ∷ [])
    -- the first two exchanged: the check byte is 71
    ∷ no (0x34 ∷ 0x12 ∷ 0x56 ∷ 0x78 ∷ 0x9A ∷ 0xBC ∷ 0xDE ∷ 0xD1 ∷ [])
    ∷ yes (0x34 ∷ 0x12 ∷ 0x56 ∷ 0x78 ∷ 0x9A ∷ 0xBC ∷ 0xDE ∷ 0x71 ∷ [])
    ∷ yes (0xFF ∷ 0xFF ∷ 0xFF ∷ 0xFF ∷ 0xFF ∷ 0xFF ∷ 0xFF ∷ 0x0C ∷ [])
    -- "15 .. serial not eight bytes long"
    ∷ fifteen []
    ∷ fifteen (0x00 ∷ 0x00 ∷ 0x00 ∷ 0x00 ∷ 0x00 ∷ 0x00 ∷ 0x00 ∷ [])
    ∷ fifteen (0x00 ∷ 0x00 ∷ 0x00 ∷ 0x00 ∷ 0x00 ∷ 0x00 ∷ 0x00 ∷ 0x00 ∷ 0x00 ∷ [])
    ∷ []

serials_hold : map (λ (e : Example). check_numbers (checked e.bytes)) serials ≡ map (λ (e : Example). e.gives) serials
unfolding serials yes no fifteen checked check_byte
serials_hold = refl
