-- "the long division" of document 02's Wish 8, which gives the check byte; nothing of the table is in it. A polynomial over bits is its
-- coefficients, the highest power first. Assumes nothing.
use Rattle.std.specs.Prelude.{ℕ, zero, suc, ◌+◌, ◌*◌, ◌^◌, Bool, true, false, cond, not, List, [], ◌∷◌, ◌++◌, eqb, length}
use Rattle.laws.specs.Bits.{bit_at}

-- "polynomial x^8+x^2+x+1": what stands behind x^8
abbrev pub divisor : List Bool
divisor = false ∷ false ∷ false ∷ false ∷ false ∷ true ∷ true ∷ true ∷ []

-- the sum of two coefficients; and of two polynomials, from their first coefficients on: where one ends, the rest is the other's
abbrev pub plus_bit : Bool → Bool → Bool
plus_bit false b = b
plus_bit true b = not b

abbrev pub plus : List Bool → List Bool → List Bool
plus [] bs = bs
plus (a ∷ more) [] = a ∷ more
plus (a ∷ more) (b ∷ bs) = plus_bit a b ∷ plus more bs

-- so many steps of the long division: where the first coefficient is 1 the divisor is taken away, which over bits is added; either
-- way that power is done with
abbrev pub remainder : ℕ → List Bool → List Bool
remainder zero bs = bs
remainder (suc n) [] = []
remainder (suc n) (b ∷ bs) = remainder n (cond b (plus divisor bs) bs)

-- a byte as a polynomial, bit 7 first; bytes, one behind the other; and back
abbrev pub bit : ℕ → ℕ → Bool
bit byte i = eqb (bit_at byte i) 1

abbrev pub bits_of : ℕ → List Bool
bits_of byte = bit byte 7 ∷ bit byte 6 ∷ bit byte 5 ∷ bit byte 4 ∷ bit byte 3 ∷ bit byte 2 ∷ bit byte 1 ∷ bit byte 0 ∷ []

abbrev pub all_bits : List ℕ → List Bool
all_bits [] = []
all_bits (byte ∷ bytes) = bits_of byte ++ all_bits bytes

abbrev pub byte_of : List Bool → ℕ
byte_of [] = 0
byte_of (b ∷ bs) = cond b (2 ^ length bs) 0 + byte_of bs

-- times x^8: eight coefficients more
abbrev pub zeros : List Bool
zeros = false ∷ false ∷ false ∷ false ∷ false ∷ false ∷ false ∷ false ∷ []

-- the check byte of bytes: their polynomial times x^8, divided until eight coefficients are left. It starts from 0, no bits are turned
-- round, and nothing is added at the end.
unfoldable pub check_byte : List ℕ → ℕ
check_byte bytes = byte_of (remainder (length bytes * 8) (all_bits bytes ++ zeros))
