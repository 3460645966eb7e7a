-- The bits of a byte, "most significant bit first". Assumes nothing.
use Rattle.std.specs.Prelude.{ℕ, ◌*◌, ◌%◌, Bool, true, false, cond, eqb, ltb}
use Rattle.std.specs.Int.Bits.{bit_or}
use Rattle.laws.specs.Bits.{bit_at}
use Rattle.stages.specs.declared.stage.Line.{Line}
use Rattle.stages.specs.declared.stage.Line.TheVariants.{Down, Up}
use Rattle.stages.specs.declared.bits.Taken.{Taken}
use Rattle.stages.specs.declared.bits.Taken.TheVariants.{Part, Whole}

-- the bits of a byte that came so far are one number with a 1 before them; no bit yet
abbrev pub no_bits : ℕ
no_bits = 1

-- a level as a number
abbrev pub low_bit : Bool → ℕ
low_bit false = 0
low_bit true = 1

-- "Each seen rise of SCK in an open select takes SI, most significant bit first": the bits move up by one
abbrev pub shifted : ℕ → Bool → ℕ
shifted shift si = bit_or (shift * 2 % 65536) (low_bit si)

-- the eighth bit makes the byte whole: the 1 has left it
unfoldable pub take_bit : ℕ → Bool → Taken
take_bit shift si = cond (ltb (shifted shift si) 256) (Part (shifted shift si)) (Whole (shifted shift si % 256))

-- bit number `bit` of a byte, as a level
unfoldable pub bit_of : ℕ → ℕ → Line
bit_of byte bit = cond (eqb (bit_at byte bit) 1) Up Down
