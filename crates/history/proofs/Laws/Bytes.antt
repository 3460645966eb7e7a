-- Bits, one by one, become bytes: what the bits so far come to is their whole bytes and the under eight bits that are
-- left, and one bit more either joins those or, as the eighth, makes them a byte. A chip's shift register then holds the
-- bits that are left, with a 1 before them. Assumes nothing.
use Rattle.std.specs.Prelude.{ℕ, suc, ◌+◌, ◌*◌, ◌/◌, ◌%◌, ◌^◌, ◌<◌, Bool, true, false, cond, List, [], ◌∷◌, ◌++◌, ◌≡◌, refl, length, eqb}
use Rattle.std.proofs.Common.{pow-suc, lt_of_lt_of_le, arith, add-one, append_assoc, append-nil, ap, ◌∙◌, length-append, take_at, drop_at, pow_mono, pow_pos, lt-ltb, le-ltb, ne_eqb}
use Rattle.std.proofs.Math.Nat.{div-eq_of_lt}
use Rattle.std.proofs.lemmas.Bool.{eqb-false}
use Rattle.parts.specs.declared.figures.Figure.{Figure}
use Rattle.stages.specs.Bits.{no_bits, low_bit, shifted, take_bit}
use Rattle.stages.specs.Wp.{at_first}
use Rattle.stages.specs.SoundLaws.{shifted_is}
use Rattle.stages.specs.declared.bits.Taken.TheVariants.{Part, Whole}
use Rattle.history.specs.Wire.{Bit}
use Rattle.history.specs.Bytes.{Byte, bits_value, byte, eights, whole_bytes, Reading, read_transfer}

-- one bit more doubles the value and adds the bit
digit_more : (s : Bool) (p v d : ℕ) → cond s 1 0 * (p * 2) + (v * 2 + d) ≡ (cond s 1 0 * p + v) * 2 + d
digit_more true p v d = omega arith
digit_more false p v d = omega arith

value_more : (bs : List Bit) (b : Bit) → bits_value (bs ++ b ∷ []) ≡ bits_value bs * 2 + cond b.si 1 0
unfolding bits_value
value_more [] b = omega arith
value_more (c ∷ bs) b =
    rw (length-append bs (b ∷ []), add-one, pow-suc, value_more bs b)
    (digit_more c.si (2 ^ length bs) (bits_value bs) (cond b.si 1 0))

digit_lt : (s : Bool) (p v : ℕ) → v < p → cond s 1 0 * p + v < p * 2
digit_lt true p v h = omega arith
digit_lt false p v h = omega arith

value_lt : (bs : List Bit) → bits_value bs < 2 ^ length bs
unfolding bits_value
value_lt [] = omega arith
value_lt (b ∷ bs) = rw pow-suc (digit_lt b.si (2 ^ length bs) (bits_value bs) (value_lt bs))

-- the shift register after some bits: a 1 stands before them
abbrev one : Bit
one = record { si = true; wp = true }

abbrev pub shift_of : List Bit → ℕ
shift_of r = bits_value (one ∷ r)

shift_lt : (r : List Bit) (n : ℕ) → length r < n → shift_of r < 2 ^ n
shift_lt r n h = lt_of_lt_of_le (value_lt (one ∷ r)) (pow_mono h)

low_digit : (s : Bool) → low_bit s ≡ cond s 1 0
low_digit true = refl
low_digit false = refl

value_taken : (r : List Bit) (b : Bit) → length r < 8 → shifted (shift_of r) b.si ≡ shift_of (r ++ b ∷ [])
value_taken r b h = shifted_is (shift_of r) b.si (shift_lt r 8 h) ∙ rw (low_digit, value_more (one ∷ r) b)

pub taken_part : (r : List Bit) (b : Bit) → length r < 7 → take_bit (shift_of r) b.si ≡ Part (shift_of (r ++ b ∷ []))
unfolding take_bit
taken_part r b h =
    rw (value_taken r b (omega arith), lt-ltb (shift_of (r ++ b ∷ [])) 256 (shift_lt (r ++ b ∷ []) 8 (rw length-append (omega arith))))

-- a byte with a 1 before it
ninth : (bs : List Bit) → length bs ≡ 8 → shift_of bs ≡ 256 + bits_value bs
unfolding bits_value
ninth bs h = rw h

full : (v : ℕ) → v < 256 → (256 + v) % 256 ≡ v
full v h = omega arith

pub value_whole : (r : List Bit) (b : Bit) → length r ≡ 7 → bits_value (r ++ b ∷ []) < 256
value_whole r b h = rw (length-append, h) at (value_lt (r ++ b ∷ []))

pub taken_whole : (r : List Bit) (b : Bit) → length r ≡ 7 → take_bit (shift_of r) b.si ≡ Whole (bits_value (r ++ b ∷ []))
unfolding take_bit
taken_whole r b h =
    rw (
      value_taken r b (omega arith),
      ninth (r ++ b ∷ []) (rw (length-append, h)),
      le-ltb (256 + bits_value (r ++ b ∷ [])) 256 (omega arith),
      full (bits_value (r ++ b ∷ [])) (value_whole r b h),
    )

bytes_short : (r : List Bit) → length r < 8 → whole_bytes r ≡ []
unfolding whole_bytes eights
bytes_short r h = rw (div-eq_of_lt h)

bytes_whole : (r cs : List Bit) → length r ≡ 8 → whole_bytes (r ++ cs) ≡ byte r ∷ whole_bytes cs
unfolding whole_bytes eights
bytes_whole r cs h = rw (length-append r cs, h, eight_more (length cs), take_at r cs 8 h, drop_at r cs 8 h)
  where
    eight_more : (n : ℕ) → (8 + n) / 8 ≡ suc (n / 8)
    eight_more n = omega arith

-- how the bits so far are read, whatever bits follow: by their whole bytes, and the bits that are left
pub record Cut (f : Figure) (fell : Bool) (bs : List Bit) (read : List Byte → Reading) (r : List Bit) : Type 0 where
  pub short : length r < 8
  pub cut : (cs : List Bit) → read_transfer f fell (whole_bytes (bs ++ cs)) ≡ read (whole_bytes (r ++ cs))

module _ (f : Figure) (fell : Bool) where
  pub cut_none : Cut f fell [] (read_transfer f fell) []
  cut_none = record { short = omega arith; cut = λ cs. refl }

  pub cut_bytes : {bs : List Bit} {read : List Byte → Reading} {r : List Bit} → Cut f fell bs read r → read_transfer f fell (whole_bytes bs) ≡ read []
  cut_bytes {r = r} c = simp (append-nil, bytes_short r c.short) at (c.cut [])

  pub cut_part :
      {bs : List Bit} {read : List Byte → Reading} {r : List Bit} (b : Bit) → Cut f fell bs read r → length r < 7
      → Cut f fell (bs ++ b ∷ []) read (r ++ b ∷ [])
  cut_part b c h =
      record {
        short = simp length-append (omega arith);
        cut = λ cs. simp append_assoc (c.cut (b ∷ cs));
      }

-- the level of /WP that the bits of a byte began with: up where there is none
unfoldable pub wp_of : List Bit → Bool
wp_of [] = true
wp_of (b ∷ bs) = b.wp

-- with a bit after it the 1 is no more alone
not_one : (p v : ℕ) → 0 < p → 1 * (p * 2) + v ≡ 1 → ⊥
not_one p v h e = absurd (eqb-false 0 1 refl (omega (arith, h, e)))

shift_begun : (b : Bit) (bs : List Bit) → eqb (shift_of (b ∷ bs)) no_bits ≡ false
unfolding bits_value
shift_begun b bs = rw pow-suc (ne_eqb (1 * (2 ^ length bs * 2) + bits_value (b ∷ bs)) 1 (not_one (2 ^ length bs) (bits_value (b ∷ bs)) (pow_pos (length bs))))

-- the pin gives the level to the first bit; the others leave it
pub wp_part : (r : List Bit) (b : Bit) → at_first (shift_of r) b.wp (wp_of r) ≡ wp_of (r ++ b ∷ [])
unfolding wp_of bits_value
wp_part [] b = refl
wp_part (x ∷ xs) b = rw (shift_begun x xs)

pub wp_whole : (r : List Bit) (b : Bit) → length r ≡ 7 → (eqb (shift_of r) no_bits ≡ false) × (wp_of r ≡ (byte (r ++ b ∷ [])).wp)
unfolding wp_of
wp_whole [] b h = absurd (eqb-false 0 7 refl h)
wp_whole (x ∷ xs) b h = (shift_begun x xs, refl)

pub cut_whole :
    (f : Figure) (fell : Bool) {bs : List Bit} {read : List Byte → Reading} {r : List Bit} (b : Bit) → Cut f fell bs read r → length r ≡ 7
    → Cut f fell (bs ++ b ∷ []) (λ more. read (byte (r ++ b ∷ []) ∷ more)) []
cut_whole f fell {read = read} {r = r} b c h =
    record {
      short = omega arith;
      cut = λ cs. simp append_assoc (c.cut (b ∷ cs) ∙ ap read (first cs));
    }
  where
    first : (cs : List Bit) → whole_bytes (r ++ b ∷ cs) ≡ byte (r ++ b ∷ []) ∷ whole_bytes cs
    first cs = simp append_assoc at (bytes_whole (r ++ b ∷ []) cs (rw (length-append, h)))
