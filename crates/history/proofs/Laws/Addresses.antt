-- The address that a chip puts together from a page and a last byte is the address read as one number, modulo the size;
-- stepping it is counting on, modulo the size. Assumes nothing.
use Rattle.std.specs.Prelude.{ℕ, zero, suc, ◌+◌, ◌*◌, ◌-◌, ◌/◌, ◌%◌, ◌^◌, ◌≤◌, ◌<◌, Bool, true, false, cond, [], ◌∷◌, ◌≡◌, refl, eqb, leb}
use Rattle.std.proofs.Common.{mod-eq_of_lt, zero-mul, one-mul, add-zero, add-one, arith, sym, ◌∙◌, pow_pos, pow-add, ne_eqb, leb-true, leb-false}
use Rattle.std.proofs.Math.Nat.{mod-lt, mod_self, mod-mod, mod-add-mod, zero-add}
use Rattle.std.proofs.Math.Arith.{mod-mul}
use Rattle.std.specs.Int.Bits.{bit_and, and_mask}
use Rattle.std.proofs.lemmas.Nat.Bits.{and_high}
use Rattle.std.proofs.Math.Pow as Pow
use Rattle.std.proofs.Math.Pow.{suc_ones, high}
use Rattle.parts.specs.FigureLaws.{Fair}
use Rattle.parts.specs.declared.figures.Figure.{Figure}
use Rattle.stages.specs.Address.{code_page, upper_page, next_address}
use Rattle.history.specs.Bytes.{Byte, top_bit, number}

not_zero : (n : ℕ) → 0 < n → eqb n 0 ≡ false
not_zero n h = ne_eqb n 0 (λ e. omega arith)

-- the page that the chip takes from the op-code is its top bit
page_bit : (x p : ℕ) → x < 2 → 0 < p → cond (eqb (x * p) 0) 0 1 ≡ x
page_bit zero p h l = rw zero-mul
page_bit (suc zero) p h l = rw (one-mul, not_zero p l)
page_bit (suc (suc x)) p h l = absurd (omega arith)

one_bit : (n k : ℕ) → bit_and n (2 ^ k) ≡ (n / 2 ^ k % 2) * 2 ^ k
one_bit n k = rw (pow-add 2 1 k, double (2 ^ k)) at (and_high n 1 k)
  where
    double : (p : ℕ) → 2 * p - p ≡ p
    double p = omega arith

-- to the next address, rolling over
rolls : (m x : ℕ) → x < m → cond (leb m (x + 1)) 0 (x + 1) ≡ (x + 1) % m
rolls m x h = go (leb m (x + 1)) refl
  where
    last : (m x : ℕ) → x < m → m ≤ x + 1 → x + 1 ≡ m
    last m x h l = omega arith

    go : (t : Bool) → leb m (x + 1) ≡ t → cond t 0 (x + 1) ≡ (x + 1) % m
    go true e = rw (last m x h (leb-true m (x + 1) e)) (sym (mod_self m))
    go false e = sym (mod-eq_of_lt (leb-false m (x + 1) e))

module _ (f : Figure) (fair : Fair f) where
  size_is : f.size ≡ 2 ^ fair.bits * 256
  size_is = rw (fair.pages, fair.low, add-one, suc_ones)

  size_pos : 0 < f.size
  size_pos = rw fair.pages (omega arith)

  pub next_place_lem : (n : ℕ) → next_address f (n % f.size) ≡ (n + 1) % f.size
  unfolding next_address
  next_place_lem n = rolls f.size (n % f.size) (mod-lt n size_pos) ∙ mod-add-mod n f.size 1

  -- the address by page and byte is the address as one number
  pub start_one :
      (code : ℕ) (b : Byte) (k : ℕ) → f.top ≡ 2 ^ k → b.value < 256
      → code_page f code * 256 + b.value ≡ (number (top_bit f code) (b ∷ []) % f.size + 0) % f.size
  unfolding top_bit number
  start_one code b k t h =
      rw (add-zero, mod-mod, t, one_bit code k, page_bit (code / 2 ^ k % 2) (2 ^ k) bit (pow_pos k), not_zero (2 ^ k) (pow_pos k))
      (sym (mod-eq_of_lt below))
    where
      bit : code / 2 ^ k % 2 < 2
      bit = mod-lt (code / 2 ^ k) (omega arith)

      below : code / 2 ^ k % 2 * 256 + b.value < f.size
      below = rw fair.pages (omega (arith, fair.top))

  pub start_two :
      (code : ℕ) (u b : Byte) → f.top ≡ 0 → b.value < 256
      → upper_page f u.value * 256 + b.value ≡ (number (top_bit f code) (u ∷ b ∷ []) % f.size + 0) % f.size
  unfolding top_bit number
  start_two code u b t h =
      rw (add-zero, mod-mod, t, size_is, fair.low, zero-add, and_mask u.value fair.bits, split, high u.value 8 h, Pow.low u.value 8 h)
    where
      split :
          (u.value * 256 + b.value) % (2 ^ fair.bits * 256)
          ≡ ((u.value * 256 + b.value) / 256 % 2 ^ fair.bits) * 256 + (u.value * 256 + b.value) % 256
      split = mod-mul (u.value * 256 + b.value) (pow_pos fair.bits) (pow_pos 8)
