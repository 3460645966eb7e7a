-- A group of seven bits by shifts and masks, as the code has it, and by arithmetic, as the definitions have it.
-- Assumes nothing.
use mathlib.Core.Path.{◌≡◌, ◌∙◌}
use Prim.Native.Nat.{ℕ, ◌+◌, ◌*◌, ◌%◌, ◌^◌, ◌<◌, ◌≤◌}
use native.Mathlib.Omega.{arith}
use native.Mathlib.Nat.{mod-eq_of_lt, lt_of_lt_of_le, le_trans, pow-le-pow_right}
use lib.Dec.{lit<, lit≤}
use lib.Bits.{bit_and, bit_or, and_mask, or_shifted, or_shifted_r}

-- `x & 0x7F`
pub low_group : (x : ℕ) → bit_and x 127 ≡ x % 128
low_group x = and_mask x 7

-- `x & 0x7F | 0x80`
pub goes_on_lem : (x : ℕ) → bit_or (bit_and x 127) 128 ≡ 128 + x % 128
goes_on_lem x = rw (low_group x) (or_shifted_r 1 7 (x % 128) (omega arith))

-- `n << 7 | x & 0x7F`, where the shift loses nothing
pub joined : (n x : ℕ) → n < 2 ^ 57 → bit_or (n * 2 ^ 7 % 2 ^ 64) (bit_and x 127) ≡ x % 128 + 128 * n
joined n x h = rw (low_group x, mod-eq_of_lt (small n h)) (or_shifted n 7 (x % 128) (omega arith) ∙ omega arith)
  where
    small : (n : ℕ) → n < 2 ^ 57 → n * 2 ^ 7 < 2 ^ 64
    small n h = omega arith

-- eight groups are 56 bits
pub eight_groups : (k n : ℕ) → k ≤ 8 → n < 128 ^ k → n < 2 ^ 57
eight_groups k n p h = lt_of_lt_of_le h (le_trans (pow-le-pow_right (lit< tt) p) (lit≤ tt))
