-- Under a mask once is under it twice: by induction on the mask's bits, half by half. Assumes nothing.
use Rattle.std.specs.Prelude.{ℕ, zero, suc, ◌+◌, ◌*◌, ◌/◌, ◌%◌, ◌^◌, ◌<◌, min, ◌≡◌}
use Rattle.std.proofs.Common.{sym, ap, ◌∙◌, pow-suc, div-lt_iff_lt-mul, mod-lt, lt_of_le_of_lt, arith, lit<}
use Rattle.std.proofs.Math.Nat.{min-eq_left, min-le_right}
use Rattle.std.specs.Int.Bits.{bit_and, and_step, and_zero_r}

half : (x y r : ℕ) → r < 2 → x ≡ y * 2 + r → x / 2 ≡ y
half x y r h e = omega arith

odd : (x y r : ℕ) → r < 2 → x ≡ y * 2 + r → x % 2 ≡ r
odd x y r h e = omega arith

none : (m : ℕ) → m < 1 → m ≡ 0
none m h = omega arith

again : (k a m : ℕ) → m < 2 ^ k → bit_and (bit_and a m) m ≡ bit_and a m
again zero a m h =
    ap (λ (n : ℕ). bit_and (bit_and a m) n) (none m h)
    ∙ and_zero_r (bit_and a m)
    ∙ sym (ap (λ (n : ℕ). bit_and a n) (none m h) ∙ and_zero_r a)
again (suc k) a m h =
    and_step x m
    ∙ ap (λ (t : ℕ). bit_and t (m / 2) * 2 + min (x % 2) (m % 2)) (half x y r small (and_step a m))
    ∙ ap (λ (t : ℕ). t * 2 + min (x % 2) (m % 2)) (again k (a / 2) (m / 2) ((div-lt_iff_lt-mul (lit< tt)).1 (rw pow-suc at h)))
    ∙ ap (λ (t : ℕ). y * 2 + min t (m % 2)) (odd x y r small (and_step a m))
    ∙ ap (λ (t : ℕ). y * 2 + t) (min-eq_left (min-le_right (a % 2) (m % 2)))
    ∙ sym (and_step a m)
  where
    x : ℕ
    x = bit_and a m

    y : ℕ
    y = bit_and (a / 2) (m / 2)

    r : ℕ
    r = min (a % 2) (m % 2)

    small : r < 2
    small = lt_of_le_of_lt (min-le_right (a % 2) (m % 2)) (mod-lt m (lit< tt))

pub under_twice : (a m : ℕ) → m < 256 → bit_and (bit_and a m) m ≡ bit_and a m
under_twice a m h = again 8 a m h
