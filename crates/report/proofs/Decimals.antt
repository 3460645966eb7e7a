-- The fewest digits that hold a number, as the kit's library writes them, are its decimal text: below ten there is one,
-- and else the last stands after those of a tenth. Assumes nothing.
use Rattle.std.proofs.Common.{◌≡◌, refl, ap, ◌∙◌, Bool, true, false, [], ◌∷◌, ℕ, zero, suc, ◌+◌, ◌-◌, ◌*◌, ◌/◌, ◌%◌, ◌^◌, ◌≤◌, ◌<◌, arith, lt-ltb, le-ltb, leb-true}
use Rattle.std.proofs.Math.Nat.{div-lt_iff_lt-mul, le-div_iff_mul-le, mod-eq_of_lt, mod-lt, pow-suc, le_trans, pow-le-pow_right, mul-le-mul_right}
use Rattle.std.proofs.Math.Numerals.{unary_clauses}
use Rattle.std.proofs.Math.Dec.{leb}
use Rattle.std.proofs.lemmas.Bool.{leb-false}
use Rattle.io.specs.Digits.{last_digits, IsDigitCount, hex_digit_ascii}
use Rattle.report.specs.Text.{decimal_in, most_digits}

last : (n : ℕ) → hex_digit_ascii (n % 10) ≡ 48 + n % 10
last n = rw (lt-ltb (n % 10) 10 (mod-lt n (omega arith)))

tenth : (j n : ℕ) → IsDigitCount 10 1 n (suc (suc j)) → IsDigitCount 10 1 (n / 10) (suc j)
tenth j n h = (
  omega arith,
  (div-lt_iff_lt-mul {k = 10} (omega arith)).1 (rw pow-suc at h.1),
  λ more. (le-div_iff_mul-le {k = 10} (omega arith)).1 (least j more (h.2 (omega arith))),
)
  where
    least : (j : ℕ) → 1 < suc j → 10 ^ (suc (suc j) - 1) ≤ n → 10 ^ (suc j - 1) * 10 ≤ n
    least zero more q = absurd (omega arith)
    least (suc j) more q = simp unary_clauses (simp unary_clauses at q)

ten : (j : ℕ) → 10 ≤ 10 ^ (suc (suc j) - 1)
ten j = simp unary_clauses (mul-le-mul_right 10 (pow-le-pow_right {n = 10} (omega arith) {i = 0} {j = j} (omega arith)))

pub decimal_is : (k most n : ℕ) → IsDigitCount 10 1 n k → k ≤ most → last_digits 10 k n ≡ decimal_in most n
decimal_is zero most n h le = absurd (omega arith)
decimal_is (suc k) zero n h le = absurd (omega arith)
decimal_is (suc zero) (suc most) n h le =
    let small : n < 10 = h.1 in
    ap (λ (d : ℕ). d ∷ []) (last n ∙ ap (λ (m : ℕ). 48 + m) (mod-eq_of_lt small)) ∙ rw (lt-ltb n 10 small)
decimal_is (suc (suc j)) (suc most) n h le =
    let large : 10 ≤ n = le_trans (ten j) (h.2 (omega arith)) in
    rw (le-ltb n 10 large, last n, decimal_is (suc j) most (n / 10) (tenth j n h) (omega arith))

-- a machine number has no more digits
pub short : (k n : ℕ) → n < 2 ^ 64 → IsDigitCount 10 1 n k → k ≤ most_digits
short k n small h = go (leb k most_digits) refl
  where
    far : most_digits < k → ⊥
    far long =
        let least : 10 ^ most_digits ≤ n = le_trans (pow-le-pow_right {n = 10} (omega arith) {i = most_digits} {j = k - 1} (omega arith)) (h.2 (omega arith)) in
        omega arith

    go : (t : Bool) → leb k most_digits ≡ t → k ≤ most_digits
    go true e = leb-true k most_digits e
    go false e = absurd (far (leb-false k most_digits e))
