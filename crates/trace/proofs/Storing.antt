-- How many groups a number's form has, by its highest bit, as `width` counts them; and one turn of the loop that stores
-- them. Assumes nothing.
use Rattle.std.specs.Prelude.{◌≡◌, refl, List, [], ◌++◌, ℕ, zero, suc, ◌+◌, ◌-◌, ◌*◌, ◌/◌, ◌%◌, ◌^◌, ◌≤◌, ◌<◌, max, cond, ltb, length, take}
use Rattle.std.proofs.Common.{sym, ap, ◌∙◌, ⊎_elim, arith, append_assoc, append-nil, lt-ltb, le-ltb, length-append, length-take-le}
use Rattle.std.proofs.Math.ListN.{set, length-set}
use Rattle.std.proofs.Math.Nat.{pow-succ', one-le-pow, pow-le-pow_right, mod-eq_of_lt}
use Rattle.std.proofs.lemmas.Nat.{pow-add}
use Rattle.std.proofs.lemmas.List.{take_more_set, drop-drop}
use borrow.Rule.Slice.PartMut.{put_mid}
use lib.Bits.{bit_and, bit_or}
use Rattle.trace.proofs.Packing.{low_group, goes_on_lem}
use Rattle.trace.specs.ByteLaws.{below}
use Rattle.trace.specs.Form.{form}
use Rattle.trace.specs.Number.{over}
use Rattle.trace.specs.SpellingLaws.{form_one, form_more, form_length}

-- ---- a group for each seven bits begun

by_groups : (k n : ℕ) → 128 ^ k ≤ max n 1 → n < 128 ^ suc k → k + 1 ≡ length (form n)
by_groups zero n p h = sym (ap length (form_one n (omega arith)))
by_groups (suc k) n p h =
    let more : 128 ≤ n = omega (arith, pow-succ' 128 k, one-le-pow k 128 (omega arith)) in
    let rest = by_groups k (n / 128) (omega (arith, pow-succ' 128 k, one-le-pow k 128 (omega arith))) (omega (arith, pow-succ' 128 (suc k))) in
    omega (arith, form_length n more, rest)

sevens : (k : ℕ) → 128 ^ k ≡ 2 ^ (7 * k)
sevens zero = refl
sevens (suc k) = omega (arith, pow-succ' 128 k, sevens k, ap (λ (i : ℕ). 2 ^ i) (step k), pow-add 2 7 (7 * k))
  where
    step : (k : ℕ) → 7 * suc k ≡ 7 + 7 * k
    step k = omega arith

pub by_highest_bit : (n m r : ℕ) → m ≡ max n 1 → 2 ^ r ≤ m → m < 2 * 2 ^ r → r / 7 + 1 ≡ length (form n)
by_highest_bit n m r e p h =
    let k = r / 7 in
    let low : 2 ^ (7 * k) ≤ 2 ^ r = pow-le-pow_right {n = 2} (omega arith) (omega arith) in
    let high : 2 ^ suc r ≤ 2 ^ (7 * suc k) = pow-le-pow_right {n = 2} (omega arith) (omega arith) in
    by_groups k n (omega (arith, sevens k)) (omega (arith, sevens (suc k), pow-succ' 2 r))

-- ---- the byte at a place of the form: of what is left, the low group, and the top bit where more follows

some_bytes : (n : ℕ) → 0 < length (form n)
some_bytes n = ⊎_elim (λ h. omega (arith, ap length (form_one n h))) (λ h. omega (arith, form_length n h)) (below n 128)

-- what is stored up to a place and what is left make the form
abbrev pub Stored : List ℕ → ℕ → ℕ → List ℕ → Type 0
Stored xs i rest bs = take i xs ++ cond (ltb i (length xs)) (form rest) [] ≡ bs

module _ (xs bs : List ℕ) (i rest : ℕ) (inside : i < length xs) (size : length xs ≡ length bs) (stored : Stored xs i rest bs) where
  whole : take i xs ++ form rest ≡ bs
  whole = simp (lt-ltb i (length xs) inside) at stored

  left : i + length (form rest) ≡ length xs
  left = omega (arith, ap length whole, length-append (take i xs) (form rest), length-take-le i xs (omega arith))

  pub last_stored : (b : ℕ) → b ≡ bit_and rest 127 → rest / 128 ≡ 0 → Stored (set xs i b) (i + 1) (rest / 128) bs
  last_stored b e z =
      let h : rest < 128 = omega arith in
      let is : b ≡ rest = e ∙ low_group rest ∙ mod-eq_of_lt h in
      let end : length xs ≤ i + 1 = omega (arith, left, ap length (form_one rest h)) in
      rw (is, length-set xs i rest, le-ltb (i + 1) (length xs) end, take_more_set xs i rest inside, append-nil) (rw (form_one rest h) at whole)

  pub more_stored : (b : ℕ) → b ≡ bit_or (bit_and rest 127) 128 → (rest / 128 ≡ 0 → ⊥) → Stored (set xs i b) (i + 1) (rest / 128) bs
  more_stored b e z =
      let h : 128 ≤ rest = omega arith in
      let more : i + 1 < length xs = omega (arith, left, form_length rest h, some_bytes (rest / 128)) in
      rw (e ∙ goes_on_lem rest, length-set xs i (128 + rest % 128), lt-ltb (i + 1) (length xs) more, take_more_set xs i (128 + rest % 128) inside, append_assoc) (rw (form_more rest h) at whole)

-- ---- the form between its two places, and the rest of the slice around it

pub form_between : (s bs : List ℕ) (at k : ℕ) → k ≡ length bs → put_mid at (at + k - at) s bs ≡ over s at bs
form_between s bs at k e =
    let j : at + k - at ≡ length bs = omega arith in
    rw (j, drop-drop, append_assoc) refl
