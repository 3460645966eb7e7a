-- Bytes of one value written round an array: past its size no more of them changes it, and how many are stored, and which one
-- last, is a sum. No chip is in this. Assumes nothing.
use Rattle.std.specs.Prelude.{ℕ, zero, suc, ◌+◌, ◌-◌, ◌*◌, ◌/◌, ◌%◌, ◌<◌, ◌≤◌, ◌≡◌, refl, Bool, true, false, cond, ◌&&◌, List, eqb, ltb, length, set}
use Rattle.std.proofs.Common.{sym, ap, ◌∙◌, add-zero, add-suc, suc-add, add-mul, mod-lt, mod-eq_of_lt, div-add-mod', div-mul-le_self, mul-le-mul_left, le_trans, eq-or-lt_of_le, add-one, lt-ltb, le-ltb, ne_eqb, ltb-true, ltb-false, eqb-true, length-set, set-set}
use Rattle.std.proofs.Math.Logic.{⊎_elim}
use Rattle.std.proofs.Math.Nat.{mod_self, mod-mod, suc-mod, add-mod_right, div-eq_of_lt-le}
use native.Mathlib.Omega.{arith}
use Rattle.std.proofs.lemmas.Bool.{eqb-false}
use Rattle.std.proofs.lemmas.List.{set_comm}
use Rattle.pulses.specs.Sums.{put, one, fill_bytes, stores, least, before, stored_in, last_put, last_in, last_stored}

pub put_length : (limit byte : ℕ) (xs : List ℕ) (at : ℕ) → length (put limit byte xs at) ≡ length xs
put_length limit byte xs at = go (ltb at limit)
  where
    go : (v : Bool) → length (cond v (set xs at byte) xs) ≡ length xs
    go true = length-set xs at byte
    go false = refl

module _ (size limit byte : ℕ) where
  -- a byte stands already where it would be put
  abbrev Stands : List ℕ → ℕ → Type 0
  Stands xs i = set xs i byte ≡ xs

  stands_set : (xs : List ℕ) (i j : ℕ) → Stands xs i → Stands (set xs j byte) i
  stands_set xs i j h = go (eqb j i) refl
    where
      go : (v : Bool) → eqb j i ≡ v → set (set xs j byte) i byte ≡ set xs j byte
      go true e = ap (λ (k : ℕ). set (set xs k byte) i byte) (eqb-true j i e) ∙ set-set xs i byte byte ∙ ap (λ (k : ℕ). set xs k byte) (sym (eqb-true j i e))
      go false e = set_comm xs j i byte byte (eqb-false j i e) ∙ ap (λ (ys : List ℕ). set ys j byte) h

  stands_put : (xs : List ℕ) (i j : ℕ) → Stands xs i → Stands (put limit byte xs j) i
  stands_put xs i j h = go (ltb j limit)
    where
      go : (v : Bool) → Stands (cond v (set xs j byte) xs) i
      go true = stands_set xs i j h
      go false = h

  stands_fill : (n x : ℕ) (xs : List ℕ) (i : ℕ) → Stands xs i → Stands (fill_bytes size limit byte n x xs) i
  stands_fill zero x xs i h = h
  stands_fill (suc n) x xs i h = stands_fill n (suc x) (put limit byte xs (x % size)) i (stands_put xs i (x % size) h)

  -- byte number j of them stands
  stands_at : (n j x : ℕ) (xs : List ℕ) → j < n → (x + j) % size < limit → Stands (fill_bytes size limit byte n x xs) ((x + j) % size)
  stands_at zero j x xs h l = absurd (omega arith)
  stands_at (suc n) zero x xs h l =
      stands_fill n (suc x) (put limit byte xs (x % size)) ((x + 0) % size)
      (rw (add-zero x, lt-ltb (x % size) limit (rw (add-zero x) at l)) (set-set xs (x % size) byte byte))
  stands_at (suc n) (suc j) x xs h l =
      rw (next x j) (stands_at n j (suc x) (put limit byte xs (x % size)) (omega arith) (rw (← next x j) l))
    where
      next : (x j : ℕ) → x + suc j ≡ suc x + j
      next x j = omega arith

  -- where all stand, no more of them changes the array
  abbrev AllStand : List ℕ → Type 0
  AllStand xs = (i : ℕ) → i < size → i < limit → Stands xs i

  no_more : 0 < size → (n x : ℕ) (xs : List ℕ) → AllStand xs → fill_bytes size limit byte n x xs ≡ xs
  no_more some zero x xs all = refl
  no_more some (suc n) x xs all = ap (fill_bytes size limit byte n (suc x)) (same (ltb (x % size) limit) refl) ∙ no_more some n (suc x) xs all
    where
      same : (v : Bool) → ltb (x % size) limit ≡ v → cond v (set xs (x % size) byte) xs ≡ xs
      same true e = all (x % size) (mod-lt x some) (ltb-true (x % size) limit e)
      same false e = refl

  fill_add : (m n x : ℕ) (xs : List ℕ) → fill_bytes size limit byte (m + n) x xs ≡ fill_bytes size limit byte n (x + m) (fill_bytes size limit byte m x xs)
  fill_add zero n x xs = (λ i. fill_bytes size limit byte (zero_plus n i) (sym (add-zero x) i) xs)
    where
      zero_plus : (n : ℕ) → 0 + n ≡ n
      zero_plus n = omega arith
  fill_add (suc m) n x xs =
      ap (λ (k : ℕ). fill_bytes size limit byte k x xs) (suc-add m n)
      ∙ fill_add m n (suc x) (put limit byte xs (x % size))
      ∙ ap (λ (k : ℕ). fill_bytes size limit byte n k (fill_bytes size limit byte m (suc x) (put limit byte xs (x % size)))) (next x m)
    where
      next : (x j : ℕ) → suc x + j ≡ x + suc j
      next x j = omega arith

  -- a place and its address give the same
  fill_wraps : (n x y : ℕ) (xs : List ℕ) → x % size ≡ y % size → fill_bytes size limit byte n x xs ≡ fill_bytes size limit byte n y xs
  fill_wraps zero x y xs e = refl
  fill_wraps (suc n) x y xs e =
      ap (λ (k : ℕ). fill_bytes size limit byte n (suc x) (put limit byte xs k)) e
      ∙ fill_wraps n (suc x) (suc y) (put limit byte xs (y % size)) (suc-mod x size ∙ ap (λ (k : ℕ). suc k % size) e ∙ sym (suc-mod y size))

  -- one byte, and the others
  pub fill_on : (n at next : ℕ) (xs ys : List ℕ) → at < size → 0 < n → next ≡ (at + 1) % size → ys ≡ put limit byte xs at
      → fill_bytes size limit byte (n - 1) next ys ≡ fill_bytes size limit byte n at xs
  fill_on zero at next xs ys h some is puts = absurd (omega arith)
  fill_on (suc n) at next xs ys h some is puts =
      (λ i. fill_bytes size limit byte (less n i) (is i) (puts i))
      ∙ fill_wraps n ((at + 1) % size) (suc at) (put limit byte xs at) (mod-mod (at + 1) size ∙ ap (λ (k : ℕ). k % size) (add-one at))
      ∙ ap (λ (k : ℕ). fill_bytes size limit byte n (suc at) (put limit byte xs k)) (sym (mod-eq_of_lt h))
    where
      less : (n : ℕ) → suc n - 1 ≡ n
      less n = omega arith

  -- no byte is left
  pub fill_over : (n at : ℕ) (xs : List ℕ) → n ≤ 0 → xs ≡ fill_bytes size limit byte n at xs
  fill_over zero at xs h = refl
  fill_over (suc n) at xs h = absurd (omega arith)

  -- a round from any place goes over every address
  round : (at : ℕ) (xs : List ℕ) → at < size → AllStand (fill_bytes size limit byte size at xs)
  round at xs h i inside below = go (ltb i at) refl
    where
      later : (at i : ℕ) → at ≤ i → at + (i - at) ≡ i
      later at i l = omega arith

      wraps : (at i size : ℕ) → i < at → at < size → at + (i + size - at) ≡ i + size
      wraps at i size l k = omega arith

      here : (j : ℕ) → j < size → (at + j) % size ≡ i → Stands (fill_bytes size limit byte size at xs) i
      here j short is = rw (← is) (stands_at size j at xs short (rw is below))

      go : (v : Bool) → ltb i at ≡ v → Stands (fill_bytes size limit byte size at xs) i
      go true e =
          let l : i < at = ltb-true i at e in
          here (i + size - at) (omega arith) (ap (λ (k : ℕ). k % size) (wraps at i size l h) ∙ add-mod_right i size ∙ mod-eq_of_lt inside)
      go false e =
          let l : at ≤ i = ltb-false i at e in
          here (i - at) (omega arith) (ap (λ (k : ℕ). k % size) (later at i l) ∙ mod-eq_of_lt inside)

  -- past a round of the array
  fill_most : (n at : ℕ) (xs : List ℕ) → at < size → size ≤ n → fill_bytes size limit byte size at xs ≡ fill_bytes size limit byte n at xs
  fill_most n at xs h l =
      sym (no_more (omega arith) (n - size) (at + size) (fill_bytes size limit byte size at xs) (round at xs h))
      ∙ sym (fill_add size (n - size) at xs)
      ∙ ap (λ (k : ℕ). fill_bytes size limit byte k at xs) (total n size l)
    where
      total : (n size : ℕ) → size ≤ n → size + (n - size) ≡ n
      total n size h = omega arith

  pub fill_least : (n at : ℕ) (xs : List ℕ) → at < size → fill_bytes size limit byte (least size n) at xs ≡ fill_bytes size limit byte n at xs
  fill_least n at xs h = go (ltb size n) refl
    where
      go : (v : Bool) → ltb size n ≡ v → fill_bytes size limit byte (cond v size n) at xs ≡ fill_bytes size limit byte n at xs
      go true e = fill_most n at xs h (omega (arith, ltb-true size n e))
      go false e = refl

-- ---- how many are stored

module _ (size limit : ℕ) (some : 0 < size) (fits : limit ≤ size) where
  -- a place's round and address
  round_stays : (x : ℕ) → suc (x % size) < size → (suc x / size ≡ x / size) × (suc x % size ≡ suc (x % size))
  round_stays x l = (
    div-eq_of_lt-le {k = x / size} size {m = suc x}
        (omega (arith, div-add-mod' x size))
        (omega (arith, div-add-mod' x size, add-mul (x / size) 1 size)),
    suc-mod x size ∙ mod-eq_of_lt l,
  )

  round_ends : (x : ℕ) → suc (x % size) ≡ size → (suc x / size ≡ x / size + 1) × (suc x % size ≡ 0)
  round_ends x e = (
    div-eq_of_lt-le {k = x / size + 1} size {m = suc x}
        (omega (arith, div-add-mod' x size, add-mul (x / size) 1 size))
        (omega (arith, div-add-mod' x size, add-mul (x / size) 1 size, add-mul (x / size + 1) 1 size)),
    suc-mod x size ∙ ap (λ (k : ℕ). k % size) e ∙ mod_self size,
  )

  grows : (r : ℕ) → suc r < size → least (suc r) limit ≡ least r limit + one limit r
  grows r l = go (ltb r limit) (ltb (suc r) limit) refl refl
    where
      go : (v w : Bool) → ltb r limit ≡ v → ltb (suc r) limit ≡ w → cond w (suc r) limit ≡ cond v r limit + cond v 1 0
      go true true e d = omega arith
      go true false e d = omega (arith, ltb-true r limit e, ltb-false (suc r) limit d)
      go false true e d = omega (arith, ltb-false r limit e, ltb-true (suc r) limit d)
      go false false e d = omega arith

  full : (r : ℕ) → suc r ≡ size → limit ≡ least r limit + one limit r
  full r e = go (ltb r limit) refl
    where
      go : (v : Bool) → ltb r limit ≡ v → limit ≡ cond v r limit + cond v 1 0
      go true d = omega (arith, ltb-true r limit d)
      go false d = omega arith

  before_suc : (x : ℕ) → before size limit (suc x) ≡ before size limit x + one limit (x % size)
  unfolding before
  before_suc x = ⊎_elim last inner (eq-or-lt_of_le (mod-lt x some))
    where
      plus : (a b c : ℕ) → a + (b + c) ≡ a + b + c
      plus a b c = omega arith

      inner : suc (x % size) < size → suc x / size * limit + least (suc x % size) limit ≡ x / size * limit + least (x % size) limit + one limit (x % size)
      inner l =
          (λ i. (round_stays x l).0 i * limit + least ((round_stays x l).1 i) limit)
          ∙ ap (λ (k : ℕ). x / size * limit + k) (grows (x % size) l)
          ∙ plus (x / size * limit) (least (x % size) limit) (one limit (x % size))

      last : suc (x % size) ≡ size → suc x / size * limit + least (suc x % size) limit ≡ x / size * limit + least (x % size) limit + one limit (x % size)
      last e =
          (λ i. (round_ends x e).0 i * limit + least ((round_ends x e).1 i) limit)
          ∙ whole (ltb 0 limit) refl
          ∙ ap (λ (k : ℕ). x / size * limit + k) (full (x % size) e)
          ∙ plus (x / size * limit) (least (x % size) limit) (one limit (x % size))
        where
          whole : (v : Bool) → ltb 0 limit ≡ v → (x / size + 1) * limit + cond v 0 limit ≡ x / size * limit + limit
          whole true d = omega (arith, add-mul (x / size) 1 limit)
          whole false d = omega (arith, add-mul (x / size) 1 limit, ltb-false 0 limit d)

  stores_sum : (n x : ℕ) → stores size limit n x + before size limit x ≡ before size limit (x + n)
  stores_sum zero x = zero_plus (before size limit x) ∙ ap (before size limit) (sym (add-zero x))
    where
      zero_plus : (n : ℕ) → 0 + n ≡ n
      zero_plus n = omega arith
  stores_sum (suc n) x =
      swap (one limit (x % size)) (stores size limit n (suc x)) (before size limit x)
      ∙ ap (λ (k : ℕ). stores size limit n (suc x) + k) (sym (before_suc x))
      ∙ stores_sum n (suc x)
      ∙ ap (before size limit) (next x n)
    where
      swap : (a b c : ℕ) → a + b + c ≡ b + (c + a)
      swap a b c = omega arith

      next : (x j : ℕ) → suc x + j ≡ x + suc j
      next x j = omega arith

  pub stored_in_lem : (n x : ℕ) → stored_in size limit x n ≡ stores size limit n x
  stored_in_lem n x = less (stores size limit n x) (before size limit x) (before size limit (x + n)) (stores_sum n x)
    where
      less : (a b c : ℕ) → a + b ≡ c → c - b ≡ a
      less a b c h = omega arith

  stores_few : (n x : ℕ) → stores size limit n x ≤ n
  stores_few zero x = omega arith
  stores_few (suc n) x = go (ltb (x % size) limit) (stores_few n (suc x))
    where
      go : (v : Bool) → stores size limit n (suc x) ≤ n → cond v 1 0 + stores size limit n (suc x) ≤ suc n
      go true h = omega arith
      go false h = omega arith

  -- it is no more than the place
  pub rounds_fit : (x : ℕ) → x / size * limit ≤ x
  rounds_fit x = le_trans (mul-le-mul_left (x / size) fits) (div-mul-le_self x size)

  pub before_fits : (x : ℕ) → x / size * limit + least (x % size) limit ≤ x
  before_fits x = go (ltb (x % size) limit) refl
    where
      go : (v : Bool) → ltb (x % size) limit ≡ v → x / size * limit + cond v (x % size) limit ≤ x
      go true e = omega (arith, mul-le-mul_left (x / size) fits, div-add-mod' x size)
      go false e = omega (arith, mul-le-mul_left (x / size) fits, div-add-mod' x size, ltb-false (x % size) limit e)

  -- the difference of two such sums
  pub stored_asks : (at n : ℕ) → (before size limit at ≤ before size limit (at + n)) × (stored_in size limit at n ≤ n)
  stored_asks at n = (omega (arith, stores_sum n at), rw (stored_in_lem n at) (stores_few n at))

  -- ---- and which one last

  -- one more byte
  stores_more : (n x : ℕ) → stores size limit (suc n) x ≡ stores size limit n x + one limit ((x + n) % size)
  stores_more n x = omega (arith, stores_sum (suc n) x, stores_sum n x, ap (before size limit) (add-suc x n), before_suc (x + n))

  last_more : (n x last : ℕ) → last_in size limit (suc n) x last ≡ last_put limit (last_in size limit n x last) ((x + n) % size)
  last_more zero x last = ap (λ (k : ℕ). last_put limit last (k % size)) (sym (add-zero x))
  last_more (suc n) x last =
      last_more n (suc x) (last_put limit last (x % size))
      ∙ ap (λ (k : ℕ). last_put limit (last_in size limit (suc n) x last) (k % size)) (next x n)
    where
      next : (x j : ℕ) → suc x + j ≡ x + suc j
      next x j = omega arith

  -- the last one of them, where any is stored, by the address after them
  abbrev last_to : ℕ → ℕ
  last_to end = cond (ltb 0 end && ltb end limit) end limit

  after : (x : ℕ) → last_to (suc x % size) ≡ least (suc (x % size)) limit
  after x = ⊎_elim ends stays (eq-or-lt_of_le (mod-lt x some))
    where
      stays : suc (x % size) < size → last_to (suc x % size) ≡ least (suc (x % size)) limit
      stays l = ap last_to (round_stays x l).1 ∙ rw (lt-ltb 0 (suc (x % size)) (omega arith))

      ends : suc (x % size) ≡ size → last_to (suc x % size) ≡ least (suc (x % size)) limit
      ends e = ap last_to (round_ends x e).1 ∙ rw (le-ltb (suc (x % size)) limit (omega arith))

  pub last_stored_lem : (n x last : ℕ) → last_in size limit n x last ≡ last_stored limit (stores size limit n x) ((x + n) % size) last
  last_stored_lem zero x last = refl
  last_stored_lem (suc n) x last =
      last_more n x last
      ∙ ap (λ (k : ℕ). last_put limit k at) (last_stored_lem n x last)
      ∙ go (ltb at limit) refl
      ∙ (λ i. cond (eqb (sym (stores_more n x) i) 0) last (sym (after (x + n)) i))
      ∙ ap (λ (k : ℕ). last_stored limit (stores size limit (suc n) x) (k % size) last) (sym (add-suc x n))
    where
      at : ℕ
      at = (x + n) % size

      go : (v : Bool) → ltb at limit ≡ v
          → cond v (at + 1) (last_stored limit (stores size limit n x) at last) ≡ cond (eqb (stores size limit n x + cond v 1 0) 0) last (least (suc at) limit)
      go true e = rw (ne_eqb (stores size limit n x + 1) 0 (λ z. omega arith)) (own (ltb (suc at) limit) refl)
        where
          own : (w : Bool) → ltb (suc at) limit ≡ w → at + 1 ≡ cond w (suc at) limit
          own true d = omega arith
          own false d = omega (arith, ltb-true at limit e, ltb-false (suc at) limit d)
      go false e =
          let held : limit ≤ at = ltb-false at limit e in
          rw (add-zero (stores size limit n x), le-ltb at limit held, le-ltb (suc at) limit (omega arith), neither (ltb 0 at))
        where
          neither : (w : Bool) → (w && false) ≡ false
          neither true = refl
          neither false = refl
