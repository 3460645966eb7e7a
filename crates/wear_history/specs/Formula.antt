-- The rows that a READ wears, by one formula (document 02, Wish 9), over any row's and any array's size. Assumes nothing.
use Prim.Native.Nat.{ℕ, zero, suc, ◌+◌, ◌*◌, ◌-◌, ◌/◌, ◌%◌, ◌<◌, ◌≤◌}
use Rattle.std.proofs.Common.{add-zero, mod-lt, mod-eq_of_lt, div-add-mod', mul-div_cancel, sym, ◌∙◌, leb-true, leb-false, eq-eqb, ne_eqb}
use Rattle.std.proofs.Math.Nat.{mod_self, mod-add-mod}
use native.Mathlib.Omega.{arith}
use Rattle.std.specs.Prelude.{Bool, true, false, cond, List, ◌∷◌, ◌≡◌, refl, eqb, leb, length}
use Rattle.std.proofs.Math.Path.{ap}
use Rattle.std.proofs.Math.Arith.{mod-mul, digits_div}
use Rattle.history.specs.Rows.{places, changes, cycles}

-- the next address lies in the same row or in the next one
pub data Next (p r : ℕ) : Type 0 where
  stays : (p + 1) / r ≡ p / r → Next p r
  moves : (p + 1) / r ≡ p / r + 1 → Next p r

next_row : (p r : ℕ) → 0 < r → Next p r
next_row p r some = go (leb r (p % r + 1)) refl
  where
    whole : p / r * r + p % r ≡ p
    whole = div-add-mod' p r

    later : p + 1 ≡ p / r * r + (p % r + 1)
    later = ap (λ (k : ℕ). k + 1) (sym whole) ∙ shift (p / r * r) (p % r)
      where
        shift : (a b : ℕ) → a + b + 1 ≡ a + (b + 1)
        shift a b = omega arith

    full : p % r + 1 ≡ r → p / r * r + (p % r + 1) ≡ (p / r + 1) * r
    full e = ap (λ (k : ℕ). p / r * r + k) e ∙ more (p / r) r
      where
        more : (a b : ℕ) → a * b + b ≡ (a + 1) * b
        more a b = omega arith

    last : r ≤ p % r + 1 → p % r < r → p % r + 1 ≡ r
    last l h = omega arith

    go : (t : Bool) → leb r (p % r + 1) ≡ t → Next p r
    go true e =
        moves (ap (λ (k : ℕ). k / r) (later ∙ full (last (leb-true r (p % r + 1) e) (mod-lt p some))) ∙ mul-div_cancel (p / r + 1) some)
    go false e = stays (ap (λ (k : ℕ). k / r) later ∙ digits_div (p / r) (leb-false r (p % r + 1) e))

-- with at least two rows the next one is another, rolling over too
other : (q x : ℕ) → 2 ≤ q → x % q ≡ (x + 1) % q → ⊥
other q x two e = go (leb q (x % q + 1)) refl (e ∙ sym (mod-add-mod x q 1))
  where
    small : x % q < q
    small = mod-lt x (omega (arith, two))

    last : q ≤ x % q + 1 → x % q + 1 ≡ q
    last l = omega (arith, small)

    go : (t : Bool) → leb q (x % q + 1) ≡ t → x % q ≡ (x % q + 1) % q → ⊥
    go true h g =
        let ends = last (leb-true q (x % q + 1) h) in
        let none : x % q ≡ 0 = g ∙ ap (λ (k : ℕ). k % q) ends ∙ mod_self q in
        omega (arith, none, ends, two)
    go false h g = let same : x % q ≡ x % q + 1 = g ∙ mod-eq_of_lt (leb-false q (x % q + 1) h) in omega (arith, same)

module _ (q r : ℕ) (two : 2 ≤ q) (some : 0 < r) where
  -- the row of a place, which is counted on past the array's end
  row_of : (x : ℕ) → x % (q * r) / r ≡ x / r % q
  row_of x = ap (λ (k : ℕ). k / r) (mod-mul x (omega (arith, two)) some) ∙ digits_div (x / r % q) (mod-lt x some)

  same_row_lem : (p : ℕ) → (p + 1) / r ≡ p / r → p % (q * r) / r ≡ (p + 1) % (q * r) / r
  same_row_lem p e = row_of p ∙ ap (λ (k : ℕ). k % q) (sym e) ∙ sym (row_of (p + 1))

  next_other : (p : ℕ) → (p + 1) / r ≡ p / r + 1 → p % (q * r) / r ≡ (p + 1) % (q * r) / r → ⊥
  next_other p e g = other q (p / r) two (sym (row_of p) ∙ g ∙ row_of (p + 1) ∙ ap (λ (k : ℕ). k % q) e)

  -- a place in the same row adds none, one in another row adds one
  abbrev turned : ℕ → ℕ → List ℕ → List ℕ
  turned here next rest = cond (eqb here next) (changes r here rest) (next ∷ changes r next rest)

  turn_stays : (here next a b c : ℕ) (rest : List ℕ) → here ≡ next → b ≡ a → length (changes r next rest) + b ≡ c → length (turned here next rest) + a ≡ c
  turn_stays here next a b c rest same e told =
      rw (eq-eqb here next same) (ap (λ (k : ℕ). length (changes r k rest) + a) same ∙ ap (λ (k : ℕ). length (changes r next rest) + k) (sym e) ∙ told)

  turn_moves : (here next a b c : ℕ) (rest : List ℕ) → (here ≡ next → ⊥) → b ≡ a + 1 → length (changes r next rest) + b ≡ c → length (turned here next rest) + a ≡ c
  turn_moves here next a b c rest differs e told = rw (ne_eqb here next differs) (omega (arith, e, told))

  -- past the place p so many more add as many rows as lie between them
  between : (p n : ℕ) → length (changes r (p % (q * r) / r) (places (q * r) (p + 1) n)) + p / r ≡ (p + n) / r
  unfolding changes places
  between p zero = ap (λ (k : ℕ). 0 + k / r) (sym (add-zero p)) ∙ none ((p + 0) / r)
    where
      none : (k : ℕ) → 0 + k ≡ k
      none k = omega arith
  between p (suc n) = go (next_row p r some) (between (p + 1) n ∙ ap (λ (k : ℕ). k / r) (shift p n))
    where
      shift : (a b : ℕ) → a + 1 + b ≡ a + suc b
      shift a b = omega arith

      go : Next p r → length (changes r ((p + 1) % (q * r) / r) (places (q * r) (p + 1 + 1) n)) + (p + 1) / r ≡ (p + suc n) / r
          → length (turned (p % (q * r) / r) ((p + 1) % (q * r) / r) (places (q * r) (p + 1 + 1) n)) + p / r ≡ (p + suc n) / r
      go (stays e) told = turn_stays (p % (q * r) / r) ((p + 1) % (q * r) / r) (p / r) ((p + 1) / r) ((p + suc n) / r) (places (q * r) (p + 1 + 1) n) (same_row_lem p e) e told
      go (moves e) told = turn_moves (p % (q * r) / r) ((p + 1) % (q * r) / r) (p / r) ((p + 1) / r) ((p + suc n) / r) (places (q * r) (p + 1 + 1) n) (next_other p e) e told

  -- "a READ that drives the first bit of n bytes from address a on, n at least 1, with rows of r bytes adds
  --  floor((a+n-1)/r) - floor(a/r) + 1, rollover included"
  pub formula : (a n : ℕ) → 1 ≤ n → length (cycles r (places (q * r) a n)) ≡ (a + n - 1) / r - a / r + 1
  unfolding cycles places
  formula a zero h = absurd (omega arith)
  formula a (suc n) h =
      last (length (changes r (a % (q * r) / r) (places (q * r) (a + 1) n))) (a / r) ((a + n) / r) (between a n)
      ∙ ap (λ (k : ℕ). k / r - a / r + 1) (back a n)
    where
      last : (x y z : ℕ) → x + y ≡ z → suc x ≡ z - y + 1
      last x y z e = omega arith

      back : (a n : ℕ) → a + n ≡ a + suc n - 1
      back a n = omega arith
