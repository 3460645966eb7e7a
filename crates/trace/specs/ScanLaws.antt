-- The number at a place, byte by byte, as `scan` goes: its last byte, or a byte with the top bit set and a number of one group fewer after it.
-- Assumes nothing.
use Rattle.std.specs.Prelude.{◌≡◌, refl, Bool, cond, true, false, eqb, ltb, length, get_or, drop, Option, Some, None}
use Rattle.std.proofs.Common.{sym, ◌∙◌, ⊎_elim, add-one, lt-ltb, le-ltb, eq-eqb, ne_eqb, drop_of_length-le, drop-cons}
use Rattle.std.proofs.Math.Path.{ap, ap₂, subst⁻¹}
use mathlib.Core.List.{List, ◌∷◌, ◌++◌}
use Prim.Native.Nat.{ℕ, zero, suc, ◌+◌, ◌*◌, ◌-◌, ◌%◌, ◌^◌, ◌≤◌, ◌<◌}
use Rattle.std.proofs.Math.Nat.{pow-succ', one-le-pow}
use native.Mathlib.Omega.{arith}
use Rattle.trace.specs.declared.number.Whole.{Whole}
use Rattle.trace.specs.Figures.{groups, largest}
use Rattle.trace.specs.Answers.{Told, number_read, ended, refused_at}
use Rattle.trace.specs.Number.{reading}
use Rattle.trace.specs.Form.{bytes, value, misshapen, whole, shape, scanned}
use Rattle.trace.specs.ByteLaws.{bytes_one, bytes_more}
use Rattle.trace.specs.SpellingLaws.{Spells, one, more, Shaped, shaped, well_shaped, spelt_value, spelt_alone, few, some_bytes, misshapen_more, misshapen_zero}

-- a low group before what was found after it
abbrev pub extended : ℕ → Option Whole → Option Whole
extended g None = None
extended g (Some w) = cond (eqb w.value 0) None (Some (whole (g + 128 * w.value) w.next))

extends : (b k at : ℕ) (bs : List ℕ) → 128 ≤ b → Shaped k bs → shape (suc k) (b ∷ bs) at ≡ extended (b % 128) (shape k bs (at + 1))
extends b k at bs h =
    ⊎_elim (λ m. simp (m, misshapen_more b k bs h m)) (λ s. simp (well_shaped s, misshapen_zero b h s, add_next))
  where
    add_next : at + suc (length bs) ≡ at + 1 + length bs
    add_next = omega arith

well : {bs : List ℕ} {n k : ℕ} (at : ℕ) → Spells bs n k → shape k bs at ≡ Some (whole n (at + length bs))
well at s = simp (well_shaped s, spelt_value s)

ill : (k at : ℕ) (bs : List ℕ) → misshapen k bs ≡ true → shape k bs at ≡ None
ill k at bs m = simp m

pub scanned_spelt : {bs : List ℕ} {n k : ℕ} (s ys : List ℕ) (at : ℕ) → drop at s ≡ bs ++ ys → Spells bs n k → scanned s at k ≡ Some (whole n (at + length bs))
unfolding scanned
scanned_spelt {bs} {n} {k} s ys at e p =
    ap (λ (xs : List ℕ). shape k (bytes xs) at) e ∙ ap (λ (l : List ℕ). shape k l at) (spelt_alone ys p) ∙ well at p

module _ (s : List ℕ) (at k : ℕ) where
  pub scanned_well : {n : ℕ} → Spells (bytes (drop at s)) n k → scanned s at k ≡ Some (whole n (at + length (bytes (drop at s))))
  unfolding scanned
  scanned_well p = well at p

  pub scanned_ill : misshapen k (bytes (drop at s)) ≡ true → scanned s at k ≡ None
  unfolding scanned
  scanned_ill m = ill k at (bytes (drop at s)) m

pub scanned_past : (s : List ℕ) (at room : ℕ) → length s ≤ at → scanned s at room ≡ None
unfolding scanned
scanned_past s at room h = simp (drop_of_length-le s h)

pub scanned_none : (s : List ℕ) (at : ℕ) → scanned s at 0 ≡ None
unfolding scanned
scanned_none s at = ⊎_elim (scanned_ill s at 0) (λ p. absurd (nothing (few p) (some_bytes p))) (shaped 0 (drop at s))
  where
    nothing : {n : ℕ} → n ≤ 0 → 0 < n → ⊥
    nothing p q = omega arith

module _ (s : List ℕ) (at : ℕ) (inside : at < length s) where
  abbrev first : ℕ
  first = get_or s at 0

  abbrev others : List ℕ
  others = drop (suc at) s

  opened : (room : ℕ) → scanned s at room ≡ shape room (bytes (first ∷ others)) at
  unfolding scanned
  opened room = ap (λ (xs : List ℕ). shape room (bytes xs) at) (drop-cons s at 0 inside)

  pub scanned_last : (room : ℕ) → 0 < room → get_or s at 0 < 128 → scanned s at room ≡ Some (whole (get_or s at 0) (at + 1))
  scanned_last zero some h = absurd (omega arith)
  scanned_last (suc k) some h =
      opened (suc k) ∙ ap (λ (bs : List ℕ). shape (suc k) bs at) (bytes_one first others h) ∙ well at (one {k = k} h)

  pub scanned_more : (room : ℕ) → 0 < room → 128 ≤ get_or s at 0 → scanned s at room ≡ extended (get_or s at 0 % 128) (scanned s (at + 1) (room - 1))
  unfolding scanned
  scanned_more zero some h = absurd (omega arith)
  scanned_more (suc k) some h =
      let j : k ≡ suc k - 1 = omega arith in
      opened (suc k)
      ∙ ap (λ (bs : List ℕ). shape (suc k) bs at) (bytes_more first others h)
      ∙ extends first k at (bytes others) h (shaped k others)
      ∙ ap₂ (λ (i m : ℕ). extended (first % 128) (shape m (bytes (drop i s)) (at + 1))) (sym (add-one at)) j

-- what is found in k groups is below 128 ^ k
spells_small : {bs : List ℕ} {n k : ℕ} → Spells bs n k → n < 128 ^ k
spells_small (one {k = k} h) = omega (arith, pow-succ' 128 k, one-le-pow k 128 (omega arith))
spells_small (more {b = b} {n = n} {k = k} h p s) = let q = spells_small s in omega (arith, pow-succ' 128 k)

value_of : Option Whole → ℕ
value_of None = 0
value_of (Some w) = w.value

pub scanned_small : (s : List ℕ) (at room n next : ℕ) → Some (whole n next) ≡ scanned s at room → n < 128 ^ room
unfolding scanned value_of
scanned_small s at room n next e =
    ⊎_elim
    (λ m. subst⁻¹ (λ (v : ℕ). v < 128 ^ room) (ap value_of (e ∙ scanned_ill s at room m)) (one-le-pow room 128 (omega arith)))
    (λ p. subst⁻¹ (λ (v : ℕ). v < 128 ^ room) (ap value_of (e ∙ scanned_well s at room p)) (spells_small p))
    (shaped room (drop at s))

-- ---- beyond the end, at it, and before it, where what is found is judged by its size

abbrev pub sized : ℕ → Option Whole → Told
sized at None = refused_at 8 at
sized at (Some w) = cond (ltb largest w.value) (refused_at 9 at) (number_read w.value w.next)

pub reading_beyond : (s : List ℕ) (at : ℕ) → length s < at → reading s at ≡ refused_at 10 at
unfolding reading
reading_beyond s at h = simp (lt-ltb (length s) at h)

pub reading_end : (s : List ℕ) (at : ℕ) → at ≡ length s → reading s at ≡ ended at
unfolding reading
reading_end s at e = simp (le-ltb (length s) at (omega arith), eq-eqb at (length s) e)

pub reading_inside : (s : List ℕ) (at : ℕ) → at < length s → reading s at ≡ sized at (scanned s at groups)
unfolding reading scanned
reading_inside s at h =
    simp (le-ltb (length s) at (omega arith), ne_eqb at (length s) (omega arith)) (go (misshapen groups bs))
  where
    bs : List ℕ
    bs = bytes (drop at s)

    go : (m : Bool) → cond m (refused_at 8 at) (sized at (Some (whole (value bs) (at + length bs)))) ≡ sized at (cond m None (Some (whole (value bs) (at + length bs))))
    go true = refl
    go false = refl
