-- One address more adds its row to the rows of a transfer, unless the address before it lay in that row: what the chip adds by the byte
-- touched last before and after. Assumes nothing.
use Prim.Native.Nat.{ℕ, ◌+◌, ◌-◌, ◌/◌, ◌<◌, ◌≤◌}
use Rattle.std.proofs.Common.{arith, sym, ◌∙◌}
use Rattle.std.specs.Prelude.{Bool, true, false, cond, ◌≡◌, eqb}
use mathlib.Core.List.{List, [], ◌∷◌, ◌++◌, append-nil}
use Rattle.std.proofs.Math.Path.{refl, ap}
use borrow.Author.Tests.{lt-ltb, eq-eqb, ne_eqb, eqb-true}
use Rattle.stages.specs.Last.{mark}
use Rattle.wear.specs.Count.{cycled}
use Rattle.history.specs.Rows.{changes, cycles}
use Rattle.history.proofs.Laws.Edges.{last_from, last_mark, last_more, Grows, same, more}
use Rattle.history.proofs.Laws.Worn.{AllBelow}

-- where the byte touched last is the same, no row is added
pub cycled_same : (size last : ℕ) → cycled size last last ≡ []
cycled_same size last = go (eqb last 0) refl
  where
    go : (t : Bool) → eqb last 0 ≡ t → cycled size last last ≡ []
    go true e = rw e
    go false e = rw (e, eq-eqb ((last - 1) / size) ((last - 1) / size) refl)

back : (at : ℕ) → at + 1 - 1 ≡ at
back at = omega arith

below_parts : (n : ℕ) (xs : List ℕ) (at : ℕ) → AllBelow n (xs ++ at ∷ []) → AllBelow n xs × (at < n)
below_parts n [] at p = (tt, p.0)
below_parts n (x ∷ xs) at p = let q = below_parts n xs at p.1 in ((p.0, q.0), q.1)

module _ (size limit : ℕ) (fits : limit ≤ 0xFFFFFFFF) where
  mark_is : (at : ℕ) → at < limit → mark at ≡ at + 1
  mark_is at h = rw (lt-ltb at 0xFFFFFFFF (omega (arith, h, fits)))

  some : (at : ℕ) → at + 1 ≡ 0 → ⊥
  some at e = omega arith

  row_is : (at : ℕ) → at < limit → (mark at - 1) / size ≡ at / size
  row_is at h = rw (mark_is at h, back at)

  marked : (at : ℕ) → at < limit → mark at ≡ 0 → ⊥
  marked at h e = some at (sym (mark_is at h) ∙ e)

  changes_more :
      (last : ℕ) → (last ≡ 0 → ⊥) → (xs : List ℕ) (at : ℕ) → AllBelow limit xs → at < limit
      → changes size ((last - 1) / size) (xs ++ at ∷ []) ≡ changes size ((last - 1) / size) xs ++ cycled size (last_from last xs) (mark at)
  unfolding changes last_from
  changes_more last here [] at p h = rw (mark_is at h, ne_eqb (at + 1) 0 (some at), ne_eqb last 0 here, back at)
  changes_more last here (x ∷ xs) at p h =
      go (eqb ((last - 1) / size) (x / size)) refl (rw (row_is x p.0) at (changes_more (mark x) (marked x p.0) xs at p.1 h))
    where
      row : ℕ
      row = (last - 1) / size

      go : (t : Bool) → eqb row (x / size) ≡ t
          → changes size (x / size) (xs ++ at ∷ []) ≡ changes size (x / size) xs ++ cycled size (last_from (mark x) xs) (mark at)
          → cond t (changes size row (xs ++ at ∷ [])) (x / size ∷ changes size (x / size) (xs ++ at ∷ []))
          ≡ cond t (changes size row xs) (x / size ∷ changes size (x / size) xs) ++ cycled size (last_from (mark x) xs) (mark at)
      go true e later = rw (eqb-true row (x / size) e) later
      go false e later = ap (λ (rows : List ℕ). x / size ∷ rows) later

  cycles_more :
      (xs : List ℕ) (at : ℕ) → AllBelow limit xs → at < limit
      → cycles size (xs ++ at ∷ []) ≡ cycles size xs ++ cycled size (last_mark xs) (mark at)
  unfolding cycles changes last_mark last_from
  cycles_more [] at p h = rw (mark_is at h, ne_eqb (at + 1) 0 (some at), back at)
  cycles_more (x ∷ xs) at p h =
      ap (λ (rows : List ℕ). x / size ∷ rows) (rw (row_is x p.0) at (changes_more (mark x) (marked x p.0) xs at p.1 h))

  pub grows_rows : {xs ys : List ℕ} → AllBelow limit ys → Grows xs ys → cycles size ys ≡ cycles size xs ++ cycled size (last_mark xs) (last_mark ys)
  grows_rows {xs = xs} p (same e) = rw (e, cycled_same size (last_mark xs), append-nil)
  grows_rows {xs = xs} p (more at e) =
      let q = below_parts limit xs at (rw e at p) in
      rw (e, last_more xs at) (cycles_more xs at q.0 q.1)
