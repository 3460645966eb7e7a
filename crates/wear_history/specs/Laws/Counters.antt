-- Counters, one row after the other: rows in two pieces; the sum grows by one for each row where none is full. Assumes nothing.
use Rattle.std.specs.Prelude.{ℕ, zero, suc, ◌+◌, ◌<◌, Bool, true, false, cond, List, [], ◌∷◌, ◌++◌, ◌≡◌, refl, eqb, get_or, length, sum}
use Rattle.std.proofs.Common.{add-zero, arith, sym, ap, ◌∙◌, length-set, ne_eqb}
use Rattle.std.proofs.lemmas.List.Sums.{sum_by-cons}
use Rattle.wear.specs.Count.{full, one_more, add_one, add_all}
use Rattle.history.proofs.Laws.Worn.{AllBelow}
use Rattle.wear_history.specs.Totals.{NoneFull}

pub add_append : (counters rows more : List ℕ) → add_all counters (rows ++ more) ≡ add_all (add_all counters rows) more
unfolding add_all
add_append counters [] more = refl
add_append counters (row ∷ rows) more = add_append (add_one counters row) rows more

-- a counter that is not full after one more was not full before it
not_full : (count : ℕ) → one_more count < full → count < full
not_full count h = go (eqb count full) refl h
  where
    go : (t : Bool) → eqb count full ≡ t → cond t full (count + 1) < full → count < full
    go true e l = absurd (omega (arith, l))
    go false e l = omega (arith, l)

more_is : (count : ℕ) → count < full → one_more count ≡ count + 1
more_is count h = rw (ne_eqb count full (λ e. omega (arith, h, e)))

none_before : (counters : List ℕ) (row : ℕ) → NoneFull (add_one counters row) → NoneFull counters
none_before [] row p = p
none_before (count ∷ counters) zero p = (not_full count p.0, p.1)
none_before (count ∷ counters) (suc row) p = (p.0, none_before counters row p.1)

none_first : (counters rows : List ℕ) → NoneFull (add_all counters rows) → NoneFull counters
unfolding add_all
none_first counters [] p = p
none_first counters (row ∷ rows) p = none_before counters row (none_first (add_one counters row) rows p)

sum_cons : (count : ℕ) (counters : List ℕ) → sum (count ∷ counters) ≡ count + sum counters
sum_cons count counters = sum_by-cons (λ (k : ℕ). k) count counters

sum_one : (counters : List ℕ) (row : ℕ) → row < length counters → NoneFull counters → sum (add_one counters row) ≡ sum counters + 1
sum_one [] row h p = absurd (omega arith)
sum_one (count ∷ counters) zero h p =
    omega (arith, sum_cons (one_more count) counters, sum_cons count counters, more_is count p.0)
sum_one (count ∷ counters) (suc row) h p =
    omega (arith, sum_cons count (add_one counters row), sum_cons count counters, sum_one counters row (omega arith) p.1)

-- each of these rows added one
pub sum_all :
    (counters rows : List ℕ) → AllBelow (length counters) rows → NoneFull (add_all counters rows) → sum (add_all counters rows) ≡ sum counters + length rows
unfolding add_all
sum_all counters [] p q = sym (add-zero (sum counters))
sum_all counters (row ∷ rows) p q =
    sum_all (add_one counters row) rows (rw (length-set counters row (one_more (get_or counters row 0))) p.1) q
    ∙ ap (λ (k : ℕ). k + length rows) (sum_one counters row p.0 (none_before counters row (none_first (add_one counters row) rows q)))
    ∙ later (sum counters) (length rows)
  where
    later : (a b : ℕ) → a + 1 + b ≡ a + suc b
    later a b = omega arith
