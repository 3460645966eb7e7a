-- The items of a trace: from a place on they are the number there, then the items from the place after it. Each number has
-- a byte at least, so the bytes left bound them. Assumes nothing.
use mathlib.Core.Path.{◌≡◌, refl, sym, ap, ◌∙◌}
use mathlib.Core.Logic.{⊎_elim}
use mathlib.Core.List.{List}
use Prim.Native.Nat.{ℕ, zero, suc, ◌-◌, ◌≤◌}
use native.Mathlib.Nat.{eq-or-lt_of_le}
use native.Mathlib.Omega.{arith}
use borrow.Author.Tests.{ne_eqb}
use lib.ListN.{length}
use Rattle.refusals.specs.RefusalLaws.{given_at}
use Rattle.trace.specs.Answers.{Value, num, end, number_read}
use Rattle.trace.specs.Number.{reading}
use Rattle.trace.specs.NumberLaws.{forward}
use Rattle.trace.specs.ScanLaws.{reading_beyond, reading_end}
use Rattle.bench.specs.Run.{Items, no_item, item_then, read_on, items_in, items_from}

module _ (s : List ℕ) where
  none_left : (at : ℕ) (more : ℕ → Items) → length s ≤ at → read_on (reading s at) more ≡ no_item (given_at (reading s at).refusal)
  none_left at more h =
      ⊎_elim (λ q. rw (reading_end s at (sym q))) (λ l. rw (reading_beyond s at l)) (eq-or-lt_of_le h)

  -- only what is read further on counts
  alike : (at : ℕ) (f g : ℕ → Items) → ((n next : ℕ) → reading s at ≡ number_read n next → f next ≡ g next)
      → read_on (reading s at) f ≡ read_on (reading s at) g
  alike at f g h = go (reading s at).refusal (reading s at).value (reading s at).place refl
    where
      go : (row : ℕ) (v : Value) (p : ℕ) → reading s at ≡ record { refusal = row; value = v; place = p }
          → read_on (record { refusal = row; value = v; place = p }) f ≡ read_on (record { refusal = row; value = v; place = p }) g
      go zero (num n) p e = ap (item_then (num n)) (h n p e)
      go zero end p e = refl
      go (suc row) v p e = rw (ne_eqb (suc row) 0 (λ h. omega arith))

  enough : (j k at : ℕ) → length s - at ≤ j → length s - at ≤ k → items_in j s at ≡ items_in k s at
  enough zero zero at p q = refl
  enough zero (suc k) at p q = sym (none_left at (items_in k s) (omega arith))
  enough (suc j) zero at p q = none_left at (items_in j s) (omega arith)
  enough (suc j) (suc k) at p q =
      alike at (items_in j s) (items_in k s) (λ n next e. let m = forward s at n next e in enough j k next (omega arith) (omega arith))

  pub items_on : (at : ℕ) → items_from s at ≡ read_on (reading s at) (items_from s)
  unfolding items_from
  items_on at =
      enough (length s - at) (suc (length s - at)) at (omega arith) (omega arith)
      ∙ alike at (items_in (length s - at) s) (items_from s)
      (λ n next e. let m = forward s at n next e in enough (length s - at) (length s - next) next (omega arith) (omega arith))
