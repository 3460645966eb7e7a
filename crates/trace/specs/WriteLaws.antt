-- What a write leaves in the slice goes by its answer: all of it at a refusal, and else the number's form in its place.
-- Assumes nothing.
use Rattle.std.specs.Prelude.{◌≡◌, List, ℕ, suc, eqb}
use Rattle.std.proofs.Math.Path.{ap}
use Rattle.std.proofs.Common.{◌∙◌, arith, ne_eqb}
use Rattle.std.proofs.Math.Bool.{cond}
use Rattle.trace.specs.Answers.{Told, placed, refused_at}
use Rattle.trace.specs.Form.{form}
use Rattle.trace.specs.Number.{writing, over, slice_written}

module _ (s : List ℕ) (at n : ℕ) where
  by_answer : {t : Told} → t ≡ writing s at n → cond (eqb t.refusal 0) (over s at (form n)) s ≡ slice_written s at n
  unfolding slice_written
  by_answer e = ap (λ (t : Told). cond (eqb t.refusal 0) (over s at (form n)) s) e

  pub at_refusal : {t : Told} (row : ℕ) → t ≡ refused_at (suc row) at → refused_at (suc row) at ≡ writing s at n → (t ≡ writing s at n) × (s ≡ slice_written s at n)
  at_refusal row r e = (r ∙ e, simp (ne_eqb (suc row) 0 (omega arith)) at (by_answer e))

  pub at_placing : (next : ℕ) → placed next ≡ writing s at n → over s at (form n) ≡ slice_written s at n
  at_placing next e = by_answer e
