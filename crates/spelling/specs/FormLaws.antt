-- The bytes of items one behind the other. Assumes nothing.
use Rattle.std.specs.Prelude.{◌≡◌, refl, List, [], ◌∷◌, ◌++◌, ℕ}
use Rattle.std.proofs.Common.{sym, ap, ◌∙◌, append_assoc}
use Rattle.trace.specs.Form.{form}
use Rattle.spelling.specs.Items.{forms}

pub forms_append : (xs ys : List ℕ) → forms (xs ++ ys) ≡ forms xs ++ forms ys
forms_append [] ys = refl
forms_append (x ∷ xs) ys = ap (λ (l : List ℕ). form x ++ l) (forms_append xs ys) ∙ sym (append_assoc (form x) (forms xs) (forms ys))
