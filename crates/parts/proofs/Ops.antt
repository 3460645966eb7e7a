-- Looking an op-code up from a place on: the entry there is tried first, then the rest; past the end nothing is found.
-- Assumes nothing.
use Prim.Native.Nat.{ℕ, zero, suc, ◌+◌, ◌<◌, ◌≤◌}
use mathlib.Core.Path.{◌≡◌, refl, sym, ◌∙◌}
use mathlib.Core.Bool.{cond}
use mathlib.Core.List.{List, [], ◌∷◌}
use native.Mathlib.Numerals.{add-one}
use native.Mathlib.Omega.{arith}
use borrow.Author.Tests.{eq-eqb, ne_eqb, eqb-false}
use lib.Dec.{eqb}
use lib.ListN.{length, drop, get_or}
use Rattle.parts.specs.Commands.{command}
use Rattle.parts.specs.declared.commands.Op.{Op}
use Rattle.parts.specs.declared.commands.Command.TheVariants.{Other}

tried :
    (ops : List Op) (i code : ℕ) (none : Op) → i < length ops
    → command (drop i ops) code ≡ cond (eqb code (get_or ops i none).code) (get_or ops i none).command (command (drop (suc i) ops) code)
unfolding command
tried [] i code none h = absurd (eqb-false 0 1 refl (omega arith))
tried (op ∷ ops) zero code none h = refl
tried (op ∷ ops) (suc i) code none h = tried ops i code none (omega arith)

past : (ops : List Op) (i code : ℕ) → length ops ≤ i → command (drop i ops) code ≡ Other
unfolding command
past [] zero code h = refl
past [] (suc i) code h = refl
past (op ∷ ops) zero code h = absurd (eqb-false 0 1 refl (omega arith))
past (op ∷ ops) (suc i) code h = past ops i code (omega arith)

-- the ways out of a look-up: found at i, not there, and past the end
module _ (ops : List Op) (i code n : ℕ) (size : length ops ≡ n) (left : command (drop i ops) code ≡ command ops code) where
  pub found : (none : Op) → i < n → code ≡ (get_or ops i none).code → (get_or ops i none).command ≡ command ops code
  found none h e = sym (rw (eq-eqb _ _ e) at (tried ops i code none (omega arith))) ∙ left

  pub missed : (none : Op) → i < n → (code ≡ (get_or ops i none).code → ⊥) → command (drop (i + 1) ops) code ≡ command ops code
  missed none h e = rw add-one (sym (rw (ne_eqb _ _ e) at (tried ops i code none (omega arith))) ∙ left)

  pub nowhere : n ≤ i → Other ≡ command ops code
  nowhere h = sym (past ops i code (omega arith)) ∙ left
