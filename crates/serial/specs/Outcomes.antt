-- Two answers that both satisfy the check call's promise are the same: an answer's numbers say which it is. Assumes nothing.
use Rattle.std.specs.Prelude.{ℕ, ◌≡◌, refl, Bool, true, false, List, eqb, get_or, Option, Some, None, Result, Ok, Err}
use Rattle.std.proofs.Common.{sym, ap, ◌∙◌}
use Rattle.laws.specs.TestLaws.{sole}
use Rattle.serial.specs.Check.{check_numbers}
use Rattle.serial.specs.Promises.{CheckPromise}
use Rattle.refusals.specs.RefusalLaws.{given_at, given_back}
use Rattle.refusals.specs.declared.refusal.Refusal.{Refusal}

-- back from the numbers to the answer
abbrev answer_by : Option Refusal → ℕ → Result Bool Refusal
answer_by None said = Ok (eqb said 1)
answer_by (Some refusal) said = Err refusal

abbrev answer_of : List ℕ → Result Bool Refusal
answer_of numbers = answer_by (given_at (get_or numbers 0 0)) (get_or numbers 1 0)

answer_of_lem : (a : Result Bool Refusal) → answer_of (check_numbers a) ≡ a
answer_of_lem (Ok true) = refl
answer_of_lem (Ok false) = refl
answer_of_lem (Err refusal) = ap (λ given. answer_by given 0) (given_back (Some refusal))

pub check_sole : (serial : List ℕ) (a b : Result Bool Refusal) → CheckPromise serial a → CheckPromise serial b → a ≡ b
check_sole serial a b p q = sym (answer_of_lem a) ∙ ap answer_of (sole p q) ∙ answer_of_lem b
