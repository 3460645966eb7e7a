-- A refusal is given or none is: how the tests of it and the answers of checks say so. Assumes nothing.
use Rattle.std.specs.Prelude.{◌≡◌, refl, true, false, Option, Some, None, is_none, Ok, Err}
use Rattle.std.proofs.Common.{arith, sym}
use Rattle.std.proofs.lemmas.Option.{none-some}
use Rattle.refusals.specs.declared.refusal.Refusal.{Refusal}
use Rattle.supply.specs.Power.{checked}

pub none_given : (given : Option Refusal) → is_none given ≡ true → given ≡ None
none_given None h = refl
none_given (Some why) h = cc

pub some_given : (given : Option Refusal) → (given ≡ None → ⊥) → is_none given ≡ false
some_given None h = absurd (h refl)
some_given (Some why) h = refl

pub given_not_none : (given : Option Refusal) → is_none given ≡ false → given ≡ None → ⊥
given_not_none None h e = cc
given_not_none (Some why) h e = none-some why (sym e)

-- a check that answers Ok gives no refusal
pub checked_none : (given : Option Refusal) → checked given ≡ Ok tt → given ≡ None
checked_none None h = refl
checked_none (Some why) h = grind arith

-- and one that doesn't gives its error
pub checked_some : (given : Option Refusal) (why : Refusal) → checked given ≡ Err why → given ≡ Some why
checked_some None why h = grind arith
checked_some (Some other) why h = grind arith
