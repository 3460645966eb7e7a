-- Two tests joined by && hold exactly where both do, a test holds exactly where its denial does not; what holds of both
-- sides of a choice holds of the choice; two values that both equal a third are the same. Assumes nothing.
use Rattle.std.specs.Prelude.{◌≡◌, refl, Bool, true, false, cond, not, ◌&&◌}
use Rattle.std.proofs.Common.{sym, ◌∙◌}

pub both : {a b : Bool} → a ≡ true → b ≡ true → (a && b) ≡ true
both p q = rw (p, q)

pub left : (a b : Bool) → (a && b) ≡ true → a ≡ true
left true b h = refl
left false b h = h

pub right : (a b : Bool) → (a && b) ≡ true → b ≡ true
right true b h = h
right false b h = cc

-- by what a function answered: its denial was taken, or left
pub denied : {r a : Bool} → r ≡ a → not r ≡ true → a ≡ false
denied {r = true} e h = cc
denied {r = false} e h = sym e

pub granted : {r a : Bool} → r ≡ a → not r ≡ false → a ≡ true
granted {r = true} e h = sym e
granted {r = false} e h = cc

pub choose : {A : Type 0} (P : A → Type 0) (t : Bool) {a b : A} → P a → P b → P (cond t a b)
choose P true p q = p
choose P false p q = q

-- a promise that is an equation to a definition fixes its outcome
pub sole : {A : Type 0} {a b c : A} → a ≡ c → b ≡ c → a ≡ b
sole p q = p ∙ sym q
