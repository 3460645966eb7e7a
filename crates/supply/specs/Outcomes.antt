-- Two outcomes that both satisfy a public call's promise are the same. Assumes nothing.
use Rattle.std.specs.Prelude.{ℕ, ◌≡◌, List, Result}
use Rattle.laws.specs.TestLaws.{sole}
use Rattle.refusals.specs.declared.refusal.Refusal.{Refusal}
use Rattle.supply.specs.Power.{power_up}
use Rattle.supply.specs.Promises.{FillPromise}
use Rattle.supply.specs.declared.power.Powered.{Powered}

module _ (part kept : ℕ) (xs : List ℕ) where
  pub power_up_sole : (a b : Powered) → a ≡ power_up part kept xs → b ≡ power_up part kept xs → a ≡ b
  power_up_sole a b = sole

  pub fill_sole : (byte : ℕ) (a b : Result (Unit {0}) Refusal) (ys zs : List ℕ)
      → FillPromise part byte xs a ys
      → FillPromise part byte xs b zs
      → (a ≡ b) × (ys ≡ zs)
  fill_sole byte a b ys zs p q = (sole p.0 q.0, sole p.1 q.1)
