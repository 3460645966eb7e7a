-- A chip that is lent its pieces: what its own call promises of it is `next`. Assumes nothing.
use Rattle.std.specs.Prelude.{ℕ, ◌≡◌, List, take, drop}
use Rattle.std.proofs.Math.Path.{sym}
use Rattle.std.proofs.Common.{ap}
use Rattle.pins.specs.declared.state.State.{State}
use Rattle.chip.specs.Answers.{Paper}
use Rattle.chip.specs.Promises.{EventPromise}
use Rattle.chip.specs.Run.{Chip, next}
use Rattle.chip.specs.declared.event.Answer.{Answer}

-- a chip over p bytes of the slice xs from a on, with q bytes of the serials ns from o on
abbrev pub lent : State → List ℕ → ℕ → ℕ → List ℕ → ℕ → ℕ → Chip
lent s xs a p ns o q = record { state = s; array = take p (drop a xs); serial = take q (drop o ns) }

module _ (c : Chip) (code : ℕ) (r : Answer) (ys : List ℕ) (told : EventPromise c.serial c.array c.state code r ys) where
  pub told_state : (next c code).state ≡ r.state
  unfolding next
  told_state = sym (ap (λ (q : Paper). q.state) told.0)

  pub told_array : (next c code).array ≡ ys
  unfolding next
  told_array = sym told.1
