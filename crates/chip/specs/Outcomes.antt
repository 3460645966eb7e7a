-- Two outcomes that both satisfy a public call's promise are the same: the answer, and every byte of the lent slice.
-- Where the promise is an equation to a definition there is nothing to it; the event's answer goes by its numbers, which
-- say all. Assumes nothing.
use Rattle.std.specs.Prelude.{ℕ, ◌≡◌, Bool, List}
use Rattle.std.proofs.Common.{ap}
use Rattle.laws.specs.TestLaws.{sole}
use Rattle.select.specs.NoteLaws.{level_sole, note_sole}
use Rattle.refusals.specs.RefusalLaws.{given_sole}
use Rattle.chip.specs.Answers.{Paper, paper}
use Rattle.chip.specs.Promises.{EventPromise, ListPromise}
use Rattle.pins.specs.Sound.{sound}
use Rattle.chip.specs.declared.event.Answer.{Answer}
use Rattle.chip.specs.declared.list.Listed.{Listed}
use Rattle.pins.specs.declared.state.State.{State}

pub paper_sole : (a b : Answer) → paper a ≡ paper b → a ≡ b
paper_sole a b e = λ i. record { refusal = refusal i; so = so i; note = note i; state = (e i).state }
  where
    refusal : a.refusal ≡ b.refusal
    refusal = given_sole a.refusal b.refusal (ap (λ (p : Paper). p.refusal) e)

    so : a.so ≡ b.so
    so = level_sole a.so b.so (ap (λ (p : Paper). p.so) e)

    note : a.note ≡ b.note
    note = note_sole a.note b.note (ap (λ (p : Paper). p.note) e)

-- what a call leaves: its answer and the lent array
module _ (serial xs : List ℕ) (s : State) (code : ℕ) where
  pub event_sole : (a b : Answer) (ys zs : List ℕ)
      → EventPromise serial xs s code a ys
      → EventPromise serial xs s code b zs
      → (a ≡ b) × (ys ≡ zs)
  event_sole a b ys zs p q = (paper_sole a b (sole p.0 q.0), sole p.1 q.1)

module _ (serial xs : List ℕ) (s : State) (codes levels : List ℕ) where
  pub list_sole : (a b : Listed) (ys zs ls ms : List ℕ)
      → ListPromise serial xs s codes levels a ys ls
      → ListPromise serial xs s codes levels b zs ms
      → (a ≡ b) × (ys ≡ zs) × (ls ≡ ms)
  list_sole a b ys zs ls ms p q = (
    λ i. record { refusal = sole p.0 q.0 i; count = sole p.1 q.1 i; state = sole p.2 q.2 i },
    sole p.3 q.3,
    sole p.4 q.4,
  )

pub sound_sole : (s : State) (a b : Bool) → a ≡ sound s → b ≡ sound s → a ≡ b
sound_sole s a b = sole
