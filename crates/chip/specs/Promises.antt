-- What a call promises where it leaves more than one thing: its answer, and the lent array at its exit. Assumes nothing.
use Rattle.std.specs.Prelude.{ℕ, ◌≡◌, List}
use Rattle.chip.specs.Answers.{paper}
use Rattle.step.specs.Step.{written}
use Rattle.chip.specs.Event.{event}
use Rattle.chip.specs.List.{listed}
use Rattle.chip.specs.declared.event.Answer.{Answer}
use Rattle.chip.specs.declared.list.Listed.{Listed}
use Rattle.pins.specs.declared.state.State.{State}

-- an event on the array xs, with the serial number, from the state s: the answer a in the numbers of document 01, and the array ys
abbrev pub EventPromise : List ℕ → List ℕ → State → ℕ → Answer → List ℕ → Type 0
EventPromise serial xs s code a ys = (paper a ≡ paper (event serial xs s code)) × (ys ≡ written (event serial xs s code).note xs)

-- a list of events on the array xs, with the serial number, from the state s, with the answers os: the answer a, the array ys
-- and the answers ls
abbrev pub ListPromise : List ℕ → List ℕ → State → List ℕ → List ℕ → Listed → List ℕ → List ℕ → Type 0
ListPromise serial xs s codes os a ys ls =
    (a.refusal ≡ (listed serial xs s codes os).refusal)
    × (a.count ≡ (listed serial xs s codes os).count)
    × (a.state ≡ (listed serial xs s codes os).state)
    × (ys ≡ (listed serial xs s codes os).array)
    × (ls ≡ (listed serial xs s codes os).levels)
