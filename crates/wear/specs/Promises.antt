-- What the counting call promises: its answer, the lent array and the lent counters at its exit. Assumes nothing.
use Rattle.std.specs.Prelude.{ℕ, ◌≡◌, List}
use Rattle.chip.specs.Answers.{paper}
use Rattle.step.specs.Step.{written}
use Rattle.chip.specs.declared.event.Answer.{Answer}
use Rattle.pins.specs.declared.state.State.{State}
use Rattle.wear.specs.Count.{counted, counters_after}

-- an event counted on the array xs and the counters, with the serial number, from the state s: the answer a in the numbers of document
-- 01, the array ys and the counters cs
abbrev pub CountPromise : List ℕ → List ℕ → List ℕ → State → ℕ → Answer → List ℕ → List ℕ → Type 0
CountPromise serial xs counters s code a ys cs =
    (paper a ≡ paper (counted serial xs counters s code))
    × (ys ≡ written (counted serial xs counters s code).note xs)
    × (cs ≡ counters_after serial xs counters s code)
