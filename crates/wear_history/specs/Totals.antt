-- What the theorems on row cycles speak of besides wear's Count and Run, the history's Rows and the library's `sum`. Assumes nothing.
use Rattle.std.specs.Prelude.{ℕ, ◌<◌, List, [], ◌∷◌}
use Rattle.wear.specs.Count.{full}

-- "with no counter full"
abbrev pub NoneFull : List ℕ → Type 0
NoneFull [] = Unit {0}
NoneFull (count ∷ counters) = (count < full) × NoneFull counters
