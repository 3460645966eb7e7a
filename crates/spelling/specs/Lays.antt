-- Bytes put into a slice from a place on, where they have room. Assumes nothing.
use Rattle.std.specs.Prelude.{◌≡◌, cond, List, [], ◌∷◌, Option, Some, None, ℕ, ◌+◌, ◌-◌, ◌≤◌, leb, length}
use Rattle.std.proofs.lemmas.List.Edits.{sets}
use Rattle.trace.specs.Figures.{largest}

-- every item is a trace number
abbrev pub Small : List ℕ → Type 0
Small [] = Unit {0}
Small (item ∷ items) = (item ≤ largest) × Small items

-- n bytes at a place of a slice of so many: the place behind them, where they have room
abbrev pub laid : ℕ → ℕ → ℕ → Option ℕ
laid size at n = cond (leb n (size - at)) (Some (at + n)) None

-- what putting bytes answers, and the slice after it where they had room
pub record Lays (before : List ℕ) (at : ℕ) (bytes after : List ℕ) (r : Option ℕ) : Type 0 where
  pub answer : r ≡ laid (length before) at (length bytes)
  pub there : length bytes ≤ length before - at → after ≡ sets before at bytes
