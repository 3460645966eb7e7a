-- The chip's run with every event counted: the state, the array and the counters threaded. It is the definition that the contract of
-- the counting call cites, event after event. Assumes nothing.
use Rattle.std.specs.Prelude.{ℕ, List, [], ◌∷◌, replicate}
use Rattle.parts.specs.Figures.{figure_of}
use Rattle.chip.specs.Run.{Chip, answered}
use Rattle.wear.specs.Count.{row_count, counted, counters_after}

-- the chip with what is lent to it, and the lent counters
pub record Worn : Type 0 where
  pub chip : Chip
  pub counters : List ℕ

abbrev pub worn : Chip → List ℕ → Worn
worn c counters = record { chip = c; counters = counters }

-- "counters at 0", one for each row of the part
abbrev pub unworn : ℕ → Chip → Worn
unworn part c = worn c (replicate (row_count (figure_of part)) 0)

-- one event; a refused one changes nothing
unfoldable pub count_one : Worn → ℕ → Worn
count_one w code =
    let c = w.chip in
    record {
      chip = answered c (counted c.serial c.array w.counters c.state code);
      counters = counters_after c.serial c.array w.counters c.state code;
    }

unfoldable pub count_run : Worn → List ℕ → Worn
count_run w [] = w
count_run w (code ∷ codes) = count_run (count_one w code) codes
