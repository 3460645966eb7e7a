-- Power-ups of boards: "13, 1, 2, 3, each over all chips". Assumes nothing.
use Rattle.std.specs.Prelude.{ℕ, Bool, true, ◌&&◌, List, [], ◌∷◌, ◌++◌, eqb, length, drop, replicate}
use Rattle.pins.specs.Levels.{at_rest}
use Rattle.pins.specs.declared.state.State.{State}
use Rattle.refusals.specs.Refusals.{number_or_0}
use Rattle.chip.specs.Examples.Run.{same}
use Rattle.board.specs.Examples.Events.{board_of, numbers_of}
use Rattle.board.specs.Power.{power_up}
use Rattle.board.specs.declared.chips.Board.{Board}
use Rattle.board.specs.declared.power.Asked.{Asked}
use Rattle.board.specs.declared.power.Plan.{Plan}
use Rattle.board.specs.declared.power.PoweredBoard.{PoweredBoard}

abbrev ask : ℕ → ℕ → Asked
ask part kept = record { part = part; kept = kept }

-- so many chips, these first, and behind them places that ask for no part
abbrev plan_of : ℕ → List Asked → Plan
plan_of n qs = record { count = n; chips = qs ++ drop (length qs) (replicate 8 (ask 0 0xFF)) }

-- a power-up over a slice of so many bytes: its refusal, and the board
pub record Case : Type 0 where
  pub plan : Plan
  pub len : ℕ
  pub number : ℕ
  pub board : Board

-- "A refused power-up returns part 1 in the off state with kept bits 0": in every place, and no chip is there
abbrev fails : ℕ → List Asked → ℕ → ℕ → Case
fails n qs len number = record { plan = plan_of n qs; len = len; number = number; board = board_of [] }

abbrev starts : List Asked → ℕ → List State → Case
starts qs len ss = record { plan = plan_of (length qs) qs; len = len; number = 0; board = board_of ss }

abbrev gives : Case → PoweredBoard → Bool
gives c p =
    eqb (number_or_0 p.refusal) c.number && eqb p.board.count c.board.count && same (numbers_of p.board.chips) (numbers_of c.board.chips)

abbrev pub all_give : List Case → Bool
all_give [] = true
all_give (c ∷ cs) = gives c (power_up c.plan (replicate c.len 0)) && all_give cs

unfoldable pub powers : List Case
powers =
    -- 13 before 1, 2, 3
    fails 0 [] 0 13 ∷ fails 0 (ask 1 0 ∷ []) 512 13 ∷ fails 9 (ask 9 0 ∷ []) 1 13
    -- 1 of any chip, before 2 and 3 of any other
    ∷ fails 1 (ask 0 0 ∷ []) 512 1 ∷ fails 2 (ask 1 0x01 ∷ ask 9 0 ∷ []) 0 1 ∷ fails 2 (ask 6 0 ∷ ask 1 0 ∷ []) 1024 1
    ∷ fails 2 (ask 1 0 ∷ []) 512 1
    -- 2: all pieces together; before 3
    ∷ fails 2 (ask 1 0 ∷ ask 3 0x8C ∷ []) 2559 2 ∷ fails 2 (ask 1 0 ∷ ask 3 0x8C ∷ []) 2561 2 ∷ fails 2 (ask 1 0x01 ∷ ask 1 0 ∷ []) 512 2
    -- 3 of any chip, by its own part's mask
    ∷ fails 2 (ask 1 0x01 ∷ ask 1 0 ∷ []) 1024 3 ∷ fails 2 (ask 3 0x80 ∷ ask 2 0x80 ∷ []) 2560 3 ∷ fails 1 (ask 1 256 ∷ []) 512 3
    ∷ starts (ask 1 0x0C ∷ ask 3 0x8C ∷ []) 2560 (at_rest 1 0x0C true ∷ at_rest 3 0x8C true ∷ [])
    ∷ starts (ask 2 0x08 ∷ []) 512 (at_rest 2 0x08 true ∷ [])
    ∷ starts (ask 4 0x8C ∷ ask 1 0 ∷ []) 16896 (at_rest 4 0x8C true ∷ at_rest 1 0 true ∷ [])
    -- part 5 "takes no serial"
    ∷ starts (ask 5 0x8C ∷ ask 1 0 ∷ []) 16896 (at_rest 5 0x8C true ∷ at_rest 1 0 true ∷ [])
    ∷ starts (replicate 8 (ask 1 0)) 4096 (replicate 8 (at_rest 1 0 true))
    ∷ []
