-- One event on the board. Assumes nothing.
use Rattle.std.specs.Prelude.{ℕ, zero, suc, cond, List, [], ◌∷◌, length, Option, None, is_none}
use Rattle.refusals.specs.declared.refusal.Refusal.{Refusal}
use Rattle.chip.specs.Event as chip
use Rattle.chip.specs.Run.{Chip, next}
use Rattle.board.specs.Chips.{chips_of, states, slice, with_chips}
use Rattle.board.specs.Checks.{is_own, checks}
use Rattle.board.specs.So.{board_so}
use Rattle.board.specs.declared.chips.Board.{Board}
use Rattle.board.specs.declared.so.BoardSo.{BoardSo}
use Rattle.board.specs.declared.so.BoardSo.TheVariants.{Released}

-- "A shared line moves every chip"
unfoldable pub every : ℕ → List Chip → List Chip
every code [] = []
every code (c ∷ cs) = next c code ∷ every code cs

-- "an own line moves one chip and nothing of any other, bytes included"
unfoldable pub at : ℕ → ℕ → List Chip → List Chip
at k code [] = []
at zero code (c ∷ cs) = next c code ∷ cs
at (suc k) code (c ∷ cs) = c ∷ at k code cs

abbrev pub moved : ℕ → ℕ → List Chip → List Chip
moved k code cs = cond (is_own code) (at k code cs) (every code cs)

-- "then 6 and 7 of the chip moved"
unfoldable pub refusal_at : ℕ → ℕ → List Chip → Option Refusal
refusal_at k code [] = None
refusal_at zero code (c ∷ cs) = (chip.event c.serial c.array c.state code).refusal
refusal_at (suc k) code (c ∷ cs) = refusal_at k code cs

unfoldable pub refusal : List ℕ → List ℕ → Board → ℕ → ℕ → Option Refusal
refusal serials xs b k code =
    chip.first (checks b (length xs) (length serials) k code) (cond (is_own code) (refusal_at k code (chips_of b xs serials)) None)

-- what an event leaves: the answer, and the lent slice; the serials are lent read only
pub record Outcome : Type 0 where
  pub refusal : Option Refusal
  pub so : BoardSo
  pub board : Board
  pub slice : List ℕ

abbrev pub left : Board → List Chip → Outcome
left b cs = record { refusal = None; so = board_so (states cs); board = with_chips b cs; slice = slice cs }

-- "a refused event changes no chip"; "SO reads released" (document 01)
abbrev pub refused : Option Refusal → Board → List ℕ → Outcome
refused given b xs = record { refusal = given; so = Released; board = b; slice = xs }

-- one event on the lent slice xs, with the lent serials
unfoldable pub event : List ℕ → List ℕ → Board → ℕ → ℕ → Outcome
event serials xs b k code =
    cond (is_none (refusal serials xs b k code))
    (left b (moved k code (chips_of b xs serials)))
    (refused (refusal serials xs b k code) b xs)
