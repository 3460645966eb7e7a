-- "Power-up: 13, 1, 2, 3, each over all chips." It "takes no serial" (Wish 8). Assumes nothing.
use Rattle.std.specs.Prelude.{ℕ, Bool, true, false, cond, not, ◌&&◌, List, [], ◌∷◌, ◌++◌, eqb, length, take, drop, replicate, Option, Some, None, is_none}
use Rattle.parts.specs.Figures.{is_part, in_mask}
use Rattle.pins.specs.Levels.{at_rest}
use Rattle.pins.specs.declared.state.State.{State}
use Rattle.refusals.specs.declared.refusal.Refusal.{Refusal}
use Rattle.refusals.specs.declared.refusal.Refusal.TheVariants.{NoPart, ArrayLength, KeptBits, ChipCount}
use Rattle.supply.specs.Power as chip
use Rattle.board.specs.Chips.{piece_length, sum}
use Rattle.board.specs.Checks.{no_board}
use Rattle.board.specs.declared.power.Asked.{Asked}
use Rattle.board.specs.declared.power.Plan.{Plan}
use Rattle.board.specs.declared.power.PoweredBoard.{PoweredBoard}

-- the chips that are asked for; the places behind them mean nothing
abbrev pub asked : Plan → List Asked
asked p = take p.count p.chips

unfoldable pub all_parts : List Asked → Bool
all_parts [] = true
all_parts (a ∷ more) = is_part a.part && all_parts more

abbrev pub together_asked : List Asked → ℕ
together_asked qs = sum (λ a. piece_length a.part) qs

unfoldable pub all_masked : List Asked → Bool
all_masked [] = true
all_masked (a ∷ more) = in_mask a.part a.kept && all_masked more

unfoldable pub power_refusal : Plan → ℕ → Option Refusal
power_refusal p len =
    cond (no_board p.count) (Some ChipCount)
    (cond (not (all_parts (asked p))) (Some NoPart)
    (cond (not (eqb len (together_asked (asked p)))) (Some ArrayLength)
    (cond (not (all_masked (asked p))) (Some KeptBits)
    None)))

-- each chip's power-up, over its piece of the slice
unfoldable pub powered : List Asked → List ℕ → List State
powered [] xs = []
powered (a ∷ more) xs =
    (chip.power_up a.part a.kept (take (piece_length a.part) xs)).state
    ∷ powered more (drop (piece_length a.part) xs)

-- "A refused power-up returns part 1 in the off state with kept bits 0": so is each place with no chip
abbrev pub spare : List State
spare = replicate 8 (at_rest 1 0 false)

unfoldable pub power_up : Plan → List ℕ → PoweredBoard
power_up p xs =
    cond (is_none (power_refusal p (length xs)))
    (record { refusal = None; board = record { count = p.count; chips = powered (asked p) xs ++ drop p.count spare } })
    (record { refusal = power_refusal p (length xs); board = record { count = 0; chips = spare } })
