-- What an event on the board promises. Assumes nothing.
use Rattle.std.specs.Prelude.{ℕ, ◌≡◌, List}
use Rattle.board.specs.Event.{event}
use Rattle.board.specs.So.{so_number}
use Rattle.board.specs.declared.chips.Board.{Board}
use Rattle.board.specs.declared.event.BoardAnswer.{BoardAnswer}

-- an event on the slice xs, with the serials, on the board b: the answer a in the paper's numbers, and the slice ys
abbrev pub BoardPromise : List ℕ → List ℕ → Board → ℕ → ℕ → BoardAnswer → List ℕ → Type 0
BoardPromise serials xs b k code a ys =
    (a.refusal ≡ (event serials xs b k code).refusal)
    × (so_number a.so ≡ so_number (event serials xs b k code).so)
    × (a.board ≡ (event serials xs b k code).board)
    × (ys ≡ (event serials xs b k code).slice)
