-- Turn by turn what comes of all chips is fixed (`Going`): the next chip's pieces are lent to it, and that of the slice is put back.
use Rattle.board.proofs.EveryLaws.{Going}
use Rattle.board.proofs.event.move_every.Given as goal

abbrev pub invariant-loop-chip : goal.invariant-loop-chip
invariant-loop-chip l = Going l.code l.fn.chips l.serials l.fn.array l.chip-items l.array l.start l.from l.chip-index
