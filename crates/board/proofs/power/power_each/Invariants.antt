-- Turn by turn what comes of all chips is fixed (`Powering`): the next chip is powered up over its piece.
use Rattle.board.proofs.PowerLaws.{Powering}
use Rattle.board.proofs.power.power_each.Given as goal

abbrev pub invariant-loop-i : goal.invariant-loop-i
invariant-loop-i l = Powering l.fn.asked l.array l.chips l.start l.i
