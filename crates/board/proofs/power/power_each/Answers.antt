-- Turn by turn what comes of all chips is fixed (`Powering`): the next chip is powered up over its piece.
use Rattle.std.proofs.Common.{arith, ap}
use Rattle.supply.specs.declared.power.Powered.{Powered}
use Rattle.board.proofs.PowerLaws.{asked_inside, powering_on, powering_ends}
use Rattle.board.proofs.power.power_each.Goals as goal

pub overflow_add-end : goal.overflow_add-end
overflow_add-end c =
    record { fits = omega (arith, asked_inside _ _ _ _ _ c.loop-i.invariant _ c.loop-i-test.true _ c.part_lengths.ensures.array) }

pub slice_bounds-power_up-end : goal.slice_bounds-power_up-end
slice_bounds-power_up-end c = asked_inside _ _ _ _ _ c.loop-i.invariant _ c.loop-i-test.true _ c.part_lengths.ensures.array

pub loop-i-preserved : goal.loop-i-preserved
loop-i-preserved c =
    powering_on _ _ _ _ _ c.loop-i.invariant _ c.loop-i-test.true _ c.part_lengths.ensures.array _
    (ap (λ (q : Powered). q.state) c.power_up.ensures)

pub returns : goal.returns
returns c = powering_ends _ _ _ _ _ c.loop-i.invariant c.loop-i-test.false
