-- Turn by turn what comes of all chips is fixed (`Going`): the next chip's pieces are lent to it, and that of the slice is put back.
use Rattle.std.proofs.Common.{arith}
use Rattle.board.proofs.EveryLaws.{ends_inside, own_inside, going_on, going_ends}
use Rattle.board.proofs.event.move_every.Goals as goal

pub overflow_add-end : goal.overflow_add-end
overflow_add-end c =
    record { fits = omega (arith, ends_inside _ _ _ _ _ _ _ _ _ c.loop-chip.invariant _ c.loop-chip-test.true _ c.lengths_of-own.ensures.array) }

pub overflow_add-to : goal.overflow_add-to
overflow_add-to c =
    record { fits = omega (arith, own_inside _ _ _ _ _ _ _ _ _ c.loop-chip.invariant _ c.loop-chip-test.true _ c.lengths_of-own.ensures.serials) }

pub slice_bounds-event-end : goal.slice_bounds-event-end
slice_bounds-event-end c = ends_inside _ _ _ _ _ _ _ _ _ c.loop-chip.invariant _ c.loop-chip-test.true _ c.lengths_of-own.ensures.array

pub slice_bounds-event-end-in-loop-chip : goal.slice_bounds-event-end-in-loop-chip
slice_bounds-event-end-in-loop-chip c =
    own_inside _ _ _ _ _ _ _ _ _ c.loop-chip.invariant _ c.loop-chip-test.true _ c.lengths_of-own.ensures.serials

pub loop-chip-preserved : goal.loop-chip-preserved
loop-chip-preserved c =
    let own = c.lengths_of-own.ensures in
    going_on _ _ _ _ _ _ _ _ _ c.loop-chip.invariant _ c.loop-chip-test.true _ _ own.array own.serials c.event-answer.result _ c.event-answer.ensures

pub returns-clause-chips_after : goal.returns-clause-chips_after
returns-clause-chips_after c = (going_ends _ _ _ _ _ _ _ _ _ c.loop-chip.invariant c.loop-chip-test.false).0

pub returns-clause-array_after : goal.returns-clause-array_after
returns-clause-array_after c = (going_ends _ _ _ _ _ _ _ _ _ c.loop-chip.invariant c.loop-chip-test.false).1
