-- The chip's pieces begin where those before it end. They are lent to the chip, and that of the slice is put back, so all else stays.
use Rattle.std.proofs.Common.{arith}
use Rattle.board.proofs.OneLaws.{array, serial, one_inside, one_refused, one_moved, one_written}
use Rattle.board.proofs.event.move_one.Goals as goal

pub overflow_add-end : goal.overflow_add-end
overflow_add-end c =
    let r = c.requires in
    record {
      fits =
          omega (arith, one_inside _ _ _ r.there array _ _ c.together-before.ensures.array c.lengths_of-own.ensures.array _ r.whole_slice);
    }

pub overflow_add-to : goal.overflow_add-to
overflow_add-to c =
    let r = c.requires in
    record {
      fits =
          omega (arith, one_inside _ _ _ r.there serial _ _ c.together-before.ensures.serials c.lengths_of-own.ensures.serials _ r.whole_serials);
    }

pub slice_bounds-event-end : goal.slice_bounds-event-end
slice_bounds-event-end c =
    let r = c.requires in
    one_inside _ _ _ r.there array _ _ c.together-before.ensures.array c.lengths_of-own.ensures.array _ r.whole_slice

pub slice_bounds-event-end-2 : goal.slice_bounds-event-end-2
slice_bounds-event-end-2 c =
    let r = c.requires in
    one_inside _ _ _ r.there serial _ _ c.together-before.ensures.serials c.lengths_of-own.ensures.serials _ r.whole_serials

pub returns-clause-refusal : goal.returns-clause-refusal
returns-clause-refusal c =
    let p = c.together-before.ensures in
    let q = c.lengths_of-own.ensures in
    one_refused _ _ _ c.requires.there _ _ _ _ _ _ _ p.array q.array p.serials q.serials c.event-answer.result _ c.event-answer.ensures

pub returns-clause-chips_after : goal.returns-clause-chips_after
returns-clause-chips_after c =
    let p = c.together-before.ensures in
    let q = c.lengths_of-own.ensures in
    one_moved _ _ _ c.requires.there _ _ _ _ _ _ _ p.array q.array p.serials q.serials c.event-answer.result _ c.event-answer.ensures

pub returns-clause-array_after : goal.returns-clause-array_after
returns-clause-array_after c =
    let p = c.together-before.ensures in
    let q = c.lengths_of-own.ensures in
    one_written _ _ _ c.requires.there _ _ _ _ _ _ _ p.array q.array p.serials q.serials c.event-answer.result _ c.event-answer.ensures
    c.requires.whole_slice
