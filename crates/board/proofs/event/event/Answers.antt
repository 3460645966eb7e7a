-- The checks first; what passes them moves the chips, and the one that an own line moves may refuse.
use Rattle.std.proofs.Common.{arith, sym, ◌∙◌, ◌<◌, drop, ◌++◌, length-take-le}
use Rattle.std.proofs.lemmas.Option.{none-some}
use Rattle.board.proofs.EventLaws.{way_refused, chips_there, chips_fitted, still_there, whole_slice, whole_serials, its_chip, way_left, way_moved_refused}
use Rattle.board.proofs.event.event.Goals as goal

pub returns-in-Err : goal.returns-in-Err
returns-in-Err c =
    let s = c.args in
    rw c.refused.ensures
    (way_refused s.serials.now s.array.now s.board s.chip s.code _ c.checks-checked.ensures c.in-Err.refusal c.in-Err.is)

pub slice_bounds-chips-end : goal.slice_bounds-chips-end
slice_bounds-chips-end c =
    let s = c.args in
    chips_there s.serials.now s.array.now s.board s.chip s.code _ c.checks-checked.ensures c.in_default.is (omega arith)

pub slice_bounds-move_chips-end : goal.slice_bounds-move_chips-end
slice_bounds-move_chips-end c =
    let s = c.args in
    sym (chips_fitted s.serials.now s.array.now s.board s.chip s.code _ c.checks-checked.ensures c.in_default.is (omega arith))

pub move_chips-refusal-requires-clause-there : goal.move_chips-refusal-requires-clause-there
move_chips-refusal-requires-clause-there c own =
    let s = c.args in
    let there : s.chip < s.board.count =
    its_chip s.serials.now s.array.now s.board s.chip s.code _ c.checks-checked.ensures c.in_default.is own in
    omega (arith, chips_fitted s.serials.now s.array.now s.board s.chip s.code _ c.checks-checked.ensures c.in_default.is (omega arith))

pub move_chips-refusal-requires-clause-whole_slice : goal.move_chips-refusal-requires-clause-whole_slice
move_chips-refusal-requires-clause-whole_slice c =
    let s = c.args in
    whole_slice s.serials.now s.array.now s.board s.chip s.code _ c.checks-checked.ensures c.in_default.is

pub move_chips-refusal-requires-clause-whole_serials : goal.move_chips-refusal-requires-clause-whole_serials
move_chips-refusal-requires-clause-whole_serials c =
    let s = c.args in
    whole_serials s.serials.now s.array.now s.board s.chip s.code _ c.checks-checked.ensures c.in_default.is

pub returns-in-Some : goal.returns-in-Some
returns-in-Some c =
    let s = c.args in
    let m = c.move_chips-refusal.ensures in
    rw (c.refused-in-Some.ensures, sym c.in-Some.is)
    (way_moved_refused s.serials.now s.array.now s.board s.chip s.code _ c.checks-checked.ensures c.in_default.is
    _ _ m.refusal m.array_after (λ e. none-some c.in-Some.refusal (sym e ∙ c.in-Some.is)))

pub slice_bounds-chips-end-2 : goal.slice_bounds-chips-end-2
slice_bounds-chips-end-2 c =
    let s = c.args in
    still_there s.serials.now s.array.now s.board s.chip s.code _ c.checks-checked.ensures c.in_default.is (omega arith) c.move_chips-refusal.new.chips
    (omega arith)

pub slice_bounds-board_so-end : goal.slice_bounds-board_so-end
slice_bounds-board_so-end c =
    let s = c.args in
    let ss = c.move_chips-refusal.new.chips in
    sym
    (length-take-le s.board.count (ss ++ drop s.board.count s.board.chips)
    (still_there s.serials.now s.array.now s.board s.chip s.code _ c.checks-checked.ensures c.in_default.is (omega arith) ss (omega arith)))

pub returns : goal.returns
returns c =
    let s = c.args in
    let m = c.move_chips-refusal.ensures in
    way_left s.serials.now s.array.now s.board s.chip s.code _ c.checks-checked.ensures c.in_default.is
    _ _ m.refusal m.array_after _ _
    (chips_there s.serials.now s.array.now s.board s.chip s.code _ c.checks-checked.ensures c.in_default.is (omega arith))
    c.in_default-refusal.is m.chips_after c.board_so-so.ensures
