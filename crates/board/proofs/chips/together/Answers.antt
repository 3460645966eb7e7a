-- The sums so far and the pieces that are left are all pieces together; no piece is longer than the longest, so the sums fit.
use Rattle.std.proofs.Common.{arith, ◌+◌}
use Rattle.parts.specs.FigureLaws.{largest, serial_short}
use Rattle.board.specs.Chips.{together, serials_together, sum}
use Rattle.board.proofs.PieceLaws.{still_small}
use Rattle.board.proofs.WalkLaws.{walk_next, added}
use Rattle.board.proofs.chips.together.Goals as goal

pub overflow_add-array : goal.overflow_add-array
overflow_add-array c =
    let l = c.loop-chip in
    record { fits = omega (arith, still_small _ l.chip-index _ _ (largest _) l.invariant.array_small c.lengths_of-own.ensures.array) }

pub overflow_add-serials : goal.overflow_add-serials
overflow_add-serials c =
    let l = c.loop-chip in
    record { fits = omega (arith, still_small _ l.chip-index _ _ (serial_short _) l.invariant.serials_small c.lengths_of-own.ensures.serials) }

pub loop-chip-preserved : goal.loop-chip-preserved
unfolding sum
loop-chip-preserved c =
    let l = c.loop-chip in
    let t = c.loop-chip-test.true in
    let own = c.lengths_of-own.ensures in
    record {
      array = added _ _ _ _ _ own.array (walk_next _ (λ ss. l.array + together ss) l.chip-index _ l.invariant.array _ t);
      serials = added _ _ _ _ _ own.serials (walk_next _ (λ ss. l.serials + serials_together ss) l.chip-index _ l.invariant.serials _ t);
      array_small = still_small _ _ _ _ (largest _) l.invariant.array_small own.array;
      serials_small = still_small _ _ _ _ (serial_short _) l.invariant.serials_small own.serials;
    }
