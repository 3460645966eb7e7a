-- Where a test says no, nothing is skipped; else whole bytes are, and the next one is shown as at a READ's first fall.
use Rattle.std.proofs.Common.{◌≡◌, ◌/◌, ℕ, List, length, arith}
use mathlib.Core.Path.{refl}
use Rattle.stages.specs.declared.stage.Line.{Line}
use Rattle.stages.specs.declared.stage.Stage.TheVariants.{ArrayOut}
use Rattle.pulses.specs.declared.ready.Ready.{Ready}
use Rattle.pulses.specs.SkipLaws.{Asked, asks, read_inside, read_is, read_out}
use Rattle.pulses.proofs.read.skip_read.Goals as goal

asked : (r : Ready) (xs : List ℕ) (level : Line) (bit at : ℕ) → length xs ≡ r.len → r.stand.chip.stage ≡ ArrayOut level bit at
    → Asked r.stand xs at (r.pulses / 8)
asked r xs level bit at own is =
    let safe = rw (← own) at r.steady_state in
    asks r.stand xs safe r.not_idle r.pulses at r.counts_fit (read_inside r.stand xs safe r.not_idle level bit at is)

pub overflow_add-next : goal.overflow_add-next
overflow_add-next c = grind (arith, (asked c.args.ready c.args.array.now _ _ _ c.requires.own_array c.requires.in_stage).place)

pub nonzero_rem-next : goal.nonzero_rem-next
nonzero_rem-next c = omega (arith, (asked c.args.ready c.args.array.now _ _ _ c.requires.own_array c.requires.in_stage).inside)

pub count_more-requires-clause-clocks_bound : goal.count_more-requires-clause-clocks_bound
count_more-requires-clause-clocks_bound c = (asked c.args.ready c.args.array.now _ _ _ c.requires.own_array c.requires.in_stage).clocks

pub count_more-requires-clause-shown_bound : goal.count_more-requires-clause-shown_bound
count_more-requires-clause-shown_bound c = (asked c.args.ready c.args.array.now _ _ _ c.requires.own_array c.requires.in_stage).shown

pub returns-clause-skips : goal.returns-clause-skips
returns-clause-skips c = (read_out _ _ (rw (← c.requires.own_array) at c.args.ready.steady_state) c.args.ready.not_idle _ _ _ _ _ _ c.args.ready.counts_fit c.requires.in_stage c.if-bit-ne7.false c.if-told-ne-NO_BITS.false
    c.if-told.false c.if-bytes-eq0.false refl (read_is _ _ _ _ _ _ _ _ _ c.fall-stage.ensures c.count_more.ensures)).1
