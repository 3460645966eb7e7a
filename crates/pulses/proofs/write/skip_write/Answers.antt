-- Where a test says no, nothing is skipped; else whole bytes are: the sum up to the end has in it the sum up to the start, and no
-- more than the bytes besides.
use mathlib.Core.Path.{refl}
use Rattle.std.proofs.Common.{◌≡◌, ◌∙◌, ◌≤◌, ◌+◌, ◌/◌, ℕ, List, length, min, arith}
use Rattle.stages.specs.declared.stage.Came.{Came}
use Rattle.stages.specs.declared.stage.Stage.TheVariants.{Writing}
use Rattle.pulses.specs.declared.ready.Ready.{Ready}
use Rattle.pulses.specs.FillLaws.{stored_asks}
use Rattle.pulses.specs.SkipLaws.{Asked, asks}
use Rattle.pulses.specs.Sums.{least, before, store_limit, stored_in}
use Rattle.pulses.specs.WriteOnLaws.{write_inside, write_short, write_below, write_out, write_is, round_is}
use Rattle.pulses.proofs.write.skip_write.Goals as goal

least_is : (a b : ℕ) → min a b ≡ least a b
least_is a b = grind arith

module _ (r : Ready) (xs : List ℕ) (came : Came) (shift last at : ℕ) where
  asked : length xs ≡ r.len → r.stand.chip.stage ≡ Writing came shift last at → Asked r.stand xs at (r.pulses / 8)
  asked own is =
      let safe = rw (← own) at r.steady_state in
      asks r.stand xs safe r.not_idle r.pulses at r.counts_fit (write_inside r.stand xs safe r.not_idle came shift last at is)

  -- the two sums
  sums : (limit : ℕ) → length xs ≡ r.len → r.stand.chip.stage ≡ Writing came shift last at → limit ≡ store_limit r.stand.chip
      → (before (length xs) limit at ≤ before (length xs) limit (at + r.pulses / 8)) × (stored_in (length xs) limit at (r.pulses / 8) ≤ r.pulses / 8)
  sums limit own is bound =
      let safe = rw (← own) at r.steady_state in
      stored_asks (length xs) limit (omega (arith, (asked own is).inside)) (rw bound (write_below r.stand xs safe r.not_idle)) at (r.pulses / 8)

pub invariant_of-room-clause-some : goal.invariant_of-room-clause-some
invariant_of-room-clause-some c = omega (arith, (asked c.args.ready c.args.array.now _ _ _ _ c.requires.own_array c.requires.in_stage).inside)

pub invariant_of-room-clause-inside : goal.invariant_of-room-clause-inside
invariant_of-room-clause-inside c = rw c.store_limit-limit.ensures (write_below c.args.ready.stand c.args.array.now (rw (← c.requires.own_array) at c.args.ready.steady_state) c.args.ready.not_idle)

pub overflow_add-start : goal.overflow_add-start
overflow_add-start c = grind (arith, (asked c.args.ready c.args.array.now _ _ _ _ c.requires.own_array c.requires.in_stage).place)

pub overflow_sub-stored : goal.overflow_sub-stored
overflow_sub-stored c = rw (c.stored_before.ensures, c.stored_before-2.ensures) (sums c.args.ready c.args.array.now _ _ _ _ _ c.requires.own_array c.requires.in_stage c.store_limit-limit.ensures).0

pub overflow_add-end : goal.overflow_add-end
overflow_add-end c = grind (arith, (asked c.args.ready c.args.array.now _ _ _ _ c.requires.own_array c.requires.in_stage).place)

pub last_stored-requires : goal.last_stored-requires
last_stored-requires c = omega (arith, c.store_limit-limit.ensures, write_short c.args.ready.stand c.args.array.now (rw (← c.requires.own_array) at c.args.ready.steady_state) c.args.ready.not_idle, write_below c.args.ready.stand c.args.array.now (rw (← c.requires.own_array) at c.args.ready.steady_state) c.args.ready.not_idle)

pub count_more-requires-clause-clocks_bound : goal.count_more-requires-clause-clocks_bound
count_more-requires-clause-clocks_bound c = (asked c.args.ready c.args.array.now _ _ _ _ c.requires.own_array c.requires.in_stage).clocks

pub count_more-requires-clause-stored_bound : goal.count_more-requires-clause-stored_bound
count_more-requires-clause-stored_bound c = rw (c.stored_before.ensures, c.stored_before-2.ensures) (omega (arith, (asked c.args.ready c.args.array.now _ _ _ _ c.requires.own_array c.requires.in_stage).stored, (sums c.args.ready c.args.array.now _ _ _ _ _ c.requires.own_array c.requires.in_stage c.store_limit-limit.ensures).1))

pub fill-requires : goal.fill-requires
fill-requires c = (asked c.args.ready c.args.array.now _ _ _ _ c.requires.own_array c.requires.in_stage).inside

pub returns-clause-skips : goal.returns-clause-skips
returns-clause-skips c = (write_out _ _ (rw (← c.requires.own_array) at c.args.ready.steady_state) c.args.ready.not_idle _ _ _ _ _ _ _ _ c.args.ready.counts_fit c.requires.in_stage c.if-shift-ne-NO_BITS.false c.if-bytes-eq0.false refl
    (write_is _ _ _ _ _ _ _ _ _ _ c.store_limit-limit.ensures c.stored_before.ensures c.stored_before-2.ensures c.last_stored.ensures c.count_more.ensures)
    (round_is _ _ _ _ _ _ _ _ (asked c.args.ready c.args.array.now _ _ _ _ c.requires.own_array c.requires.in_stage).inside c.store_limit-limit.ensures c.still_byte.ensures (c.min.ensures ∙ least_is _ _) c.fill.ensures)).1
