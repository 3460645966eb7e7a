-- A number moves the run on; the end and a refusal end it.
use Rattle.std.proofs.Common.{ap, ◌∙◌, Ok}
use Rattle.trace.specs.NumberLaws.{less_left}
use Rattle.turns.proofs.Leads.{at_start, taken, at_end, none_given, some_given}
use Rattle.bench.proofs.Runs.{ran_stays, ran_number, ran_end, ran_refused}
use Rattle.bench.proofs.run.take_items.Goals as goal

pub loop-place-init : goal.loop-place-init
loop-place-init c = at_start _ _

pub loop-place-preserved : goal.loop-place-preserved
loop-place-preserved c =
    taken c.take_item.ensures
    (ran_number c.args.trace.now _ _ c.loop-place.bench c.number_at.ensures _ _ _ c.take_item.new.bench c.in-Ok-Number.is c.in-Ok-Number.field-0-is
    c.take_item.ensures.desk)
    c.loop-place.invariant

pub loop-place-smaller : goal.loop-place-smaller
loop-place-smaller c = less_left _ _ _ _ _ c.number_at.ensures (c.in-Ok-Number.is ∙ ap Ok c.in-Ok-Number.field-0-is)

pub returns-in-Ok-End : goal.returns-in-Ok-End
returns-in-Ok-End c =
    at_end
    (ran_end _ _ _ c.loop-place.bench c.number_at.ensures _ _ (none_given _ c.is_none.ensures c.loop-place-test.true) c.in-Ok-End.is
    c.in-Ok-End.field-0-is)
    c.loop-place.invariant

pub returns-in-Err : goal.returns-in-Err
returns-in-Err c = record {
  same_array = c.loop-place.invariant.same_array;
  same_page = c.loop-place.invariant.same_page;
  same_slice = c.loop-place.invariant.same_slice;
  desk =
      ran_refused _ _ _ c.loop-place.bench c.number_at.ensures _ (none_given _ c.is_none.ensures c.loop-place-test.true) c.in-Err.is
      ∙ c.loop-place.invariant.desk;
}

pub returns : goal.returns
returns c = at_end (ran_stays _ _ c.loop-place.bench (some_given _ c.is_none.ensures c.loop-place-test.false)) c.loop-place.invariant
