-- Wherever the run is, the items that are left lead from there to where all of them lead from the start. Each number moves the place
-- on in the trace, so the run ends.
use Rattle.std.proofs.Common.{ap, ◌∙◌}
use Rattle.std.specs.Prelude.{Ok}
use Rattle.trace.specs.NumberLaws.{less_left}
use Rattle.turns.proofs.Leads.{none_given, some_given}
use Rattle.story.proofs.Stories.{left_stays, left_number, left_end, left_refused}
use Rattle.story.proofs.told.tell_items.Goals as goal

pub loop-value-smaller : goal.loop-value-smaller
loop-value-smaller c = less_left _ _ _ _ _ c.number_at.ensures (c.in-Ok-Number.is ∙ ap Ok c.in-Ok-Number.field-0-is)

pub loop-value-preserved : goal.loop-value-preserved
loop-value-preserved c =
    let before = c.loop-value.invariant in
    let told = c.tell_item.ensures in
    record {
      same_slice = told.prints.same_slice ∙ before.same_slice;
      page =
          left_number _ _ _ c.loop-value.bench c.number_at.ensures (none_given _ c.is_none.ensures c.loop-value-test.true)
          _ _ c.tell_item.new.bench _ _ (c.in-Ok-Number.is ∙ ap Ok c.in-Ok-Number.field-0-is) told.scene told.prints
          ∙ before.page;
    }

pub returns-in-Ok-End : goal.returns-in-Ok-End
returns-in-Ok-End c =
    let before = c.loop-value.invariant in
    record {
      same_slice = before.same_slice;
      page =
          left_end _ _ _ c.loop-value.bench c.number_at.ensures (none_given _ c.is_none.ensures c.loop-value-test.true)
          _ _ (c.in-Ok-End.is ∙ ap Ok c.in-Ok-End.field-0-is)
          ∙ before.page;
    }

pub returns-in-Err : goal.returns-in-Err
returns-in-Err c =
    let before = c.loop-value.invariant in
    record {
      same_slice = c.print_refused.ensures.same_slice ∙ before.same_slice;
      page =
          left_refused _ _ _ c.loop-value.bench c.number_at.ensures (none_given _ c.is_none.ensures c.loop-value-test.true)
          _ _ _ c.in-Err.is (rw c.from.ensures at c.print_refused.ensures)
          ∙ before.page;
    }

pub returns : goal.returns
returns c =
    let before = c.loop-value.invariant in
    record {
      same_slice = before.same_slice;
      page = left_stays _ _ c.loop-value.bench _ (some_given _ c.is_none.ensures c.loop-value-test.false) ∙ before.page;
    }
