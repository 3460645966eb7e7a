-- Wherever the loop is, the rows that are left lead from there to where all of them lead from the start.
use Rattle.std.proofs.Common.{◌≡◌, ◌∙◌, length}
use Rattle.words.specs.Dump.{row_bytes}
use Rattle.report.proofs.Pages.{left_on, left_over}
use Rattle.words.proofs.Rows.{more_left, rows_on, rows_over}
use Rattle.words.proofs.dump.print_rows.Goals as goal

pub loop-i-preserved : goal.loop-i-preserved
loop-i-preserved c =
    let before = c.loop-i.invariant in
    let step = c.in-Some.ensures.steps in
    let fronts = step.0.1.0 in
    let size : length c.in-Some.row.now ≡ row_bytes = step.0.1.1 ∙ before.size in
    record {
      size = step.0.0 ∙ before.size;
      rest = rw step.2 (more_left c.args.array.now c.loop-i.i-iterator.count _ _ _ before.rest fronts size);
      slice = c.print_row.ensures.same_slice ∙ before.slice;
      page = rw step.2 (left_on _ _ _ _ _ (rows_on _ _ _ _ _ before.rest fronts size) (rw step.1 at c.print_row.ensures) ∙ before.page);
    }

pub returns : goal.returns
returns c =
    let before = c.loop-i.invariant in
    let short = c.in-None.ensures.steps.0.1.0 in
    record { same_slice = before.slice; page = left_over _ _ _ (rows_over _ _ _ before.rest (rw before.size at short)) before.page }
