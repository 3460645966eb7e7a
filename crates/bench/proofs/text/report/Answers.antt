-- Both numbers are read, and the array that is made is no smaller than the part's; or one is refused, and the last line says so.
use Rattle.std.proofs.Common.{rules, sym, length-take-le, ◌∙◌}
use Rattle.parts.specs.FigureLaws.{largest}
use Rattle.bench.proofs.Runs.{report_led, report_not}
use Rattle.bench.proofs.text.report.Goals as goal

pub slice_bounds-array-end : goal.slice_bounds-array-end
slice_bounds-array-end c = rw c.figure_of-size.ensures (largest _)

pub slice_bounds-report_run-end : goal.slice_bounds-report_run-end
slice_bounds-report_run-end c = sym (length-take-le _ _ (rw c.figure_of-size.ensures (largest _)))

pub returns-in-Ok : goal.returns-in-Ok
returns-in-Ok c = report_led _ _ _ _ _ (sym c.in-Ok.is ∙ c.head_of.ensures) c.figure_of-size.ensures c.report_run.ensures

pub returns-in-Err : goal.returns-in-Err
returns-in-Err c =
    report_not c.args.trace.now c.args.out.now c.in-Err.no_head _ (sym c.in-Err.is ∙ c.head_of.ensures) (search (rules, ◌∙◌))
