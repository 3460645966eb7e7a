-- Each piece is printed behind the one before.
use Rattle.words.specs.Lines.{run_line}
use Rattle.report.proofs.Pages.{◌then◌}
use Rattle.words.proofs.lines.print_run.Goals as goal

pub returns : goal.returns
unfolding run_line
returns c =
    c.begin.ensures
    then c.print_decimal.ensures
    then c.print_grown.ensures
    then c.print_grown-2.ensures
    then c.print_grown-3.ensures
    then c.print.ensures
