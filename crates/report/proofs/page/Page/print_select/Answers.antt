-- Each piece is printed behind the one before.
use Rattle.report.specs.Lines.{select_line}
use Rattle.report.proofs.Pages.{◌then◌}
use Rattle.report.proofs.page.Page.print_select.Goals as goal

pub returns : goal.returns
unfolding select_line
returns c =
    c.print_numbered.ensures
    then c.print.ensures
    then c.print_shown.ensures
    then c.print_counts.ensures
    then c.print-2.ensures
