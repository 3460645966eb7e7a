-- Each piece is printed behind the one before.
use Rattle.report.specs.Lines.{counts_text}
use Rattle.report.proofs.Pages.{◌then◌}
use Rattle.report.proofs.page.Page.print_counts.Goals as goal

pub returns : goal.returns
unfolding counts_text
returns c =
    c.print.ensures
    then c.print_code.ensures
    then c.print_numbered.ensures
    then c.print_numbered-2.ensures
