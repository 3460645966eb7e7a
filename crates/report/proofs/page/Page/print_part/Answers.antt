-- Each piece is printed behind the one before.
use Rattle.report.specs.Lines.{part_line}
use Rattle.report.proofs.Pages.{◌then◌}
use Rattle.report.proofs.page.Page.print_part.Goals as goal

pub returns : goal.returns
unfolding part_line
returns c =
    c.print_numbered.ensures
    then c.print_numbered-2.ensures
    then c.print.ensures
    then c.print_hex.ensures
    then c.print-2.ensures
