-- Each piece is printed behind the one before.
use Rattle.words.specs.Lines.{close_line}
use Rattle.report.proofs.Pages.{◌then◌}
use Rattle.words.proofs.lines.print_close.Goals as goal

pub returns : goal.returns
unfolding close_line
returns c =
    c.begin.ensures
    then c.print_decimal.ensures
    then c.print.ensures
    then c.print_decimal-2.ensures
    then c.print-2.ensures
