-- Each piece is printed behind the one before.
use Rattle.words.specs.Lines.{left_line}
use Rattle.report.proofs.Pages.{◌then◌}
use Rattle.words.proofs.lines.print_left.Goals as goal

pub returns : goal.returns
unfolding left_line
returns c =
    c.print.ensures
    then c.print_decimal.ensures
    then c.print-2.ensures
    then c.print_decimal-2.ensures
    then c.print-3.ensures
