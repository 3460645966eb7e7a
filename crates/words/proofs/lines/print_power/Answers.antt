-- Each piece is printed behind the one before.
use Rattle.words.specs.Lines.{power_line}
use Rattle.report.proofs.Pages.{◌then◌}
use Rattle.words.proofs.lines.print_power.Goals as goal

pub returns : goal.returns
unfolding power_line
returns c =
    c.begin.ensures
    then c.print_decimal.ensures
    then c.print.ensures
    then c.print_decimal-2.ensures
    then c.print-2.ensures
    then c.print_hex.ensures
    then c.print-3.ensures
