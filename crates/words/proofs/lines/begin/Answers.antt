-- Each piece is printed behind the one before.
use Rattle.words.specs.Lines.{begun}
use Rattle.report.proofs.Pages.{◌then◌}
use Rattle.words.proofs.lines.begin.Goals as goal

pub returns : goal.returns
unfolding begun
returns c =
    c.print_decimal.ensures
    then c.print.ensures
    then c.print-2.ensures
