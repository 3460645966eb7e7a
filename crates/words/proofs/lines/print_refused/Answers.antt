-- Each piece is printed behind the one before.
use Rattle.words.specs.Lines.{refused_line}
use Rattle.report.proofs.Pages.{◌then◌}
use Rattle.words.proofs.lines.print_refused.Goals as goal

pub returns : goal.returns
unfolding refused_line
returns c =
    rw (← c.from.ensures)
    (c.begin.ensures
    then c.print_decimal.ensures
    then rw c.from.ensures c.print_advice.ensures
    then c.print.ensures)
