-- Each piece is printed behind the one before.
use Rattle.words.specs.Lines.{grown_text}
use Rattle.report.proofs.Pages.{◌then◌}
use Rattle.words.proofs.lines.print_grown.Goals as goal

pub returns : goal.returns
unfolding grown_text
returns c =
    rw (← c.saturating_sub.ensures)
    (c.print.ensures
    then c.print_decimal.ensures)
