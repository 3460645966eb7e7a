-- Each piece is printed behind the one before.
use Rattle.words.specs.Lines.{held_line}
use Rattle.report.proofs.Pages.{◌then◌}
use Rattle.words.proofs.lines.print_held.Goals as goal

pub returns : goal.returns
unfolding held_line
returns c =
    c.begin.ensures
    then c.print_address.ensures
    then c.print.ensures
    then c.print_reason.ensures
    then c.print-2.ensures
