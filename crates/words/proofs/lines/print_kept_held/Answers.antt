-- Each piece is printed behind the one before.
use Rattle.words.specs.Lines.{kept_held_line}
use Rattle.report.proofs.Pages.{◌then◌}
use Rattle.words.proofs.lines.print_kept_held.Goals as goal

pub returns : goal.returns
unfolding kept_held_line
returns c =
    c.begin.ensures
    then c.print_reason.ensures
    then c.print.ensures
