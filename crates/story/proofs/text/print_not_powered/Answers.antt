-- Each piece is printed behind the one before.
use Rattle.report.proofs.Pages.{◌then◌}
use Rattle.story.specs.Story.{not_powered}
use Rattle.story.proofs.text.print_not_powered.Goals as goal

pub returns : goal.returns
unfolding not_powered
returns c =
    (rw c.from.ensures at c.print_refused.ensures)
    then c.print.ensures
