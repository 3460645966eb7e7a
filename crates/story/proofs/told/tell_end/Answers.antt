-- Each piece is printed behind the one before.
use Rattle.report.proofs.Pages.{◌then◌}
use Rattle.story.specs.Story.{end_text}
use Rattle.story.proofs.told.tell_end.Goals as goal

pub returns : goal.returns
unfolding end_text
returns c =
    c.tell_left.ensures
    then c.print_end.ensures
    then c.print_array.ensures
