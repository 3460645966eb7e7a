-- Each piece is printed behind the one before.
use Rattle.report.proofs.Pages.{◌then◌}
use Rattle.story.specs.Scene.{accepted_text}
use Rattle.story.proofs.told.tell_accepted.Goals as goal

pub returns : goal.returns
unfolding accepted_text
returns c =
    rw (← c.sampled_by-shown.ensures)
    (c.tell_changes.ensures
    then c.print_shown.ensures
    then c.print_note.ensures)
