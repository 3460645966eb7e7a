-- Each piece is printed behind the one before.
use Rattle.report.proofs.Pages.{◌then◌}
use Rattle.story.specs.Scene.{pulses_text}
use Rattle.story.proofs.told.tell_pulses.Goals as goal

pub returns : goal.returns
unfolding pulses_text
returns c =
    c.print_run.ensures
    then c.tell_changes.ensures
    then c.tell_turned.ensures
