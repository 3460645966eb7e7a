-- Nothing is printed where there is no note.
use Rattle.words.specs.Lines.{note_text}
use Rattle.report.proofs.Pages.{none}
use Rattle.words.proofs.lines.print_note.Goals as goal

pub returns-in-Nothing : goal.returns-in-Nothing
unfolding note_text
returns-in-Nothing c =
    rw c.in-Nothing.is
    (none _)
