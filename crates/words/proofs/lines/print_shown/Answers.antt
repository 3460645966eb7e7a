-- A line for a whole byte, else nothing.
use Rattle.words.specs.Lines.{shown_text}
use Rattle.report.proofs.Pages.{none}
use Rattle.words.proofs.lines.print_shown.Goals as goal

pub returns-in-Part : goal.returns-in-Part
unfolding shown_text
returns-in-Part c =
    rw c.in-Part.is
    (none _)
