-- Each piece is printed behind the one before.
use Rattle.words.specs.Lines.{said}
use Rattle.report.proofs.Pages.{◌then◌}
use Rattle.words.proofs.lines.say.Goals as goal

pub returns : goal.returns
unfolding said
returns c =
    c.begin.ensures
    then c.print.ensures
