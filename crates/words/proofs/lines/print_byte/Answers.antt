-- Each piece is printed behind the one before.
use Rattle.words.specs.Lines.{byte_line}
use Rattle.report.proofs.Pages.{◌then◌}
use Rattle.words.proofs.lines.print_byte.Goals as goal

pub returns : goal.returns
unfolding byte_line
returns c =
    c.begin.ensures
    then c.print_hex.ensures
    then c.print.ensures
