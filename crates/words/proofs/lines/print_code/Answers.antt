-- Each piece is printed behind the one before.
use Rattle.words.specs.Lines.{code_line}
use Rattle.report.proofs.Pages.{◌then◌}
use Rattle.words.proofs.lines.print_code.Goals as goal

pub returns : goal.returns
unfolding code_line
returns c =
    rw (← c.figure_of-f.ensures, ← c.decode-command.ensures)
    (c.begin.ensures
    then c.print_hex.ensures
    then c.print.ensures
    then c.print_command.ensures
    then c.print-2.ensures)
