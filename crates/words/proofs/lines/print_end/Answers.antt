-- Each piece is printed behind the one before.
use Rattle.words.specs.Lines.{end_line}
use Rattle.report.proofs.Pages.{◌then◌}
use Rattle.words.proofs.lines.print_end.Goals as goal

pub returns-then-latch : goal.returns-then-latch
unfolding end_line
returns-then-latch c =
    rw c.if-latch.true
    (c.print.ensures
    then c.print_hex.ensures
    then c.print-then-latch.ensures)

pub returns-else-latch : goal.returns-else-latch
unfolding end_line
returns-else-latch c =
    rw c.if-latch.false
    (c.print.ensures
    then c.print_hex.ensures
    then c.print-else-latch.ensures)
