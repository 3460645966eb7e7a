-- Each piece is printed behind the one before.
use Rattle.words.specs.Lines.{open_line}
use Rattle.report.proofs.Pages.{◌then◌}
use Rattle.words.proofs.lines.print_open.Goals as goal

pub returns-then-told : goal.returns-then-told
unfolding open_line
returns-then-told c =
    rw c.if-told.true
    (c.begin.ensures
    then c.print_decimal.ensures
    then c.print.ensures)

pub returns-else-told : goal.returns-else-told
unfolding open_line
returns-else-told c =
    rw c.if-told.false
    (c.begin.ensures
    then c.print_decimal.ensures
    then c.print-else-told.ensures)
