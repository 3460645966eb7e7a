-- A fresh row is nothing; else its pieces.
use Rattle.words.specs.Dump.{row_text}
use Rattle.report.proofs.Pages.{none, ◌then◌}
use Rattle.words.proofs.dump.print_row.Goals as goal

pub returns-then-all_fresh : goal.returns-then-all_fresh
unfolding row_text
returns-then-all_fresh c =
    rw (← c.all_fresh.ensures, c.if-all_fresh.true)
    (none _)

pub returns : goal.returns
unfolding row_text
returns c =
    rw (← c.all_fresh.ensures, c.if-all_fresh.false)
    (c.print_address.ensures
    then c.print.ensures
    then c.print_spaced.ensures
    then c.print-2.ensures)
