-- Nothing but fresh bytes, or the rows.
use Rattle.words.specs.Dump.{array_text}
use Rattle.report.proofs.Pages.{◌then◌}
use Rattle.words.proofs.dump.print_array.Goals as goal

pub returns : goal.returns
unfolding array_text
returns c =
    rw (← c.all_fresh.ensures, c.if-all_fresh.false)
    (c.print-2.ensures
    then c.print_rows.ensures)
