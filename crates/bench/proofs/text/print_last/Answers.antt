-- The line of an open select, then the last line, is the two as one text.
use Rattle.report.proofs.Pages.{◌then◌}
use Rattle.bench.proofs.text.print_last.Goals as goal

pub returns-clause-prints : goal.returns-clause-prints
returns-clause-prints c = c.print_open.ensures then (rw c.number_or_0.ensures at c.print_end.ensures)
