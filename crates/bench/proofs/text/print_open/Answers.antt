-- A select that is open has its line; else nothing is printed.
use Rattle.report.proofs.Pages.{where_not}
use Rattle.bench.proofs.text.print_open.Goals as goal

pub returns-else-is_open : goal.returns-else-is_open
returns-else-is_open c = where_not _ _ _ _ c.is_open.ensures c.if-is_open.false
