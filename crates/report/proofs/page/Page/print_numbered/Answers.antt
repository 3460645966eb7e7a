-- The word, then the number behind it.
use Rattle.report.proofs.Pages.{◌then◌}
use Rattle.report.proofs.page.Page.print_numbered.Goals as goal

pub returns : goal.returns
returns c = c.print.ensures then c.print_decimal.ensures
