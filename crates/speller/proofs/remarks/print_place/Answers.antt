-- The line, and the column behind it.
use Rattle.report.proofs.Pages.{◌then◌}
use Rattle.speller.specs.Remarks.{place_text}
use Rattle.speller.proofs.remarks.print_place.Goals as goal

pub returns : goal.returns
unfolding place_text
returns c = c.print_numbered.ensures then c.print_numbered-2.ensures
