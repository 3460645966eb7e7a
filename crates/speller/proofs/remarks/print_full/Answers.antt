-- The place, and the words behind it.
use Rattle.report.proofs.Pages.{◌then◌}
use Rattle.speller.specs.Remarks.{full_text}
use Rattle.speller.proofs.remarks.print_full.Goals as goal

pub returns : goal.returns
unfolding full_text
returns c = c.print_place.ensures then c.print.ensures
