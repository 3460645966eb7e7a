-- Of a text that is spelt nothing is said.
use Rattle.report.proofs.Pages.{none}
use Rattle.speller.specs.Remarks.{remark_of}
use Rattle.speller.proofs.remarks.print_remark.Goals as goal

pub returns-in-Ok : goal.returns-in-Ok
unfolding remark_of
returns-in-Ok c = rw c.in-Ok.is (none _)
