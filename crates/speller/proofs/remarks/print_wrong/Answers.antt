-- Each piece is printed behind the one before.
use Rattle.report.proofs.Pages.{same, ◌then◌}
use Rattle.speller.specs.Remarks.{wrong_text}
use Rattle.speller.proofs.remarks.print_wrong.Goals as goal

pub returns : goal.returns
unfolding wrong_text
returns c =
    c.print_place.ensures
    then c.print.ensures
    then same c.expected_text.ensures.value c.print-2.ensures
    then c.print-3.ensures
