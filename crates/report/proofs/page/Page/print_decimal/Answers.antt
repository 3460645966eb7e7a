-- The digits that the library writes, as many as the number has.
use Rattle.std.proofs.Common.{◌≤◌, ◌∙◌}
use Rattle.report.specs.Text.{most_digits, decimal}
use Rattle.report.proofs.Decimals.{decimal_is, short}
use Rattle.report.proofs.Pages.{same}
use Rattle.report.proofs.page.Page.print_decimal.Goals as goal

pub returns : goal.returns
unfolding decimal
returns c =
    let made = c.decimal-k in
    let few : made.result ≤ most_digits = short _ _ c.ranges.n.fits made.ensures.len in
    same (made.ensures.digits ∙ decimal_is _ most_digits _ made.ensures.len few) c.print.ensures
