-- Each piece is printed behind the one before; the latch is a number.
use Rattle.std.proofs.Common.{◌≡◌, refl, ◌∙◌, Bool, true, false, cond}
use mir.Val.{bool_byte}
use Rattle.report.specs.Lines.{end_line}
use Rattle.report.proofs.Pages.{◌then◌}
use Rattle.report.proofs.page.Page.print_end.Goals as goal

-- a flag as a number
digit : (on : Bool) → bool_byte on ≡ cond on 1 0
digit true = refl
digit false = refl

pub returns : goal.returns
unfolding end_line
returns c =
    rw (c.from.ensures ∙ digit _, c.from-2.ensures) at
    (c.print.ensures
    then c.print_hex.ensures
    then c.print_numbered.ensures
    then c.print_numbered-2.ensures
    then c.print-2.ensures)
