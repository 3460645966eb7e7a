-- 64 and the sign that there are more.
use Rattle.std.proofs.Common.{ne_eqb}
use Rattle.std.proofs.lemmas.Bool.{lt-leb}
use Rattle.report.specs.Lines.{shown_text}
use Rattle.report.proofs.Pages.{◌then◌}
use Rattle.report.proofs.page.Page.print_shown.Goals as goal

pub returns-else-whole : goal.returns-else-whole
unfolding shown_text
returns-else-whole c =
    rw (ne_eqb _ _ c.if-whole-eq0.false, lt-leb _ _ c.if-whole.false)
    (c.print_hexes-else-whole.ensures then c.print-else-whole.ensures)
