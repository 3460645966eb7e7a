-- A line where the latch is another, and one where the kept bits are.
use Rattle.std.proofs.Common.{◌≡◌, refl, Bool, true, false, not, cond, [], eq-eqb, ne_eqb}
use mathlib.Core.Bool.{beq}
use Rattle.words.specs.Changes.{flips, turned}
use Rattle.words.specs.Lines.{note_text, latch_line}
use Rattle.report.specs.Prints.{Prints}
use Rattle.report.proofs.Pages.{none, where_so, where_not, ◌then◌}
use Rattle.words.proofs.changes.tell_turned.Goals as goal
use Rattle.words.proofs.changes.tell_turned.Goals.{then-before-after, else-before-after}

other : (a b : Bool) → not (beq a b) ≡ flips a b
other true true = refl
other true false = refl
other false true = refl
other false false = refl

pub returns-then-before-after-2 : goal.returns-then-before-after-2
unfolding turned note_text
returns-then-before-after-2 c =
    let before = c.args.before in
    let after = c.args.after in
    let latch : Prints c.args.page.now (cond (flips before.latch after.latch) (latch_line c.args.place after.latch) []) c.if-before-after.page =
    elim c.if-before-after.branch [
      | then-before-after w ↦ rw w.page-is (where_so _ _ (other _ _) w.if-before-after.true w.print_note.ensures)
      | else-before-after w ↦ rw w.page-is (where_not _ _ _ _ (other _ _) w.if-before-after.false)
    ] in
    latch then rw (ne_eqb _ _ c.if-before-after-2.true) c.print_note-then-before-after-2.ensures

pub returns-else-before-after-2 : goal.returns-else-before-after-2
unfolding turned note_text
returns-else-before-after-2 c =
    let before = c.args.before in
    let after = c.args.after in
    let latch : Prints c.args.page.now (cond (flips before.latch after.latch) (latch_line c.args.place after.latch) []) c.if-before-after.page =
    elim c.if-before-after.branch [
      | then-before-after w ↦ rw w.page-is (where_so _ _ (other _ _) w.if-before-after.true w.print_note.ensures)
      | else-before-after w ↦ rw w.page-is (where_not _ _ _ _ (other _ _) w.if-before-after.false)
    ] in
    latch then rw (eq-eqb _ _ c.if-before-after-2.false) (none _)
