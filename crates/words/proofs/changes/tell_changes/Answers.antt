-- Each line, where its test lets it be told, is printed behind the ones before.
use Rattle.std.proofs.Common.{cond, []}
use Rattle.report.specs.Text.{ascii}
use Rattle.turns.specs.Stand.{opens, closes}
use Rattle.words.specs.Changes.{code_comes, power_back, changes}
use Rattle.words.specs.Lines.{said, open_line, code_line, close_line}
use Rattle.report.specs.Prints.{Prints}
use Rattle.report.proofs.Pages.{where_so, where_not, ◌then◌}
use Rattle.words.proofs.changes.tell_changes.Goals as goal
use Rattle.words.proofs.changes.tell_changes.Goals.{then-power_back, else-power_back, then-opens, else-opens, then-code_comes, else-code_comes, then-closes, else-closes}

pub returns-then-falls_asleep : goal.returns-then-falls_asleep
unfolding changes
returns-then-falls_asleep c =
    let before = c.args.before in
    let after = c.args.after in
    let power : Prints c.args.page.now (cond (power_back before.chip after.chip) (said c.args.place (ascii "power back")) []) c.if-power_back.page =
    elim c.if-power_back.branch [
      | then-power_back w ↦ rw w.page-is (where_so _ _ c.power_back.ensures w.if-power_back.true w.say.ensures)
      | else-power_back w ↦ rw w.page-is (where_not _ _ _ _ c.power_back.ensures w.if-power_back.false)
    ] in
    let opened : Prints c.if-power_back.page (cond (opens before.chip after.chip) (open_line c.args.place after) []) c.if-opens.page =
    elim c.if-opens.branch [
      | then-opens w ↦ rw w.page-is (where_so _ _ c.opens.ensures w.if-opens.true w.print_open.ensures)
      | else-opens w ↦ rw w.page-is (where_not _ _ _ _ c.opens.ensures w.if-opens.false)
    ] in
    let code : Prints c.if-opens.page (cond (code_comes before.told after.told) (code_line c.args.place after.chip.part after.told.code) []) c.if-code_comes.page =
    elim c.if-code_comes.branch [
      | then-code_comes w ↦ rw w.page-is (where_so _ _ c.code_comes.ensures w.if-code_comes.true w.print_code.ensures)
      | else-code_comes w ↦ rw w.page-is (where_not _ _ _ _ c.code_comes.ensures w.if-code_comes.false)
    ] in
    let closed : Prints c.if-code_comes.page (cond (closes before.chip after.chip) (close_line c.args.place after) []) c.if-closes.page =
    elim c.if-closes.branch [
      | then-closes w ↦ rw w.page-is (where_so _ _ c.closes.ensures w.if-closes.true w.print_close.ensures)
      | else-closes w ↦ rw w.page-is (where_not _ _ _ _ c.closes.ensures w.if-closes.false)
    ] in
    power then opened then code then closed then where_so _ _ c.falls_asleep.ensures c.if-falls_asleep.true c.say-then-falls_asleep.ensures

pub returns-else-falls_asleep : goal.returns-else-falls_asleep
unfolding changes
returns-else-falls_asleep c =
    let before = c.args.before in
    let after = c.args.after in
    let power : Prints c.args.page.now (cond (power_back before.chip after.chip) (said c.args.place (ascii "power back")) []) c.if-power_back.page =
    elim c.if-power_back.branch [
      | then-power_back w ↦ rw w.page-is (where_so _ _ c.power_back.ensures w.if-power_back.true w.say.ensures)
      | else-power_back w ↦ rw w.page-is (where_not _ _ _ _ c.power_back.ensures w.if-power_back.false)
    ] in
    let opened : Prints c.if-power_back.page (cond (opens before.chip after.chip) (open_line c.args.place after) []) c.if-opens.page =
    elim c.if-opens.branch [
      | then-opens w ↦ rw w.page-is (where_so _ _ c.opens.ensures w.if-opens.true w.print_open.ensures)
      | else-opens w ↦ rw w.page-is (where_not _ _ _ _ c.opens.ensures w.if-opens.false)
    ] in
    let code : Prints c.if-opens.page (cond (code_comes before.told after.told) (code_line c.args.place after.chip.part after.told.code) []) c.if-code_comes.page =
    elim c.if-code_comes.branch [
      | then-code_comes w ↦ rw w.page-is (where_so _ _ c.code_comes.ensures w.if-code_comes.true w.print_code.ensures)
      | else-code_comes w ↦ rw w.page-is (where_not _ _ _ _ c.code_comes.ensures w.if-code_comes.false)
    ] in
    let closed : Prints c.if-code_comes.page (cond (closes before.chip after.chip) (close_line c.args.place after) []) c.if-closes.page =
    elim c.if-closes.branch [
      | then-closes w ↦ rw w.page-is (where_so _ _ c.closes.ensures w.if-closes.true w.print_close.ensures)
      | else-closes w ↦ rw w.page-is (where_not _ _ _ _ c.closes.ensures w.if-closes.false)
    ] in
    power then opened then code then closed then where_not _ _ _ _ c.falls_asleep.ensures c.if-falls_asleep.false
