-- A refusal is the answer; else the event's answer is, and its state's stage says which byte was touched last.
use Rattle.std.proofs.Common.{sym, ◌∙◌}
use Rattle.supply.specs.CheckedLaws.{checked_none, checked_some}
use Rattle.wear.proofs.CountLaws.{count_rows, stops, goes}
use Rattle.wear.proofs.count.count_event.Goals as goal

pub returns-in-Err : goal.returns-in-Err
returns-in-Err c =
    let a = c.args in
    stops a.serial.now a.array.now a.counters.now a.state a.code (checked_some _ _ (sym c.check_counted.ensures ∙ c.in-Err.is))

pub add-requires : goal.add-requires
add-requires c = count_rows _ _ _ _ _ (checked_none _ (sym c.check_counted.ensures ∙ c.in_default.is)) c.figure_of-size.ensures

pub returns : goal.returns
returns c =
    let a = c.args in
    goes a.serial.now a.array.now a.counters.now a.state a.code _ c.figure_of-size.ensures _ c.last_of-before.ensures
    (checked_none _ (sym c.check_counted.ensures ∙ c.in_default.is))
    c.event-answer.result _ c.event-answer.ensures _ c.last_of-after.ensures _ c.add.ensures
