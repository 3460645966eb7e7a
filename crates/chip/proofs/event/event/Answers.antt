-- What is refused of what is lent is the answer; else the loop goes over one code, and what it leaves is the event's answer.
use mathlib.Core.Path.{ap, sym, ◌∙◌}
use Rattle.supply.specs.CheckedLaws.{checked_some}
use Rattle.chip.specs.Answers.{paper}
use Rattle.chip.proofs.ListLaws.{single, unlent}
use Rattle.chip.proofs.event.event.Goals as goal

pub returns-in-Ok : goal.returns-in-Ok
returns-in-Ok c =
    let args = c.args in
    let told = single args.serial.now args.array.now args.state args.code _ _ c.go.ensures in
    (ap paper (c.answer_of.ensures ∙ told.0), told.1)

pub returns-in-Err : goal.returns-in-Err
returns-in-Err c =
    let args = c.args in
    let told = unlent args.serial.now args.array.now args.state args.code (checked_some _ _ (sym c.check_lent.ensures ∙ c.in-Err.is)) in
    (ap paper (c.refused.ensures ∙ told.0), told.1)
