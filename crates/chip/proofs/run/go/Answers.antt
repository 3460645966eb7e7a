-- Wherever the loop is, the codes that are left lead from there to where all of them lead from the start. The row stays, since
-- the part does, and nothing comes to be refused of the state and what is lent with it, since an event keeps them fit.
use mathlib.Core.Path.{◌∙◌, sym}
use native.Mathlib.Nat.{le_antisymm}
use Rattle.chip.proofs.ListLaws.{row_stays, lend_stays, loop_goes, loop_stops, loop_ends}
use borrow.Author.Rules.{rules}
use Rattle.chip.proofs.run.go.Goals as goal

pub returns-in-Err : goal.returns-in-Err
returns-in-Err c =
    let at = c.loop-i in
    loop_stops _ at.array at.state at.levels _ at.note at.i c.loop-i-test.true _ at.invariant.2 (sym c.in-Err.is ∙ c.attempt.ensures)
    ∙ at.invariant.4

pub loop-i-preserved : goal.loop-i-preserved
loop-i-preserved c =
    let at = c.loop-i in
    let a = c.args in
    let more = c.loop-i-test.true in
    let row = at.invariant.2 in
    let came = sym c.in-Ok.is ∙ c.attempt.ensures in (
      search rules,
      search rules,
      row_stays a.serial.now at.array at.state at.levels a.codes.now at.note at.i more _ row came,
      lend_stays a.serial.now at.array at.state at.levels a.codes.now at.note at.i more _ row came
          c.store.ensures at.invariant.3,
      loop_goes _ at.array at.state at.levels _ at.note at.i more _ row c.in-Ok.moved came _ _ _
          c.store.ensures c.so.ensures c.from-in-Ok.ensures
          ∙ at.invariant.4,
    )

pub returns : goal.returns
returns c =
    let at = c.loop-i in
    let all = le_antisymm at.auto.i-end c.loop-i-test.false in
    rw (← all) (loop_ends _ _ _ at.i all ∙ at.invariant.4)
