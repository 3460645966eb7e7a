-- A byte takes the low group of what is left: as it is where that is the last, and else with the top bit set.
use Rattle.std.proofs.Common.{◌∙◌, arith}
use Rattle.trace.specs.Form.{form}
use Rattle.trace.proofs.Storing.{last_stored, more_stored}
use Rattle.trace.proofs.number.put.Goals.{then-rest-eq0, else-rest-eq0}
use Rattle.trace.proofs.number.put.Goals as goal

pub loop-byte-preserved : goal.loop-byte-preserved
loop-byte-preserved c =
    let l = c.loop-byte in
    let size = l.auto.own ∙ c.requires in
    elim c.if-rest-eq0.branch [
      | then-rest-eq0 w ↦ last_stored l.own (form c.args.value) l.byte-index l.rest (omega arith) size l.invariant _ w.byte-is w.if-rest-eq0.true
      | else-rest-eq0 w ↦ more_stored l.own (form c.args.value) l.byte-index l.rest (omega arith) size l.invariant _ w.byte-is w.if-rest-eq0.false
    ]
