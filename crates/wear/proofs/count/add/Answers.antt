-- Past the counters' end nothing changes, as the definition has it.
use Rattle.std.proofs.Common.{sym, ◌∙◌}
use Rattle.std.proofs.Math.Seq.{set_out}
use Rattle.wear.proofs.CountLaws.{adds_one}
use Rattle.wear.proofs.count.add.Goals as goal

pub returns-else-row-counters : goal.returns-else-row-counters
returns-else-row-counters c =
    let a = c.args in
    sym (set_out _ _ _ c.if-row-counters.false)
    ∙ adds_one a.counters.now a.size a.before a.after c.if-after-eq0.false (sym c.same_row.ensures ∙ c.if-same_row.false)
