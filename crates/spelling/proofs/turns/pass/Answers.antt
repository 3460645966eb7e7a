-- One character more: where the next one stands fits, the slice keeps its length, and the marks that are left come to the same.
use Rattle.std.proofs.Common.{arith, rules}
use Rattle.spelling.proofs.TextTurns.{mode_fits, char_on}
use Rattle.spelling.proofs.turns.pass.Goals as goal

pub loop-i-preserved : goal.loop-i-preserved
loop-i-preserved c =
    let loop = c.loop-i in (
      rw c.mode_after-mode.ensures (mode_fits loop.mode c.kind_of-kind.result loop.i loop.invariant.0),
      search rules,
      char_on _ _ _ _ _ loop.invariant.2 (omega arith) _ _ _ _ c.char_at.ensures c.kind_of-kind.ensures c.word_ended-ended.ensures c.line_ended-ends.ensures _ _ c.take_char.ensures _ _ c.in_ok-here.was c.mode_after-mode.ensures,
    )
