-- A full slice takes nothing; else as many bytes as have room are written over the part that is as long.
use Rattle.std.proofs.Common.{arith}
use Rattle.spelling.proofs.SpellTurns.{copy_none, copy_part}
use Rattle.spelling.proofs.spell.copy.Goals as goal

pub returns-then-out-at : goal.returns-then-out-at
returns-then-out-at c = copy_none c.args.bytes.now c.args.out.now c.args.at c.if-out-at.true

pub returns : goal.returns
returns c =
    copy_part c.args.bytes.now c.args.out.now c.copy_from_slice.new.self c.args.at _ c.min-n.result (omega arith) c.min-n.ensures (omega arith) c.copy_from_slice.ensures.after
