-- Wherever the loop is, the bytes that are left lead from the check byte so far to that of all of them.
use Rattle.std.proofs.Common.{arith}
use Rattle.std.proofs.lemmas.List.{at_drop_more, at_drop_all}
use Rattle.serial.specs.Table.{crc_of}
use Rattle.serial.proofs.check.crc_of.Goals as goal

pub loop-byte-preserved : goal.loop-byte-preserved
loop-byte-preserved c = grind (arith, c.requires, c.loop-byte.invariant, at_drop_more (λ bs. crc_of bs c.loop-byte.crc) c.args.bytes.now c.loop-byte.byte-index 0)

pub returns : goal.returns
returns c = grind (arith, c.loop-byte.invariant, at_drop_all (λ bs. crc_of bs c.loop-byte.crc) c.args.bytes.now c.loop-byte.byte-index)
