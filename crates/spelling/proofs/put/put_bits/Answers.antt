-- The pulse of one bit more is put.
use Rattle.std.proofs.Common.{◌≤◌, arith, get_or}
use Rattle.std.specs.Prelude.{unwrap_or}
use Rattle.sayings.specs.SaysLaws.{digit_small}
use Rattle.spelling.specs.MeaningLaws.{bit_small}
use Rattle.spelling.proofs.LayTurns.{bit_more}
use Rattle.spelling.proofs.put.put_bits.Goals as goal

pub put_items-requires : goal.put_items-requires
put_items-requires c =
    let few : unwrap_or c.digit.result 16 ≤ 16 = bit_small c.digit.result (rw c.digit.ensures (digit_small (get_or c.args.word.now c.loop-c.c-index 0))) in
    (omega (arith, few, c.from.ensures, c.unwrap_or-bit.ensures), (omega arith, (omega arith, tt)))

pub loop-c-preserved : goal.loop-c-preserved
loop-c-preserved c =
    bit_more _ c.loop-c.c-index c.loop-c-test.true c.loop-c.invariant c.digit.result c.unwrap_or-bit.result c.from.result
    c.digit.ensures c.unwrap_or-bit.ensures c.from.ensures c.put_items.ensures c.in_ok-next.was
