-- The number that was read leaves less of the slice to read.
use Rattle.std.proofs.Common.{ap, ◌∙◌, Ok}
use Rattle.trace.specs.NumberLaws.{less_left}
use Rattle.numbers.proofs.list.Goals as goal

pub loop-value-smaller : goal.loop-value-smaller
loop-value-smaller c =
    let read = c.in-Ok-Number in
    less_left c.args.s.now c.loop-value.at read.value read.next c.number_at.result c.number_at.ensures (read.is ∙ ap Ok read.field-0-is)
