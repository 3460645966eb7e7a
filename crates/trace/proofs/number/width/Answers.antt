-- The highest bit of a number gives its groups of seven; 0 has one too.
use Rattle.trace.proofs.Storing.{by_highest_bit}
use Rattle.trace.proofs.number.width.Goals as goal

pub returns : goal.returns
returns c = by_highest_bit _ _ _ c.max.ensures c.ilog2.ensures.power_le c.ilog2.ensures.next_power_gt
