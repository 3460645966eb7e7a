-- A number of pulses is small, so that the item's number does not wrap.
use Rattle.std.proofs.Common.{arith}
use Rattle.sayings.specs.SaysLaws.{bounded, pulses_fit}
use Rattle.sayings.proofs.says.hear_idle.Goals as goal

pub overflow_add-pulses : goal.overflow_add-pulses
overflow_add-pulses c = let few = bounded c.pulses_of.ensures c.in_ok-pulses.was (pulses_fit _) in omega arith
