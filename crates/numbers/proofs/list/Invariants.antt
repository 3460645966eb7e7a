-- `list` ends: a number that is read leaves less of the slice to read.
use Rattle.std.proofs.Common.{◌-◌, length}
use Rattle.numbers.proofs.list.Given as goal

abbrev pub decreases-loop-value : goal.decreases-loop-value
decreases-loop-value l = length l.s - l.at
