-- From bit 8 on a byte has no bit left.
use Rattle.stages.proofs.Shifts.{beyond}
use Rattle.stages.specs.Bits.{bit_of}
use Rattle.stages.proofs.bits.bit_of.Goals as goal

pub returns-then-bit-ge8 : goal.returns-then-bit-ge8
unfolding bit_of
returns-then-bit-ge8 c = rw (beyond c.ranges.byte.fits c.if-bit-ge8.true)
