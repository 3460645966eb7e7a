-- By what the tests say; where one says no, nothing is skipped.
use Rattle.pulses.specs.SkipLaws.{skip_idle}
use Rattle.std.proofs.Common.{ap, not}
use Rattle.pulses.proofs.skip.skip.Goals as goal

pub returns-then-is_idle-clause-skips : goal.returns-then-is_idle-clause-skips
returns-then-is_idle-clause-skips c = (skip_idle _ _ _ _ _ c.is_steady.ensures (ap not c.if-not-is_steady.false) c.is_idle.ensures c.if-is_idle.true).1
