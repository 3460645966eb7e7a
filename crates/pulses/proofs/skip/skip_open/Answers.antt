-- A select that is over counts its clocks, and the sum fits.
use Rattle.pulses.specs.SkipLaws.{over_room, skip_over}
use Rattle.pulses.proofs.skip.skip_open.Goals as goal

pub returns-in-Over-clause-skips : goal.returns-in-Over-clause-skips
returns-in-Over-clause-skips c = (skip_over _ _ (rw (← c.requires) at c.args.ready.steady_state) c.args.ready.not_idle _ _ _ c.args.ready.counts_fit c.in-Over.is c.count_more-told.ensures).1

pub count_more-told-requires-clause-clocks_bound : goal.count_more-told-requires-clause-clocks_bound
count_more-told-requires-clause-clocks_bound c = (over_room _ _ c.args.ready.counts_fit).0
