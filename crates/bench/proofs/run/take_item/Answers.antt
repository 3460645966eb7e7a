-- By what the item is.
use Rattle.turns.proofs.Leads.{same}
use Rattle.bench.proofs.Runs.{item_run, item_short}
use Rattle.bench.proofs.run.take_item.Goals as goal

pub returns-then-pulses-gt0 : goal.returns-then-pulses-gt0
returns-then-pulses-gt0 c = same (item_run _ _ _ c.pulses_of-pulses.ensures c.if-pulses-gt0.true) c.take_pulses.ensures

pub returns-else-pulses-gt0 : goal.returns-else-pulses-gt0
returns-else-pulses-gt0 c = same (item_short _ _ _ c.pulses_of-pulses.ensures c.if-pulses-gt0.false) c.take_short.ensures
