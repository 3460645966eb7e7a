-- Wherever the run is, the items that are left lead on from there. Each number moves the place on in the trace, so the run ends.
use Rattle.std.proofs.Common.{◌-◌, length}
use Rattle.turns.proofs.Leads.{Leads}
use Rattle.bench.specs.Run.{ran_from}
use Rattle.bench.proofs.run.take_items.Given as goal

abbrev pub invariant-loop-place : goal.invariant-loop-place
invariant-loop-place l = Leads l.initial.bench (ran_from l.trace l.at) l.bench (ran_from l.trace l.place)

abbrev pub decreases-loop-place : goal.decreases-loop-place
decreases-loop-place l = length l.trace - l.place
