-- After k events the others lead on from there.
use Rattle.std.specs.Prelude.{drop}
use Rattle.trace.specs.Items.{short_events}
use Rattle.turns.specs.Bench.{after_events}
use Rattle.turns.proofs.Leads.{Leads}
use Rattle.bench.proofs.run.take_short.Given as goal

abbrev pub invariant-loop-k : goal.invariant-loop-k
invariant-loop-k l =
    Leads l.initial.bench (λ b. after_events b (short_events l.item)) l.bench (λ b. after_events b (drop l.k (short_events l.item)))
