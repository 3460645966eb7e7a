-- After k events the others lead on from there; a refused one ends it.
use Rattle.std.specs.Prelude.{drop}
use Rattle.trace.specs.Items.{short_events}
use Rattle.turns.proofs.Leads.{at_start, taken, at_end, given, not_given}
use Rattle.turns.specs.EventLaws.{events_on, events_end, events_over}
use Rattle.bench.proofs.run.take_short.Goals as goal

pub loop-k-init : goal.loop-k-init
loop-k-init c = at_start _ _

pub loop-k-preserved : goal.loop-k-preserved
loop-k-preserved c =
    taken c.take_event.ensures
    (events_on _ c.loop-k.k _ _ c.loop-k.bench c.take_event.new.self c.events_of-k-end.ensures c.loop-k-test.true c.event_of.ensures
    (not_given _ c.is_some.ensures c.if-is_some.false) c.take_event.ensures.desk)
    c.loop-k.invariant

pub returns-then-is_some : goal.returns-then-is_some
returns-then-is_some c = at_end (events_end (drop c.loop-k.k (short_events c.args.item)) c.loop-k.bench (given _ c.is_some.ensures c.if-is_some.true)) c.loop-k.invariant

pub returns : goal.returns
returns c = at_end (events_over _ _ _ c.loop-k.bench c.events_of-k-end.ensures c.loop-k-test.false) c.loop-k.invariant
