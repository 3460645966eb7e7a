-- After k events the scene and the page are where the first k events of the item lead, so the others lead on from there; a refused
-- one ends it.
use Rattle.turns.proofs.Leads.{given, not_given}
use Rattle.story.proofs.Scenes.{events_on, events_end, events_over}
use Rattle.story.proofs.told.tell_short.Goals as goal

pub loop-k-preserved : goal.loop-k-preserved
loop-k-preserved c =
    events_on _ _ _ _ _ c.events_of-k-end.ensures c.loop-k-test.true c.event_of.ensures c.loop-k.bench c.tell_event.new.bench _ _ _ _ _
    (not_given _ c.is_some.ensures c.if-is_some.false) c.tell_event.ensures.scene c.tell_event.ensures.prints c.loop-k.invariant

pub returns-then-is_some : goal.returns-then-is_some
returns-then-is_some c =
    let told = events_end _ _ c.loop-k.bench _ _ _ _ (given _ c.is_some.ensures c.if-is_some.true) c.loop-k.invariant in
    record { scene = told.0; prints = told.1 }

pub returns : goal.returns
returns c =
    let told = events_over _ _ _ _ c.events_of-k-end.ensures c.loop-k-test.false c.loop-k.bench _ _ _ _ c.loop-k.invariant in
    record { scene = told.0; prints = told.1 }
