-- A refused event has its line and leaves all as it was; an accepted one is told by what stood before it, its answer, and what stands
-- after it.
use Rattle.story.proofs.Scenes.{refused_scene, refused_text, accepted_scene, accepted_told}
use Rattle.story.proofs.told.tell_event.Goals as goal

pub returns-in-Some : goal.returns-in-Some
returns-in-Some c = record {
  scene = refused_scene c.args.bench.now _ _ _ c.event-answer.ensures _ c.in-Some.is;
  prints = refused_text c.args.bench.now _ _ _ c.event-answer.ensures _ c.in-Some.is _ (rw c.from.ensures at c.print_refused.ensures);
}

pub returns-in-None : goal.returns-in-None
returns-in-None c = record {
  scene = accepted_scene c.args.bench.now _ _ _ c.event-answer.ensures _ c.in-None.is c.after-after.ensures.value;
  prints = accepted_told c.args.bench.now _ _ _ c.event-answer.ensures _ c.in-None.is c.after-after.ensures.value _ c.tell_accepted.ensures;
}
