-- After k events the scene and the page are where the first k events of the item lead, so the others lead on from there; a refused
-- one ends it.
use Rattle.std.proofs.Common.{drop}
use Rattle.trace.specs.Items.{short_events}
use Rattle.story.specs.Scene.{scene_of, events_scene, events_text}
use Rattle.story.proofs.Scenes.{Leads}
use Rattle.story.proofs.told.tell_short.Given as goal

abbrev pub invariant-loop-k : goal.invariant-loop-k
invariant-loop-k l =
    let events = short_events l.item in
    let before = scene_of l.initial.bench in
    let here = scene_of l.bench in
    Leads (events_scene before events) (events_text before l.place events) l.initial.page
    (events_scene here (drop l.k events)) (events_text here l.place (drop l.k events)) l.page
