-- By what the item is.
use Rattle.story.specs.Scene.{scene_of}
use Rattle.story.proofs.Scenes.{item_run, item_short}
use Rattle.story.proofs.told.tell_item.Goals as goal

pub returns-then-pulses-gt0 : goal.returns-then-pulses-gt0
returns-then-pulses-gt0 c =
    let told = item_run (scene_of c.args.bench.now) _ _ _ c.pulses_of-pulses.ensures _ _ _ c.if-pulses-gt0.true c.tell_run.ensures.scene c.tell_run.ensures.prints in
    record { scene = told.0; prints = told.1 }

pub returns-else-pulses-gt0 : goal.returns-else-pulses-gt0
returns-else-pulses-gt0 c =
    let told = item_short (scene_of c.args.bench.now) _ _ _ c.pulses_of-pulses.ensures _ _ _ c.if-pulses-gt0.false c.tell_short.ensures.scene c.tell_short.ensures.prints in
    record { scene = told.0; prints = told.1 }
