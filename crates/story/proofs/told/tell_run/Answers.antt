-- The pulses by sums, then their line from what stood before and after.
use Rattle.story.proofs.Scenes.{ran_scene, ran_text}
use Rattle.story.proofs.told.tell_run.Goals as goal

pub returns : goal.returns
returns c = record {
  scene = ran_scene _ _ _ c.take_pulses.ensures;
  prints = ran_text _ _ _ c.take_pulses.ensures _ c.tell_pulses.ensures;
}
