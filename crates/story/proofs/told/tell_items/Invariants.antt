-- Wherever the run is, the items that are left lead from there to where all of them lead from the start. Each number moves the place
-- on in the trace, so the run ends.
use Rattle.std.proofs.Common.{◌≡◌, ◌-◌, length}
use Rattle.report.specs.Page.{printed}
use Rattle.report.specs.Prints.{page_in}
use Rattle.story.specs.Scene.{scene_of}
use Rattle.story.specs.Story.{left_text}
use Rattle.story.proofs.told.tell_items.Given as goal

abbrev pub invariant-loop-value : goal.invariant-loop-value
invariant-loop-value l =
    record {
      same_slice : l.page.out.ghost_name ≡ l.initial.page.out.ghost_name;
      page : printed (page_in l.page) (left_text l.trace l.place (scene_of l.bench))
          ≡ printed (page_in l.initial.page) (left_text l.trace l.at (scene_of l.initial.bench));
    }

abbrev pub decreases-loop-value : goal.decreases-loop-value
decreases-loop-value l = length l.trace - l.place
