-- A head that is refused is the whole story; else it is told on an array of the part's size, no larger than the one that is made.
use Rattle.std.proofs.Common.{sym, length-take-le}
use Rattle.parts.specs.FigureLaws.{largest}
use Rattle.story.proofs.Stories.{story_not, story_led}
use Rattle.story.proofs.text.print_story.Goals as goal

pub returns-in-Err : goal.returns-in-Err
returns-in-Err c = story_not _ _ _ _ c.head_of.ensures _ c.in-Err.is c.print_not_powered.ensures

pub returns-in-Ok : goal.returns-in-Ok
returns-in-Ok c = story_led _ _ _ _ c.head_of.ensures _ _ c.in-Ok.is c.figure_of-size.ensures c.tell_power.ensures

pub slice_bounds-array-end : goal.slice_bounds-array-end
slice_bounds-array-end c = rw c.figure_of-size.ensures (largest _)

pub slice_bounds-tell_power-end : goal.slice_bounds-tell_power-end
slice_bounds-tell_power-end c = sym (length-take-le _ _ (rw c.figure_of-size.ensures (largest _)))
