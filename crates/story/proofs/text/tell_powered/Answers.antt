-- The first line, the items, and the end.
use Rattle.story.proofs.Stories.{from_power_told}
use Rattle.story.proofs.text.tell_powered.Goals as goal

pub returns : goal.returns
returns c =
    from_power_told _ _ _ _ _ _ _ _ _ _ _ c.figure_of-size.ensures c.new.ensures c.print_power.ensures
    c.tell_items.ensures.same_slice c.tell_items.ensures.page c.tell_end.ensures
