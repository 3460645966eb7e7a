-- The array is filled, and the power-up is on what that leaves.
use Rattle.story.proofs.Stories.{power_refused, power_accepted}
use Rattle.story.proofs.text.tell_power.Goals as goal

pub returns-in-Some : goal.returns-in-Some
returns-in-Some c = power_refused _ _ _ _ _ _ _ c.fill.ensures.1 c.power_up-powered.ensures _ c.in-Some.is c.print_not_powered.ensures

pub returns-in-None : goal.returns-in-None
returns-in-None c = power_accepted _ _ _ _ _ _ _ c.fill.ensures.1 c.power_up-powered.ensures c.in-None.is c.tell_powered.ensures
