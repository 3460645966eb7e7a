-- The line is printed where a select is open.
use Rattle.report.proofs.Pages.{where_not}
use Rattle.story.proofs.told.tell_left.Goals as goal

pub returns-else-is_open : goal.returns-else-is_open
returns-else-is_open c = where_not _ _ _ _ c.is_open.ensures c.if-is_open.false
