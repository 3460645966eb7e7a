-- A refused power-up has no line 1.
use Rattle.std.specs.Prelude.{refl, is_none}
use Rattle.turns.proofs.Leads.{some_given}
use Rattle.report.proofs.Pages.{where_not}
use Rattle.bench.proofs.run.print_first.Goals as goal

pub returns-else-is_none : goal.returns-else-is_none
returns-else-is_none c =
    where_not _ _ (is_none c.args.powered.refusal) _ refl (some_given _ c.is_none.ensures c.if-is_none.false)
