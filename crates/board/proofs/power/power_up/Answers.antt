-- The refusals first; what passes them has at most eight chips, and the slice is as long as their pieces.
use Rattle.std.proofs.Common.{sym, ◌∙◌}
use Rattle.supply.specs.CheckedLaws.{checked_none}
use Rattle.board.proofs.PowerLaws.{power_allowed}
use Rattle.board.proofs.power.power_up.Goals as goal

pub shared_ref_as_front-power_each : goal.shared_ref_as_front-power_each
shared_ref_as_front-power_each c = (power_allowed _ _ (checked_none _ (sym c.check_power.ensures ∙ c.in-Ok.is))).few

pub power_each-chips-requires-clause-whole_slice : goal.power_each-chips-requires-clause-whole_slice
power_each-chips-requires-clause-whole_slice c = (power_allowed _ _ (checked_none _ (sym c.check_power.ensures ∙ c.in-Ok.is))).long
