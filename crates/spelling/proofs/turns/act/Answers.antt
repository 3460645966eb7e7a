-- The items are put, and the reading stands behind them.
use Rattle.std.proofs.Common.{◌≡◌, ◌∙◌, ap}
use Rattle.std.specs.Prelude.{Some}
use Rattle.std.specs.Result.{result_ok}
use Rattle.spelling.proofs.MarkTurns.{act_on}
use Rattle.spelling.proofs.turns.act.Goals as goal

pub returns : goal.returns
returns c =
    let said : c.args.said ≡ Some c.in_ok-said.said = c.ok_or.ensures.ok_part ∙ ap result_ok c.in_ok-said.was in
    let behind : c.put_said.result ≡ Some c.in_ok-at.at = c.ok_or-2.ensures.ok_part ∙ ap result_ok c.in_ok-at.was in
    rw said (act_on _ _ _ _ _ _ _ c.put_said.ensures _ _ behind c.here_after.ensures)
