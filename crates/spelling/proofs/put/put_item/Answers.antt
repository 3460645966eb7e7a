-- What the write call promises: the form has room and stands there, or it has none.
use Rattle.spelling.proofs.LayTurns.{item_lays}
use Rattle.spelling.proofs.put.put_item.Goals as goal

pub returns : goal.returns
returns c = rw c.ok.ensures.value (item_lays c.args.out.now c.args.at c.args.item c.requires c.write_at.new.s c.write_at.result c.write_at.ensures)
