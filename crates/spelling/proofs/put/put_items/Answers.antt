-- One item more is put, and those that are left are small still.
use Rattle.spelling.proofs.LayTurns.{small_drop, item_more}
use Rattle.spelling.proofs.put.put_items.Goals as goal

pub loop-item-preserved : goal.loop-item-preserved
loop-item-preserved c =
    let loop = c.loop-item in (
      (small_drop _ loop.item-index c.loop-item-test.true loop.invariant.0).1,
      item_more _ loop.item-index c.loop-item-test.true loop.invariant.1 c.put_item.ensures c.in_ok-next.was,
    )
