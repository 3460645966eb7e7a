-- The bytes of the items that are left are still to be put.
use Rattle.std.proofs.Common.{drop}
use Rattle.spelling.specs.Items.{forms}
use Rattle.spelling.specs.Lays.{Small}
use Rattle.spelling.proofs.LayTurns.{Laying}
use Rattle.spelling.proofs.put.put_items.Given as goal

abbrev pub invariant-loop-item : goal.invariant-loop-item
invariant-loop-item l = Small (drop l.item-index l.items) × Laying l.initial.out l.at (forms l.items) l.out l.next (forms (drop l.item-index l.items))
