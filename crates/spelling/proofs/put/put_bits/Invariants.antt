-- The bytes of the bits that are left are still to be put.
use Rattle.std.proofs.Common.{drop}
use Rattle.spelling.specs.Items.{forms, bit_items}
use Rattle.spelling.proofs.LayTurns.{Laying}
use Rattle.spelling.proofs.put.put_bits.Given as goal

abbrev pub invariant-loop-c : goal.invariant-loop-c
invariant-loop-c l = Laying l.initial.out l.at (forms (bit_items l.word)) l.out l.next (forms (bit_items (drop l.c-index l.word)))
