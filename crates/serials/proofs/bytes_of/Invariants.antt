-- One byte a pair.
use Rattle.std.proofs.Common.{◌≤◌, length}
use Rattle.serials.proofs.bytes_of.Given as goal

abbrev pub invariant-loop-room : goal.invariant-loop-room
invariant-loop-room l =
    goal.iterator-loop-room.can_next l.room-iterator × goal.iterator-loop-room.is_finite l.room-iterator × (l.n ≤ length l.yielded)
