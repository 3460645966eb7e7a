-- No more are found than were tried.
use Rattle.std.proofs.Common.{◌≤◌}
use Rattle.serials.proofs.turned.Given as goal

abbrev pub invariant-loop-k : goal.invariant-loop-k
invariant-loop-k l = l.found ≤ l.k
