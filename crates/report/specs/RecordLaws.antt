-- What is claimed of a record's counts: a count is one more, exactly, for each thing counted while it is below the largest
-- number that it can hold, and there it stays. That no run reaches it is not claimed. Assumes nothing.
use Rattle.std.specs.Prelude.{◌≡◌, ℕ, ◌+◌, ◌<◌}
use Rattle.std.proofs.Common.{lt-ltb}
use Rattle.report.specs.Record.{counted}

pub counted_exact : (n : ℕ) → n < 0xFFFFFFFFFFFFFFFF → counted n ≡ n + 1
unfolding counted
counted_exact n h = rw (lt-ltb n 0xFFFFFFFFFFFFFFFF h)
