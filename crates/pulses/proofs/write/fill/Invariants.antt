-- Wherever the loop is, the bytes that are left lead from there to where all of them lead from the start.
use mathlib.Core.Path.{◌≡◌}
use Prim.Native.Nat.{◌<◌, ◌-◌}
use lib.ListN.{length}
use Rattle.pulses.specs.Sums.{fill_bytes}
use Rattle.pulses.proofs.write.fill.Given as goal

abbrev pub invariant-loop : goal.invariant-loop
invariant-loop l =
    (length l.array ≡ length l.initial.array) × (l.at < length l.initial.array)
    × (fill_bytes (length l.initial.array) l.limit l.byte (l.bytes - l.counter) l.at l.array ≡ fill_bytes (length l.initial.array) l.limit l.byte l.bytes l.start l.initial.array)
