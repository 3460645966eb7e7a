-- Wherever the loop is, the codes that are left lead from there to where all of them lead from the start. The row stays, since
-- the part does, and nothing comes to be refused of the state and what is lent with it, since an event keeps them fit.
use Rattle.std.specs.Prelude.{None}
use mathlib.Core.Path.{◌≡◌}
use lib.ListN.{length, drop}
use Rattle.parts.specs.Figures.{figure_of}
use Rattle.chip.specs.Event.{lend_refusal}
use Rattle.chip.specs.List.{course, set_all_out}
use Rattle.chip.proofs.run.go.Given as goal

abbrev pub invariant-loop-i : goal.invariant-loop-i
invariant-loop-i l =
    (length l.array ≡ length l.initial.array) × (length l.levels ≡ length l.initial.levels)
    × (l.f ≡ figure_of l.state.part)
    × (lend_refusal l.state (length l.array) (length l.serial) ≡ None)
    × (course l.serial (record { refusal = None; count = l.i; note = l.note; state = l.state; array = l.array; levels = l.levels }) (drop l.i l.codes)
    ≡ course l.serial (set_all_out None l.initial.state l.initial.array l.initial.levels) l.codes)
