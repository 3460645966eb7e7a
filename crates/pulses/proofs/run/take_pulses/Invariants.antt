-- Wherever the loop is, the pulses that are left lead from there to where all of them lead from the start: a skip and a pulse
-- leave that as it is.
use Rattle.turns.proofs.Leads.{Leads}
use Rattle.pulses.specs.Pulse.{pulsed}
use Rattle.pulses.proofs.run.take_pulses.Given as goal

abbrev pub invariant-loop-left : goal.invariant-loop-left
invariant-loop-left l = Leads l.initial.bench (pulsed l.pulses) l.bench (pulsed l.left)

abbrev pub decreases-loop-left : goal.decreases-loop-left
decreases-loop-left l = l.left
