-- A skip and a pulse leave what is to come as it is; a refusal ends it, and so does the last pulse.
use Rattle.std.specs.Prelude.{◌≡◌, List, ℕ, ◌-◌, None}
use Rattle.std.specs.Borrow.{MutBor}
use Rattle.std.proofs.Common.{refl, ◌∙◌}
use Rattle.turns.specs.Bench.{Bench, Takes}
use Rattle.turns.specs.declared.turn.Bench.{Bench as Lent}
use Rattle.turns.proofs.Leads.{Leads, at_start, taken, at_end, given, not_given}
use Rattle.pulses.specs.Pulse.{pulsed, Skips}
use Rattle.pulses.specs.RunLaws.{pulse_stays, pulses_on, pulses_none, pulses_over, skips_on}
use Rattle.pulses.specs.declared.sums.Skipped.{Skipped}
use Rattle.pulses.proofs.run.take_pulses.Goals as goal

module _ {start : Lent} {all : Bench → Bench} where
  skipped :
      {here : Lent} (n : ℕ) (r : Skipped) (array : MutBor (List ℕ)) → array.ghost_name ≡ here.array.ghost_name → here.refusal ≡ None
      → Skips here.stand here.array.now n r array.now → Leads start all here (pulsed n)
      → Leads start all (record here { stand = r.stand; array = array }) (pulsed r.left)
  skipped {here} n r array same on skips l = record {
    same_array = same ∙ l.same_array;
    same_page = l.same_page;
    same_slice = l.same_slice;
    desk = skips_on n here r array on skips ∙ l.desk;
  }

  next : {here then : Lent} (n : ℕ) → (n ≡ 0 → ⊥) → Takes here (pulsed 1) then → Leads start all here (pulsed n) → Leads start all then (pulsed (n - 1))
  next {here} {then} n some x l = taken x (pulses_on n here then some x.desk) l

  over : {here : Lent} (n : ℕ) → n ≡ 0 → Leads start all here (pulsed n) → Takes start all here
  over {here} n none l = at_end (pulses_none n here none) l

pub loop-left-init : goal.loop-left-init
loop-left-init c = at_start _ _

pub loop-left-preserved : goal.loop-left-preserved
loop-left-preserved c =
    next _ c.if-left-eq0.false c.take_pulse.ensures
    (skipped _ _ _ refl (not_given _ c.is_some.ensures c.if-is_some.false) c.skip-skipped.ensures.skips c.loop-left.invariant)

pub returns-then-left-eq0 : goal.returns-then-left-eq0
returns-then-left-eq0 c =
    over _ c.if-left-eq0.true
    (skipped _ _ _ refl (not_given _ c.is_some.ensures c.if-is_some.false) c.skip-skipped.ensures.skips c.loop-left.invariant)

pub returns-then-is_some : goal.returns-then-is_some
returns-then-is_some c = at_end (pulse_stays _ c.loop-left.bench (given _ c.is_some.ensures c.if-is_some.true)) c.loop-left.invariant

pub returns : goal.returns
returns c = at_end (pulses_over _ c.loop-left.bench c.loop-left-test.false) c.loop-left.invariant
