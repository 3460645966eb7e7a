-- What a bench takes for a seen rise is one: SCK rises, with /HOLD high and a select open, and the select takes SI. No
-- other event is one, and no other takes a bit. Event 3 by its tests, the others pin by pin. Assumes nothing.
use Rattle.std.specs.Prelude.{ℕ, ◌/◌, ◌%◌, ◌≡◌, ◌&&◌, List, Result, Ok}
use Rattle.std.proofs.Common.{arith, sym, subst, ◌∙◌, eqb-true}
use Rattle.std.proofs.Math.Path.{refl, ap}
use Rattle.std.proofs.Math.Bool.{Bool, true, false, cond, not}
use Rattle.std.proofs.lemmas.Bool.{eqb-false, not-true}
use Rattle.std.proofs.Math.Dec.{eqb}
use Rattle.laws.specs.TestLaws.{left, right, choose}
use Rattle.parts.specs.declared.figures.Figure.{Figure}
use Rattle.stages.specs.Close.{is_closed, drops, after_close, after_fall}
use Rattle.stages.specs.Wp.{is_up}
use Rattle.stages.specs.declared.stage.Stage.{Stage}
use Rattle.stages.specs.declared.stage.Stage.TheVariants.{Closed, Code, Upper, Lower, Ready, ArrayOut, StatusOut, Writing, Keeping, Over, Dummy, IdentOut, SerialOut, Asleep}
use Rattle.select.specs.declared.rise.Seen.{Seen}
use Rattle.select.specs.Rise.{rise}
use Rattle.pins.specs.Edges.{silent, with_sck, seen_by, rose, shown, cs_fall, cs_rise, sck_rise, sck_fall, hold_fall, hold_rise}
use Rattle.pins.specs.Levels.{hold_high, cs_level}
use Rattle.pins.specs.Watch.{is_open, sees_rise}
use Rattle.pins.specs.declared.state.State.{State}
use Rattle.pins.specs.declared.state.Moved.{Moved}
use Rattle.refusals.specs.declared.refusal.Refusal.{Refusal}
use Rattle.step.specs.Step.{cs_to, sck_to, hold_to, cs_stayed, vdd_to, live, dark, step, state_after}

-- the stage after an event that takes no bit: as it was, or a select opened or closed, or the supply was cut, or a fall of SCK
pub data Unclocked (f : Figure) (serial xs : List ℕ) (s : State) : Stage → Type 0 where
  same : Unclocked f serial xs s s.stage
  opens : Unclocked f serial xs s (after_fall f (is_up s.wp) s.stage)
  closes : Unclocked f serial xs s (after_close s.stage)
  cuts : Unclocked f serial xs s Closed
  falls : Unclocked f serial xs s (shown f serial xs s)

-- with no select open a rise of SCK leaves the stage
rise_closed : (f : Figure) (seen : Seen) (stage : Stage) → is_closed stage ≡ true → (rise f seen stage).stage ≡ stage
unfolding rise
rise_closed f seen Closed h = refl
rise_closed f seen (Code wp shift) h = cc
rise_closed f seen (Upper purpose shift) h = cc
rise_closed f seen (Lower purpose shift page) h = cc
rise_closed f seen (Ready what at) h = cc
rise_closed f seen (ArrayOut level bit at) h = cc
rise_closed f seen (StatusOut level bit) h = cc
rise_closed f seen (Writing came shift last at) h = cc
rise_closed f seen (Keeping wp shift) h = cc
rise_closed f seen (Over end) h = cc
rise_closed f seen (Dummy shift at) h = cc
rise_closed f seen (IdentOut level bit at) h = cc
rise_closed f seen (SerialOut level bit at) h = cc
rise_closed f seen Asleep h = refl

-- SCK was low and is high in the next state, with /HOLD high and a select open
abbrev pub seen_rise : State → State → Bool
seen_rise s next = not s.sck && next.sck && hold_high s.hold && is_open s

still : (k : Bool) → (not k && k) ≡ false
still true = refl
still false = refl

never : (k : Bool) → (k && false) ≡ false
never true = refl
never false = refl

choose_on : {A : Type 0} (P : A → Type 0) (t : Bool) {a b : A} → (t ≡ true → P a) → P b → P (cond t a b)
choose_on P true p q = p refl
choose_on P false p q = q

module _ (f : Figure) (serial xs : List ℕ) (s : State) where
  pub rise_seen : (code : ℕ) → sees_rise s code ≡ true → step f serial xs s code ≡ Ok (rose s (rise f (seen_by s) s.stage))
  unfolding sees_rise step live sck_rise
  rise_seen code h =
      ap (step f serial xs s) three
      ∙ ap (λ (p : Bool). cond p (live f serial xs s 1 true) (dark s 3)) on
      ∙ ap (λ (k : Bool). Ok (cond k (silent s) (sck_rise f s))) low
      ∙ ap (λ (k : Bool). Ok (cond k (rose s (rise f (seen_by s) s.stage)) (silent (with_sck s true)))) off
    where
      a : Bool
      a = s.power && hold_high s.hold

      three : code ≡ 3
      three = eqb-true code 3 (right (a && is_open s && not s.sck) (eqb code 3) h)

      low : s.sck ≡ false
      low = not-true s.sck (right (a && is_open s) (not s.sck) (left (a && is_open s && not s.sck) (eqb code 3) h))

      both : a ≡ true
      both = left a (is_open s) (left (a && is_open s) (not s.sck) (left (a && is_open s && not s.sck) (eqb code 3) h))

      on : s.power ≡ true
      on = left s.power (hold_high s.hold) both

      off : hold_high s.hold ≡ true
      off = right s.power (hold_high s.hold) both

  -- SCK doesn't rise to this state, and no bit is taken
  abbrev Passes : State → Type 0
  Passes t = ((not s.sck && t.sck) ≡ false) × Unclocked f serial xs s t.stage

  abbrev Moves : Moved → Type 0
  Moves m = Passes m.state

  abbrev Steps : Result Moved Refusal → Type 0
  Steps t = Passes (state_after s t)

  stays : Passes s
  stays = (still s.sck, same)

  cs_passes : (level : Bool) → Moves (cs_to f s level)
  unfolding cs_fall cs_rise
  cs_passes true =
      choose Moves (cs_level s) stays
      (choose Moves (hold_high s.hold)
      (choose Moves (s.latch && drops s.stage) (still s.sck, closes) (still s.sck, closes))
      (still s.sck, same))
  cs_passes false =
      choose Moves (cs_level s) (choose Passes (hold_high s.hold) (still s.sck, opens) (still s.sck, same)) stays

  sck_passes : Moves (sck_to f serial xs s false)
  unfolding sck_fall
  sck_passes =
      choose Moves s.sck
      (choose Passes (hold_high s.hold) (never (not s.sck), falls) (never (not s.sck), same))
      stays

  hold_passes : (level : Bool) → Steps (hold_to s level)
  unfolding hold_fall hold_rise
  hold_passes true =
      choose Steps (hold_high s.hold) stays
      (choose Steps s.sck stays (choose Steps (cs_stayed s) (still s.sck, same) stays))
  hold_passes false =
      choose Steps (hold_high s.hold) (choose Steps s.sck stays (still s.sck, same)) stays

  vdd_passes : (level : Bool) → Moves (vdd_to s level)
  vdd_passes true = stays
  vdd_passes false = (never (not s.sck), cuts)

  others_pass : (code : ℕ) → eqb code 3 ≡ false → Steps (step f serial xs s code)
  unfolding step live
  others_pass code h =
      choose Steps s.power
      (choose Steps (eqb (code / 2) 0) (cs_passes level)
      (choose_on Steps (eqb (code / 2) 1) (λ e. falls_only level refl e)
      (choose Steps (eqb (code / 2) 2) (still s.sck, same)
      (choose Steps (eqb (code / 2) 3) (hold_passes level)
      (choose Steps (eqb (code / 2) 4) (still s.sck, same)
      (vdd_passes level))))))
      (choose Moves (eqb code 11) (never (not s.sck), cuts) stays)
    where
      level : Bool
      level = eqb (code % 2) 1

      three : code / 2 ≡ 1 → code % 2 ≡ 1 → code ≡ 3
      three p q = omega arith

      falls_only : (t : Bool) → eqb (code % 2) 1 ≡ t → eqb (code / 2) 1 ≡ true → Moves (sck_to f serial xs s t)
      falls_only true e p = absurd (eqb-false code 3 h (three (eqb-true _ _ p) (eqb-true _ _ e)))
      falls_only false e p = sck_passes

  -- event 3, by the power, the level of SCK and whether /HOLD is high
  abbrev raised : Bool → Bool → Bool → Result Moved Refusal
  raised p k h =
      cond p
      (Ok (cond k (silent s) (cond h (rose s (rise f (seen_by s) s.stage)) (silent (with_sck s true)))))
      (Ok (silent s))

  -- "Each seen rise of SCK in an open select", no more and no less
  pub rise_exact : (code : ℕ) → sees_rise s code ≡ seen_rise s (state_after s (step f serial xs s code))
  unfolding sees_rise step live sck_rise
  rise_exact code = go (eqb code 3) refl
    where
      three : (p k h o : Bool) → s.sck ≡ k → (p && h && o && not k && true) ≡ (not k && (state_after s (raised p k h)).sck && h && o)
      three false true h o e = refl
      three false false h o e = rw e
      three true true false o e = refl
      three true true true false e = refl
      three true true true true e = refl
      three true false false o e = refl
      three true false true false e = refl
      three true false true true e = refl

      go : (t : Bool) → eqb code 3 ≡ t → sees_rise s code ≡ seen_rise s (state_after s (step f serial xs s code))
      go true e =
          subst (λ (k : ℕ). sees_rise s k ≡ seen_rise s (state_after s (step f serial xs s k))) (sym (eqb-true code 3 e))
          (three s.power s.sck (hold_high s.hold) (is_open s) refl)
      go false e =
          ap (λ (t : Bool). s.power && hold_high s.hold && is_open s && not s.sck && t) e
          ∙ never (s.power && hold_high s.hold && is_open s && not s.sck)
          ∙ sym (ap (λ (t : Bool). t && hold_high s.hold && is_open s) (others_pass code e).0)

  -- where it is none, no bit is taken
  pub unseen_takes_none : (code : ℕ) → sees_rise s code ≡ false → Unclocked f serial xs s (state_after s (step f serial xs s code)).stage
  unfolding sees_rise is_open step live sck_rise rise
  unseen_takes_none code = go (eqb code 3) refl
    where
      three :
          (p k h d : Bool) → is_closed s.stage ≡ d → (p && h && not d && not k && true) ≡ false
          → Unclocked f serial xs s (state_after s (raised p k h)).stage
      three false k h d e n = same
      three true true h d e n = same
      three true false false d e n = same
      three true false true true e n = rw (rise_closed f (seen_by s) s.stage e) same
      three true false true false e n = absurd (eqb-false 1 0 refl cc)

      go : (t : Bool) → eqb code 3 ≡ t → sees_rise s code ≡ false → Unclocked f serial xs s (state_after s (step f serial xs s code)).stage
      go true e h =
          rw (eqb-true code 3 e)
          (three s.power s.sck (hold_high s.hold) (is_closed s.stage) refl (rw (eqb-true code 3 e) at h))
      go false e h = (others_pass code e).1
