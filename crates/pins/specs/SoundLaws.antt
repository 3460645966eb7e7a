-- With power on only the part, the kept bits and the stage are tested, so an edge that changes none of them keeps
-- soundness as it is; the clocks keep it by the laws of a select. Assumes nothing.
use Rattle.std.specs.Prelude.{ℕ, ◌≡◌, Bool, true, false, cond, not, ◌&&◌, ◌||◌, List}
use Rattle.std.proofs.Math.Path.{refl}
use Rattle.std.proofs.Common.{ap, ◌∙◌}
use borrow.Author.Tests.{eqb-true, eq-eqb}
use Rattle.parts.specs.FigureLaws.{fair}
use Rattle.parts.specs.Figures.{figure_of, is_part, in_mask}
use Rattle.parts.specs.declared.figures.Figure.{Figure}
use Rattle.laws.specs.TestLaws.{both, left, right, choose}
use Rattle.stages.specs.Bits.{no_bits}
use Rattle.stages.specs.Close.{is_closed, is_asleep, end_of, drops, closed_by, after_fall}
use Rattle.stages.specs.Wp.{is_up, fall_wp}
use Rattle.stages.specs.declared.stage.End.{End}
use Rattle.stages.specs.declared.stage.End.TheVariants.{Quiet, Drops, Sleeps}
use Rattle.stages.specs.declared.stage.Line.{Line}
use Rattle.stages.specs.declared.stage.Line.TheVariants.{Down, Up}
use Rattle.select.specs.Fall.{status_byte}
use Rattle.stages.specs.Sound.{sound_stage}
use Rattle.select.specs.SoundLaws.{rise_sound, rise_masked, fall_sound}
use Rattle.pins.specs.Edges.{seen_by, cs_fall, cs_rise, sck_rise, sck_fall}
use Rattle.pins.specs.Levels.{at_rest, hold_high}
use Rattle.pins.specs.Sound.{rests, sound_by, sound}
use Rattle.stages.specs.declared.stage.Stage.{Stage}
use Rattle.stages.specs.declared.stage.Stage.TheVariants.{Closed, Code, Upper, Lower, Ready, ArrayOut, StatusOut, Writing, Keeping, Over, Dummy, IdentOut, SerialOut, Asleep}
use Rattle.pins.specs.declared.hold.Hold.{Hold}
use Rattle.pins.specs.declared.hold.Hold.TheVariants.{High, LowCsLow, LowCsHigh}
use Rattle.pins.specs.declared.state.State.{State}
use Rattle.pins.specs.declared.state.Moved.{Moved}

-- what the test asks with power on
pub record Good (s : State) : Type 0 where
  pub part : is_part s.part ≡ true
  pub kept : in_mask s.part s.kept ≡ true
  pub stage : sound_stage (figure_of s.part) s.stage ≡ true

pub good : (s : State) → sound s ≡ true → Good s
unfolding sound
good s h = record { part = left a b ab; kept = right a b ab; stage = right (a && b) d abd }
  where
    a : Bool
    a = is_part s.part

    b : Bool
    b = in_mask s.part s.kept

    d : Bool
    d = sound_stage (figure_of s.part) s.stage

    abd : (a && b && d) ≡ true
    abd = left (a && b && d) (s.power || rests s) h

    ab : (a && b) ≡ true
    ab = left (a && b) d abd

pub good_sound : (s : State) → s.power ≡ true → Good s → sound s ≡ true
unfolding sound
good_sound s on g = both (both (both g.part g.kept) g.stage) (rw on)

pub rest_sound : (part kept : ℕ) (power : Bool) → is_part part ≡ true → in_mask part kept ≡ true → sound (at_rest part kept power) ≡ true
unfolding sound rests sound_stage
rest_sound part kept true p k = both (both (both p k) refl) refl
rest_sound part kept false p k = both (both (both p k) refl) refl

pub closed_is : (stage : Stage) → (is_closed stage && not (is_asleep stage)) ≡ true → stage ≡ Closed
closed_is Closed h = refl
closed_is (Code wp shift) h = cc
closed_is (Upper purpose shift) h = cc
closed_is (Lower purpose shift page) h = cc
closed_is (Ready what at) h = cc
closed_is (ArrayOut level bit at) h = cc
closed_is (StatusOut level bit) h = cc
closed_is (Writing came shift last at) h = cc
closed_is (Keeping wp shift) h = cc
closed_is (Over end) h = cc
closed_is (Dummy shift at) h = cc
closed_is (IdentOut level bit at) h = cc
closed_is (SerialOut level bit at) h = cc
closed_is Asleep h = cc

rest_of :
    (part kept : ℕ) (power sck : Bool) (si wp : Line) (latch : Bool) (hold : Hold) (stage : Stage)
    → (not sck && not (is_up si) && is_up wp && not latch && hold_high hold && is_closed stage && not (is_asleep stage)) ≡ true
    → ◌≡◌ {A = State}
    (record { part = part; kept = kept; power = power; sck = sck; si = si; wp = wp; latch = latch; hold = hold; stage = stage })
    (at_rest part kept power)
rest_of part kept power false Down Up false High stage h = rw (closed_is stage h)
rest_of part kept power false Down Up false LowCsLow stage h = cc
rest_of part kept power false Down Up false LowCsHigh stage h = cc
rest_of part kept power false Down Up true hold stage h = cc
rest_of part kept power false Down Down latch hold stage h = cc
rest_of part kept power false Up wp latch hold stage h = cc
rest_of part kept power true si wp latch hold stage h = cc

-- "power off in another form than the off state": what rests has the form of the off state in every field
pub rests_is : (s : State) → rests s ≡ true → s ≡ at_rest s.part s.kept s.power
unfolding rests
rests_is s h = rest_of s.part s.kept s.power s.sck s.si s.wp s.latch s.hold s.stage h

-- the edges of /CS lead to a stage that is sound on any part
fall_opens : (f : Figure) (wp : Bool) (stage : Stage) → sound_stage f (after_fall f wp stage) ≡ true
unfolding after_fall fall_wp sound_stage
fall_opens f wp stage = go (is_asleep stage) f.wp_at_fall wp refl
  where
    go : (t u v : Bool) → f.wp_at_fall ≡ u → sound_stage f (cond t (Over Quiet) (Code (cond (u && not v) Down Up) no_bits)) ≡ true
    go true u v e = refl
    go false true true e = rw e
    go false true false e = rw e
    go false false v e = rw e

close_rests : (f : Figure) (end : End) → sound_stage f (closed_by end) ≡ true
unfolding sound_stage
close_rests f Quiet = refl
close_rests f Drops = refl
close_rests f Sleeps = refl

abbrev pub Sound : State → Type 0
Sound s = sound s ≡ true

abbrev pub Keeps : Moved → Type 0
Keeps m = Sound m.state

module _ (s : State) (h : sound s ≡ true) (on : s.power ≡ true) where
  g : Good s
  g = good s h

  -- nothing that is tested moves
  pub kept_on : (next : State) → next.power ≡ s.power → next.part ≡ s.part → next.kept ≡ s.kept → next.stage ≡ s.stage → sound next ≡ true
  kept_on next p q k t =
      good_sound next (p ∙ on)
      (record { part = rw q g.part; kept = rw (q, k) g.kept; stage = rw (q, t) g.stage })

  -- the stage moves to one that is sound
  staged : (next : State) → next.power ≡ s.power → next.part ≡ s.part → next.kept ≡ s.kept
      → sound_stage (figure_of s.part) next.stage ≡ true → sound next ≡ true
  staged next p q k t = good_sound next (p ∙ on) (record { part = rw q g.part; kept = rw (q, k) g.kept; stage = rw q t })

  pub cs_fall_lem : Keeps (cs_fall (figure_of s.part) s)
  unfolding cs_fall
  cs_fall_lem =
      choose Sound (hold_high s.hold) (staged _ refl refl refl (fall_opens (figure_of s.part) (is_up s.wp) s.stage)) (kept_on _ refl refl refl refl)

  pub cs_rise_lem : Keeps (cs_rise s)
  unfolding cs_rise
  cs_rise_lem =
      choose Keeps (hold_high s.hold)
      (choose Keeps (s.latch && drops s.stage) (staged _ refl refl refl (close_rests _ (end_of s.stage))) (staged _ refl refl refl (close_rests _ (end_of s.stage))))
      (kept_on _ refl refl refl refl)

  pub sck_rise_lem : Keeps (sck_rise (figure_of s.part) s)
  unfolding sck_rise
  sck_rise_lem =
      choose Keeps (hold_high s.hold)
      (good_sound _ on
      (record {
        part = g.part;
        kept = eq-eqb _ _ (rise_masked (figure_of s.part) (fair s.part g.part) (seen_by s) s.stage (eqb-true _ _ g.kept));
        stage = rise_sound (figure_of s.part) (fair s.part g.part) (seen_by s) s.stage g.stage;
      }))
      (kept_on _ refl refl refl refl)

  pub sck_fall_lem : (serial xs : List ℕ) → Keeps (sck_fall (figure_of s.part) serial xs s)
  unfolding sck_fall
  sck_fall_lem serial xs =
      choose Sound (hold_high s.hold)
      (staged _ refl refl refl
      (fall_sound (figure_of s.part) (fair s.part g.part) serial xs (status_byte (figure_of s.part) s.kept s.latch) s.stage g.stage))
      (kept_on _ refl refl refl refl)

-- by the row of its part, whoever has read it
pub sound_row : {f : Figure} (s : State) → f ≡ figure_of s.part → sound_by f s ≡ sound s
unfolding sound
sound_row s row = ap (λ (g : Figure). sound_by g s) row
