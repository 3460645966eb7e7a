-- The soundness test passes the state after each step from a sound one. With power on only the part, the
-- kept bits and the stage are tested, so an edge that changes none of them keeps soundness as it is. Assumes nothing.
use Rattle.std.specs.Prelude.{ℕ, ◌/◌, ◌%◌, ◌≡◌, Bool, cond, List, eqb, Result}
use Rattle.std.proofs.Math.Path.{refl}
use Rattle.std.proofs.Math.Bool.{true, false}
use Rattle.parts.specs.Figures.{figure_of}
use Rattle.laws.specs.TestLaws.{choose}
use Rattle.pins.specs.Edges.{hold_fall, hold_rise}
use Rattle.step.specs.Step.{cs_to, sck_to, hold_to, cs_stayed, vdd_to, live, dark, step, state_after}
use Rattle.pins.specs.Levels.{cs_level, hold_high}
use Rattle.pins.specs.Sound.{sound}
use Rattle.pins.specs.declared.state.State.{State}
use Rattle.pins.specs.declared.state.Moved.{Moved}
use Rattle.refusals.specs.declared.refusal.Refusal.{Refusal}
use Rattle.pins.specs.SoundLaws.{good, rest_sound, Sound, Keeps, kept_on, cs_fall_lem, cs_rise_lem, sck_rise_lem, sck_fall_lem}

abbrev pub Answers : State → Result Moved Refusal → Type 0
Answers s t = Sound (state_after s t)

module _ (s : State) (h : sound s ≡ true) (on : s.power ≡ true) where
  cs_to_lem : (level : Bool) → Keeps (cs_to (figure_of s.part) s level)
  cs_to_lem true = choose Keeps (cs_level s) h (cs_rise_lem s h on)
  cs_to_lem false = choose Keeps (cs_level s) (cs_fall_lem s h on) h

  sck_to_lem : (serial xs : List ℕ) (level : Bool) → Keeps (sck_to (figure_of s.part) serial xs s level)
  sck_to_lem serial xs true = choose Keeps s.sck h (sck_rise_lem s h on)
  sck_to_lem serial xs false = choose Keeps s.sck (sck_fall_lem s h on serial xs) h

  hold_to_lem : (level : Bool) → Answers s (hold_to s level)
  unfolding hold_fall hold_rise
  hold_to_lem true =
      choose (Answers s) (hold_high s.hold) h
      (choose (Answers s) s.sck h (choose (Answers s) (cs_stayed s) (kept_on s h on _ refl refl refl refl) h))
  hold_to_lem false =
      choose (Answers s) (hold_high s.hold) (choose (Answers s) s.sck h (kept_on s h on _ refl refl refl refl)) h

  vdd_to_lem : (level : Bool) → Keeps (vdd_to s level)
  vdd_to_lem true = h
  vdd_to_lem false = rest_sound s.part s.kept false (good s h).part (good s h).kept

  live_sound : (serial xs : List ℕ) (pin : ℕ) (level : Bool) → Answers s (live (figure_of s.part) serial xs s pin level)
  unfolding live
  live_sound serial xs pin level =
      choose (Answers s) (eqb pin 0) (cs_to_lem level)
      (choose (Answers s) (eqb pin 1) (sck_to_lem serial xs level)
      (choose (Answers s) (eqb pin 2) (kept_on s h on _ refl refl refl refl)
      (choose (Answers s) (eqb pin 3) (hold_to_lem level)
      (choose (Answers s) (eqb pin 4) (kept_on s h on _ refl refl refl refl)
      (vdd_to_lem level)))))

module _ (s : State) (h : sound s ≡ true) where
  dark_sound : (code : ℕ) → Answers s (dark s code)
  dark_sound code =
      choose Keeps (eqb code 11) (rest_sound s.part s.kept true (good s h).part (good s h).kept) h

  pub step_sound : (serial xs : List ℕ) (code : ℕ) → Answers s (step (figure_of s.part) serial xs s code)
  unfolding step
  step_sound serial xs code = go s.power refl
    where
      go : (t : Bool) → s.power ≡ t → Answers s (cond t (live (figure_of s.part) serial xs s (code / 2) (eqb (code % 2) 1)) (dark s code))
      go true e = live_sound s h e serial xs (code / 2) (eqb (code % 2) 1)
      go false e = dark_sound code
