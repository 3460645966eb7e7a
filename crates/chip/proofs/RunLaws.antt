-- What an event keeps, and so a run of them: the part, the array's length, the serial number, soundness. Assumes nothing.
use Rattle.std.specs.Prelude.{ℕ, ◌/◌, ◌%◌, ◌≡◌, Bool, ◌&&◌, List, [], ◌∷◌, eqb, length, Option, Some, None, Result, Ok, Err}
use Rattle.std.proofs.Math.Path.{refl}
use Rattle.std.proofs.Common.{◌∙◌}
use Rattle.std.proofs.Math.Bool.{true, false}
use Rattle.parts.specs.Figures.{figure_of}
use Rattle.laws.specs.TestLaws.{choose}
use Rattle.parts.specs.declared.figures.Figure.{Figure}
use Rattle.stages.specs.Close.{drops}
use Rattle.pins.specs.Edges.{cs_fall, cs_rise, sck_rise, sck_fall, hold_fall, hold_rise}
use Rattle.pins.specs.Levels.{cs_level, hold_high}
use Rattle.pins.specs.Sound.{sound}
use Rattle.pins.specs.declared.state.State.{State}
use Rattle.pins.specs.declared.state.Moved.{Moved}
use Rattle.refusals.specs.declared.refusal.Refusal.{Refusal}
use Rattle.step.specs.Step.{cs_to, sck_to, hold_to, cs_stayed, vdd_to, live, step, state_after}
use Rattle.chip.specs.Event.{answer_of, unless_refused, checks, event}
use Rattle.chip.specs.Run.{Chip, next, run}
use Rattle.chip.proofs.SoundLaws.{event_sound}
use Rattle.step.specs.StepLaws.{written_length}

-- every edge keeps the part
module _ (s : State) where
  abbrev Same : State → Type 0
  Same next = next.part ≡ s.part

  abbrev Moves : Moved → Type 0
  Moves m = Same m.state

  abbrev Steps : Result Moved Refusal → Type 0
  Steps t = Same (state_after s t)

  cs_part : (f : Figure) (level : Bool) → Moves (cs_to f s level)
  unfolding cs_fall cs_rise
  cs_part f true =
      choose Moves (cs_level s) refl (choose Moves (hold_high s.hold) (choose Moves (s.latch && drops s.stage) refl refl) refl)
  cs_part f false = choose Moves (cs_level s) (choose Same (hold_high s.hold) refl refl) refl

  sck_part : (f : Figure) (serial xs : List ℕ) (level : Bool) → Moves (sck_to f serial xs s level)
  unfolding sck_rise sck_fall
  sck_part f serial xs true = choose Moves s.sck refl (choose Moves (hold_high s.hold) refl refl)
  sck_part f serial xs false = choose Moves s.sck (choose Same (hold_high s.hold) refl refl) refl

  hold_part : (level : Bool) → Steps (hold_to s level)
  unfolding hold_fall hold_rise
  hold_part true = choose Steps (hold_high s.hold) refl (choose Steps s.sck refl (choose Steps (cs_stayed s) refl refl))
  hold_part false = choose Steps (hold_high s.hold) (choose Steps s.sck refl refl) refl

  vdd_part : (level : Bool) → Moves (vdd_to s level)
  vdd_part true = refl
  vdd_part false = refl

  live_part : (f : Figure) (serial xs : List ℕ) (pin : ℕ) (level : Bool) → Steps (live f serial xs s pin level)
  unfolding live
  live_part f serial xs pin level =
      choose Steps (eqb pin 0) (cs_part f level)
      (choose Steps (eqb pin 1) (sck_part f serial xs level)
      (choose Steps (eqb pin 2) refl
      (choose Steps (eqb pin 3) (hold_part level)
      (choose Steps (eqb pin 4) refl
      (vdd_part level)))))

  pub event_part : (serial xs : List ℕ) (code : ℕ) → (event serial xs s code).state.part ≡ s.part
  unfolding event step
  event_part serial xs code =
      go (checks s (length xs) (length serial) code) (step (figure_of s.part) serial xs s code)
      (choose Steps s.power (live_part (figure_of s.part) serial xs (code / 2) (eqb (code % 2) 1)) (choose Moves (eqb code 11) refl refl))
    where
      go : (given : Option Refusal) (t : Result Moved Refusal) → Steps t → Same (answer_of s (unless_refused given t)).state
      go None (Ok m) kept = kept
      go None (Err why) kept = refl
      go (Some why) t kept = refl

module _ (c : Chip) (code : ℕ) where
  pub next_part : (next c code).state.part ≡ c.state.part
  unfolding next
  next_part = event_part c.state c.serial c.array code

  pub next_length : length (next c code).array ≡ length c.array
  unfolding next
  next_length = written_length (event c.serial c.array c.state code).note c.array

  pub next_sound : sound c.state ≡ true → sound (next c code).state ≡ true
  unfolding next
  next_sound h = event_sound c.state h c.serial c.array code

pub run_part : (c : Chip) (codes : List ℕ) → (run c codes).state.part ≡ c.state.part
unfolding run
run_part c [] = refl
run_part c (code ∷ codes) = run_part (next c code) codes ∙ next_part c code

pub run_length : (c : Chip) (codes : List ℕ) → length (run c codes).array ≡ length c.array
unfolding run
run_length c [] = refl
run_length c (code ∷ codes) = run_length (next c code) codes ∙ next_length c code

pub run_serial : (c : Chip) (codes : List ℕ) → (run c codes).serial ≡ c.serial
unfolding run next
run_serial c [] = refl
run_serial c (code ∷ codes) = run_serial (next c code) codes

pub run_sound : (c : Chip) (codes : List ℕ) → sound c.state ≡ true → sound (run c codes).state ≡ true
unfolding run
run_sound c [] h = h
run_sound c (code ∷ codes) h = run_sound (next c code) codes (next_sound c code h)
