-- The soundness test passes the state of each accepted event. Assumes nothing.
use Rattle.std.specs.Prelude.{ℕ, ◌≡◌, true, List, length, Option, Some, None, Result, Ok, Err}
use Rattle.parts.specs.Figures.{figure_of}
use Rattle.pins.specs.Sound.{sound}
use Rattle.pins.specs.declared.state.State.{State}
use Rattle.pins.specs.declared.state.Moved.{Moved}
use Rattle.pins.specs.SoundLaws.{Sound}
use Rattle.refusals.specs.declared.refusal.Refusal.{Refusal}
use Rattle.step.specs.Step.{step}
use Rattle.step.specs.SoundLaws.{Answers, step_sound}
use Rattle.chip.specs.Event.{answer_of, unless_refused, checks, event}
use Rattle.chip.proofs.EventLaws.{checks_passed, accepted_passed}

module _ (s : State) (h : sound s ≡ true) where
  -- accepted or refused, an event leads from a sound state to a sound one
  pub event_sound : (serial xs : List ℕ) (code : ℕ) → Sound (event serial xs s code).state
  unfolding event
  event_sound serial xs code =
      go (checks s (length xs) (length serial) code) (step (figure_of s.part) serial xs s code) (step_sound s h serial xs code)
    where
      go : (given : Option Refusal) (t : Result Moved Refusal) → Answers s t → Sound (answer_of s (unless_refused given t)).state
      go None (Ok m) good = good
      go None (Err why) good = h
      go (Some why) t good = h

-- "It passes the state of each accepted call": an accepted event passed check 4, so nothing is asked of the state given
pub accepted_sound : (serial xs : List ℕ) (s : State) (code : ℕ) → (event serial xs s code).refusal ≡ None → sound (event serial xs s code).state ≡ true
accepted_sound serial xs s code fine =
    event_sound s (checks_passed s (length xs) (length serial) code (accepted_passed serial xs s code fine)).0.0 serial xs code
