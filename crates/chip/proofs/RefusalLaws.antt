-- "Any other refusal returns its number with the state given; SO reads released, the note is nothing. Lent memory stays at
-- every refusal." So an event's answer, where it has a refusal, is that one. Assumes nothing.
use Rattle.std.specs.Prelude.{ℕ, ◌≡◌, refl, false, List, Result, Ok, Err, is_none}
use Rattle.std.proofs.Math.Path.{ap}
use Rattle.parts.specs.Figures.{figure_of}
use Rattle.select.specs.declared.notes.Level.TheVariants.{Released}
use Rattle.select.specs.declared.notes.Note.TheVariants.{Nothing}
use Rattle.pins.specs.declared.state.State.{State}
use Rattle.pins.specs.declared.state.Moved.{Moved}
use Rattle.refusals.specs.declared.refusal.Refusal.{Refusal}
use Rattle.step.specs.Step.{written}
use Rattle.chip.specs.Event.{answer_of, tried, event}
use Rattle.chip.specs.declared.event.Answer.{Answer}

module _ (s : State) where
  answer_told :
      (t : Result Moved Refusal) → is_none (answer_of s t).refusal ≡ false
      → answer_of s t ≡ record { refusal = (answer_of s t).refusal; so = Released; note = Nothing; state = s }
  answer_told (Ok m) h = cc
  answer_told (Err why) h = refl

  pub refusal_told :
      (serial xs : List ℕ) (code : ℕ) → is_none (event serial xs s code).refusal ≡ false
      → event serial xs s code ≡ record { refusal = (event serial xs s code).refusal; so = Released; note = Nothing; state = s }
  unfolding event
  refusal_told serial xs code h = answer_told (tried (figure_of s.part) serial xs s code) h

  pub refusal_stays :
      (serial xs : List ℕ) (code : ℕ) → is_none (event serial xs s code).refusal ≡ false → written (event serial xs s code).note xs ≡ xs
  unfolding written
  refusal_stays serial xs code h = ap (λ (a : Answer). written a.note xs) (refusal_told serial xs code h)
