-- What a bench takes for a seen rise is one: an accepted event is a step, of which crate `step` has it. Assumes nothing.
use Rattle.std.specs.Prelude.{ℕ, ◌≡◌, refl, List, None, Result, Ok, Err}
use Rattle.std.proofs.Common.{ap, ◌∙◌, sym}
use Rattle.parts.specs.Figures.{figure_of}
use Rattle.pins.specs.Watch.{sees_rise}
use Rattle.pins.specs.declared.state.State.{State}
use Rattle.pins.specs.declared.state.Moved.{Moved}
use Rattle.refusals.specs.declared.refusal.Refusal.{Refusal}
use Rattle.step.specs.Step.{state_after, step}
use Rattle.chip.specs.Event.{answer_of, event}
use Rattle.chip.specs.declared.event.Answer.{Answer}
use Rattle.chip.proofs.EventLaws.{accepted_steps}
use Rattle.step.specs.WatchLaws.{seen_rise, rise_exact}

lands : (s : State) (t : Result Moved Refusal) → state_after s t ≡ (answer_of s t).state
lands s (Ok m) = refl
lands s (Err why) = refl

pub event_exact :
    (serial xs : List ℕ) (s : State) (code : ℕ) → (event serial xs s code).refusal ≡ None
    → sees_rise s code ≡ seen_rise s (event serial xs s code).state
event_exact serial xs s code fine =
    rise_exact (figure_of s.part) serial xs s code
    ∙ ap (seen_rise s) (lands s (step (figure_of s.part) serial xs s code) ∙ sym (ap (λ (a : Answer). a.state) (accepted_steps serial xs s code fine)))
