-- What a power cut leaves (demand 3): the theorem. What it says is in Wire, Transfers, Bytes and History, which read the
-- list of events alone, and in the chip's Run, which runs its own definition over it. How it is proved is in Laws.
-- Assumes nothing.
use Rattle.std.specs.Prelude.{ℕ, true, false, ◌≡◌, length, take, None}
use mathlib.Core.List.{List, [], ◌∷◌, ◌++◌}
use Rattle.std.proofs.Common.{sym, ◌∙◌}
use Rattle.std.proofs.Math.Path.{ap}
use Rattle.parts.specs.FigureLaws.{fair}
use Rattle.parts.specs.Figures.{fits_serial}
use Rattle.pins.specs.declared.state.State.{State}
use Rattle.chip.specs.Event.{event}
use Rattle.supply.specs.Power.{power_up}
use Rattle.chip.specs.Run.{Chip, from_power_up, powered_up, run}
use Rattle.chip.proofs.RunLaws.{run_serial}
use Rattle.supply.specs.PowerLaws.{power_one, power_masked, power_fits, power_state}
use Rattle.history.specs.History.{World, history}
use Rattle.history.specs.Wire.{rest, refusal, after_all}
use Rattle.history.specs.Run.{world_of}
use Rattle.history.proofs.Laws.Moments.{Reached, reached_from, world_told, run_append, cut_leaves, refusal_as}
use Rattle.history.proofs.Laws.Place.{outside}
use Rattle.history.proofs.Laws.Step.{unlatched}

module _
    (part kept : ℕ) (array serial codes : List ℕ) (accepted : (power_up part kept array).refusal ≡ None)
    (numbered : fits_serial part (length serial) ≡ true)
  where
    starts : from_power_up part kept array serial ≡ powered_up part kept array serial
    starts = ap (λ (s : State). record { state = s; array = array; serial = serial }) (power_state part kept array accepted)

    ran : List ℕ → Chip
    ran sent = run (powered_up part kept array serial) sent

    own : (sent : List ℕ) → (ran sent).serial ≡ serial
    unfolding ran
    own sent = run_serial (powered_up part kept array serial) sent

    reached : (sent : List ℕ) → Reached part (rest true) (outside false) (unlatched kept array) (powered_up part kept array serial) sent
    reached =
        reached_from part kept array serial (power_one part kept array accepted) (power_masked part kept array accepted) (power_fits part kept array accepted)
        numbered

    moment : (sent : List ℕ) → world_of (run (from_power_up part kept array serial) sent) ≡ history part kept array sent
    moment sent = ap (λ (c : Chip). world_of (run c sent)) starts ∙ world_told part kept array serial sent (reached sent)

    -- At every moment, with power on or off, the latch, the kept bits and the array are the history's.
    pub every_moment : world_of (run (from_power_up part kept array serial) codes) ≡ history part kept array codes
    every_moment = moment codes

    -- "Take any list of events from power-up, over one array that nobody else changes, and cut the supply before the first or
    --  after any of them; refused events count as never sent. When power returns, the array and the kept protection bits are
    --  exactly what the history allows .. The latch is off and nothing more of the cut transfer lives on."
    -- Event 10 cuts the supply after the first n events, event 11 returns it: the state is then the power-up state, whole.
    pub power_cut :
        (n : ℕ)
        → run (from_power_up part kept array serial) (take n codes ++ 10 ∷ 11 ∷ [])
        ≡ powered_up part (history part kept array (take n codes)).kept (history part kept array (take n codes)).array serial
    unfolding ran
    power_cut n =
        ap (λ (c : Chip). run c (take n codes ++ 10 ∷ 11 ∷ [])) starts
        ∙ run_append (powered_up part kept array serial) (take n codes) (10 ∷ 11 ∷ [])
        ∙ cut_leaves part (fair part (power_one part kept array accepted)) (reached (take n codes)).moment
        ∙ ap (λ (bytes : List ℕ). powered_up part (ran (take n codes)).state.kept (ran (take n codes)).array bytes) (own (take n codes))
        ∙ ap (λ (w : World). powered_up part w.kept w.array serial) (world_told part kept array serial (take n codes) (reached (take n codes)))

    -- "refused events count as never sent": the history refuses, from the lines alone, exactly what the chip refuses, moment by
    -- moment and by the same number.
    pub refused_alike :
        (code : ℕ)
        → (event serial (run (from_power_up part kept array serial) codes).array (run (from_power_up part kept array serial) codes).state code).refusal
        ≡ refusal (after_all (rest true) codes) code
    unfolding ran
    refused_alike code =
        ap (λ (c : Chip). (event serial (run c codes).array (run c codes).state code).refusal) starts
        ∙ ap (λ (bytes : List ℕ). (event bytes (ran codes).array (ran codes).state code).refusal) (sym (own codes))
        ∙ refusal_as part (fair part (power_one part kept array accepted)) (reached codes).moment code
