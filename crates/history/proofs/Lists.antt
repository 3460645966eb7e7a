-- Demand 3 over lists: whatever lists a bench sends, what a power cut leaves is the history's over the events that were
-- accepted. Assumes nothing.
use Rattle.std.specs.Prelude.{ℕ, true, List, [], ◌∷◌, ◌++◌, ◌≡◌, refl, length, take, None}
use Rattle.std.proofs.Common.{sym, ap, ◌∙◌}
use Rattle.std.proofs.Math.Seq.{take-length}
use Rattle.parts.specs.Figures.{fits_serial}
use Rattle.chip.proofs.ListRuns.{listed_run}
use Rattle.supply.specs.Power.{power_up}
use Rattle.chip.specs.Run.{Chip, course_chip, from_power_up, powered_up, run}
use Rattle.history.specs.History.{history}
use Rattle.history.proofs.Laws.Moments.{run_append}
use Rattle.history.proofs.PowerCut.{every_moment, power_cut}
use Rattle.history.specs.Run.{world_of}
use Rattle.history.specs.Lists.{Sending, sending, sent, accepted_of}

pub sent_runs : (c : Chip) (ls : List Sending) → sent c ls ≡ run c (accepted_of c ls)
unfolding sent accepted_of run
sent_runs c [] = refl
sent_runs c (l ∷ ls) =
    sent_runs (course_chip c.serial (sending c l)) ls
    ∙ ap (λ (d : Chip). run d (accepted_of (course_chip c.serial (sending c l)) ls)) (listed_run c.serial c.array c.state l.codes l.levels)
    ∙ sym (run_append c (take (sending c l).count l.codes) (accepted_of (course_chip c.serial (sending c l)) ls))

module _
    (part kept : ℕ) (array serial : List ℕ) (ls : List Sending) (fine : (power_up part kept array).refusal ≡ None)
    (numbered : fits_serial part (length serial) ≡ true)
  where
    abbrev told : List ℕ
    told = accepted_of (from_power_up part kept array serial) ls

    -- at every moment between two calls
    pub lists_every_moment : world_of (sent (from_power_up part kept array serial) ls) ≡ history part kept array told
    lists_every_moment = ap world_of (sent_runs (from_power_up part kept array serial) ls) ∙ every_moment part kept array serial told fine numbered

    -- a cut after the last event that was accepted; one before it is that of a shorter list
    pub lists_power_cut :
        run (sent (from_power_up part kept array serial) ls) (10 ∷ 11 ∷ [])
        ≡ powered_up part (history part kept array told).kept (history part kept array told).array serial
    lists_power_cut =
        ap (λ (c : Chip). run c (10 ∷ 11 ∷ [])) (sent_runs (from_power_up part kept array serial) ls)
        ∙ sym (run_append (from_power_up part kept array serial) told (10 ∷ 11 ∷ []))
        ∙ ap (λ (codes : List ℕ). run (from_power_up part kept array serial) (codes ++ 10 ∷ 11 ∷ [])) (sym (take-length told))
        ∙ power_cut part kept array serial told fine numbered (length told)
        ∙ ap (λ (codes : List ℕ). powered_up part (history part kept array codes).kept (history part kept array codes).array serial) (take-length told)
