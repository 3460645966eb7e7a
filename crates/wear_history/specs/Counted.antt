-- Row cycles (document 02, Wish 9): the counters are the history's rows added up, and their sum is the history's count. What it says is in
-- the history's Rows, which reads the list of events alone, and in wear's Count and Run. Assumes nothing.
use Rattle.std.specs.Prelude.{ℕ, ◌<◌, true, List, ◌≡◌, length, None}
use Rattle.std.proofs.Math.Path.{refl, ap}
use Rattle.std.proofs.Common.{sym, ◌∙◌}
use Rattle.parts.specs.FigureLaws.{fair}
use Rattle.parts.specs.Figures.{figure_of, fits_serial}
use Rattle.pins.specs.declared.state.State.{State}
use Rattle.supply.specs.Power.{power_up}
use Rattle.supply.specs.PowerLaws.{power_one, power_masked, power_fits, power_state}
use Rattle.chip.specs.Run.{Chip, from_power_up, powered_up, run}
use Rattle.wear.specs.Count.{add_all, row_count}
use Rattle.wear.specs.Run.{worn, count_run}
use Rattle.history.specs.Rows.{row_history, cycles}
use Rattle.history.proofs.Laws.Moments.{started}
use Rattle.history.proofs.Laws.Worn.{touched_at, rows_from}
use Rattle.wear_history.specs.Laws.Moments.{counts}

module _
    (part kept : ℕ) (array serial counters codes : List ℕ) (accepted : (power_up part kept array).refusal ≡ None)
    (numbered : fits_serial part (length serial) ≡ true) (rowed : 0 < (figure_of part).row) (sized : length counters ≡ row_count (figure_of part))
  where
    starts : from_power_up part kept array serial ≡ powered_up part kept array serial
    starts = ap (λ (s : State). record { state = s; array = array; serial = serial }) (power_state part kept array accepted)

    -- From power-up, all events counted, over slices that nobody else changes: state and array are those of the plain run, and each
    -- counter is the one lent, with one more for each time that the history names its row. A full counter stays full.
    pub counters_told :
        count_run (worn (from_power_up part kept array serial) counters) codes
        ≡ worn (run (from_power_up part kept array serial) codes) (add_all counters (row_history part kept array codes))
    unfolding row_history rows_from touched_at add_all cycles
    counters_told =
        let one = power_one part kept array accepted in
        ap (λ (c : Chip). count_run (worn c counters) codes) starts
        ∙ counts part (fair part one) rowed
        (started part kept array serial one (power_masked part kept array accepted) (power_fits part kept array accepted) numbered) counters counters sized refl codes
        ∙ ap (λ (c : Chip). worn (run c codes) (add_all counters (row_history part kept array codes))) (sym starts)
