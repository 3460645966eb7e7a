-- Pulses of SCK on the bench, one after the other (document 02, Wish 7). Assumes nothing.
use Rattle.std.specs.Prelude.{ℕ, None, ◌≡◌, List, []}
use Rattle.trace.specs.Items.{run_events}
use Rattle.turns.specs.Bench.{Bench, after_events}
use Rattle.turns.specs.declared.stand.Stand.{Stand}
use Rattle.pulses.specs.declared.sums.Skipped.{Skipped}

-- "pulses of SCK, up then down, SI untouched": the bench after so many
unfoldable pub pulsed : ℕ → Bench → Bench
pulsed n b = after_events b (run_events n)

-- a bench that runs on, with no text since
abbrev pub standing : Stand → List ℕ → List ℕ → Bench
standing stand array shown = record { refusal = None; stand = stand; array = array; shown = shown; text = [] }

abbrev pub skipped : Stand → ℕ → Skipped
skipped stand left = record { stand = stand; left = left }

-- what is left after a skip comes to the same: the pulses that are left, from what stands then, lead where all of them lead from
-- what stood before; whatever bytes of SO were shown
abbrev pub Skips : Stand → List ℕ → ℕ → Skipped → List ℕ → Type 0
Skips stand xs pulses r ys =
    (os : List ℕ) → pulsed r.left (standing r.stand ys os) ≡ pulsed pulses (standing stand xs os)
