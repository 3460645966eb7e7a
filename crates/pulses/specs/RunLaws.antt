-- Pulses on the bench as a program has it: the events of one, and the loop over them. Assumes nothing.
use Rattle.std.specs.Prelude.{◌≡◌, refl, Bool, false, cond, List, [], ◌∷◌, ℕ, zero, suc, ◌-◌, ◌≤◌, Option, None, is_none}
use Rattle.std.proofs.Common.{sym, ap, ◌∙◌, arith, lit<}
use Rattle.std.specs.Borrow.{MutBor}
use Rattle.refusals.specs.declared.refusal.Refusal.{Refusal}
use Rattle.trace.specs.Items.{run_events}
use Rattle.turns.specs.Bench.{Bench, after_event, after_events, desk_of, on_page, bench_of}
use Rattle.turns.specs.DeskLaws.{tells_events, desk_is, carry}
use Rattle.turns.specs.EventLaws.{events_on, events_end}
use Rattle.report.specs.Prints.{page_in}
use Rattle.turns.specs.declared.stand.Stand.{Stand}
use Rattle.turns.specs.declared.turn.Bench.{Bench as Lent}
use Rattle.pulses.specs.Pulse.{pulsed, standing, Skips}
use Rattle.pulses.specs.declared.sums.Skipped.{Skipped}

-- what a refusal stopped stays as it is
pub pulse_stays : (n : ℕ) (y : Lent) → is_none y.refusal ≡ false → desk_of y ≡ on_page (page_in y.page.now) (pulsed n (bench_of y))
unfolding pulsed
pulse_stays n y h = events_end (run_events n) y h

-- SCK up, then down
module _ (y up : Lent) (on : y.refusal ≡ None) (one : desk_of up ≡ on_page (page_in y.page.now) (after_event (bench_of y) 3)) where
  goes_on_lem : on_page (page_in up.page.now) (after_events (bench_of up) (2 ∷ [])) ≡ on_page (page_in y.page.now) (pulsed 1 (bench_of y))
  unfolding pulsed
  goes_on_lem = events_on (3 ∷ 2 ∷ []) 0 2 3 y up refl (lit< tt) refl on one

  pub pulse_stops : is_none up.refusal ≡ false → desk_of up ≡ on_page (page_in y.page.now) (pulsed 1 (bench_of y))
  pulse_stops h = events_end (2 ∷ []) up h ∙ goes_on_lem

  pub pulse_ends : (z : Lent) → up.refusal ≡ None → desk_of z ≡ on_page (page_in up.page.now) (after_event (bench_of up) 2)
      → desk_of z ≡ on_page (page_in y.page.now) (pulsed 1 (bench_of y))
  pulse_ends z runs two =
      two
      ∙ ap (λ (v : Bool). on_page (page_in up.page.now) (cond v (after_event (bench_of up) 2) (bench_of up))) (sym (ap is_none runs))
      ∙ goes_on_lem

-- one pulse, and the others
one_more_lem : (n : ℕ) (b : Bench) → (n ≡ 0 → ⊥) → pulsed (n - 1) (pulsed 1 b) ≡ pulsed n b
unfolding pulsed
one_more_lem zero b h = absurd (h refl)
one_more_lem (suc n) b h = ap (λ (k : ℕ). pulsed k (pulsed 1 b)) (less n)
  where
    less : (n : ℕ) → suc n - 1 ≡ n
    less n = omega arith

pub pulses_on : (n : ℕ) (y z : Lent) → (n ≡ 0 → ⊥) → desk_of z ≡ on_page (page_in y.page.now) (pulsed 1 (bench_of y))
    → on_page (page_in z.page.now) (pulsed (n - 1) (bench_of z)) ≡ on_page (page_in y.page.now) (pulsed n (bench_of y))
unfolding pulsed
pulses_on n y z some one =
    carry (pulsed (n - 1)) (tells_events (run_events (n - 1))) z _ _ one ∙ ap (on_page (page_in y.page.now)) (one_more_lem n (bench_of y) some)

-- no pulse is left
pub pulses_none : (n : ℕ) (y : Lent) → n ≡ 0 → desk_of y ≡ on_page (page_in y.page.now) (pulsed n (bench_of y))
unfolding pulsed
pulses_none n y h = desk_is y ∙ ap (λ (k : ℕ). on_page (page_in y.page.now) (pulsed k (bench_of y))) (sym h)

pub pulses_over : (n : ℕ) (y : Lent) → n ≤ 0 → desk_of y ≡ on_page (page_in y.page.now) (pulsed n (bench_of y))
unfolding pulsed
pulses_over zero y h = desk_is y
pulses_over (suc n) y h = absurd (omega arith)

-- what a skip leaves
pub skips_on : (n : ℕ) (y : Lent) (r : Skipped) (array : MutBor (List ℕ)) → y.refusal ≡ None → Skips y.stand y.array.now n r array.now
    → on_page (page_in y.page.now) (pulsed r.left (bench_of (record y { stand = r.stand; array = array })))
    ≡ on_page (page_in y.page.now) (pulsed n (bench_of y))
skips_on n y r array on same = ap (on_page (page_in y.page.now)) (runs r.left r.stand array.now ∙ same y.shown ∙ sym (runs n y.stand y.array.now))
  where
    runs : (k : ℕ) (stand : Stand) (zs : List ℕ)
        → pulsed k (record { refusal = y.refusal; stand = stand; array = zs; shown = y.shown; text = [] }) ≡ pulsed k (standing stand zs y.shown)
    runs k stand zs = ap (λ (row : Option Refusal). pulsed k (record { refusal = row; stand = stand; array = zs; shown = y.shown; text = [] })) on
