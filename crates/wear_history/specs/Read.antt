-- What one READ adds to the counters (document 02, Wish 9), over arrays that may be others from call to call and any counters. Assumes
-- nothing.
use Rattle.std.specs.Prelude.{ℕ, ◌+◌, ◌*◌, ◌-◌, ◌/◌, ◌<◌, ◌≤◌, Bool, true, false, ◌||◌, ◌≡◌, eqb, length, sum}
use Rattle.std.proofs.Common.{arith, ◌∙◌, eq-eqb}
use mathlib.Core.List.{List, [], ◌∷◌, map}
use Rattle.std.proofs.Math.Path.{refl, sym, ap, subst}
use Rattle.std.proofs.Math.ListN.{length-replicate, replicate}
use Rattle.parts.specs.FigureLaws.{Fair, fair, Rowed, unrowed, rowed}
use Rattle.parts.specs.Figures.{figure_of, fits_serial, in_mask, is_part}
use Rattle.parts.specs.declared.figures.Figure.{Figure}
use Rattle.stages.specs.Last.{last_of}
use Rattle.stages.specs.Sound.{sound_stage}
use Rattle.stages.specs.Wp.{is_up}
use Rattle.stages.specs.declared.stage.Line.{Line}
use Rattle.stages.specs.declared.stage.Stage.TheVariants.{Closed}
use Rattle.pins.specs.Sound.{sound}
use Rattle.pins.specs.Levels.{hold_high, cs_from, cs_level}
use Rattle.pins.specs.declared.hold.Hold.{Hold}
use Rattle.pins.specs.declared.hold.Hold.TheVariants.{High, LowCsLow, LowCsHigh}
use Rattle.pins.specs.declared.state.State.{State}
use Rattle.chip.specs.Run.{Chip, next}
use Rattle.wear.specs.Count.{cycled, add_all, row_count, counted, counters_after}
use Rattle.wear.proofs.CountLaws.{adds_length}
use Rattle.wear.specs.Run.{Worn, count_one}
use Rattle.history.specs.Wire.{Wire, after_one, act, acts}
use Rattle.history.specs.Transfers.{Transfer, transfer, spans}
use Rattle.history.specs.Bytes.{shows}
use Rattle.history.specs.History.{World, reading}
use Rattle.history.specs.Rows.{falls_past, begun, places, cycles}
use Rattle.history.proofs.Laws.Moments.{Moment, moment_next}
use Rattle.history.proofs.Laws.Place.{Place, outside, place_after, base}
use Rattle.history.proofs.Laws.Select.{closed}
use Rattle.history.proofs.Laws.Step.{on, wire_of, chip_of}
use Rattle.history.proofs.Laws.Worn.{touched_at, rows_at, rows_from, rows_now, finished, rows_next, places_below}
use Rattle.wear_history.specs.Formula.{formula}
use Rattle.wear_history.specs.Laws.Counters.{sum_all, add_append}
use Rattle.wear_history.specs.Totals.{NoneFull}
use Rattle.wear_history.specs.Laws.Lent.{Reads, soon, lent, over, reads_rows, reads_next, moment_lent, rows_lent}
use Rattle.wear_history.specs.Laws.Moments.{one_counted, turned_rows}
use Rattle.wear_history.specs.Sum.{count_of, cycles_below}

-- a counted event, with the array and the serial number that are lent to it
pub record Call : Type 0 where
  pub code : ℕ
  pub array : List ℕ
  pub serial : List ℕ

abbrev pub codes : List Call → List ℕ
codes calls = map (λ call. call.code) calls

-- each array and each serial number has a length that the part takes; a call that lends another is refused with 2 or 15 and changes
-- nothing
abbrev pub Fits : ℕ → List Call → Type 0
Fits part [] = Unit {0}
Fits part (call ∷ calls) = ((length call.array ≡ (figure_of part).size) × (fits_serial part (length call.serial) ≡ true)) × Fits part calls

-- the counters after such events, from a state; nobody else changes them
unfoldable pub count_over : State → List ℕ → List Call → List ℕ
count_over s counters [] = counters
count_over s counters (call ∷ calls) =
    count_over (counted call.serial call.array counters s call.code).state (counters_after call.serial call.array counters s call.code) calls

module _ (part : ℕ) (fine : Fair (figure_of part)) (some : 0 < (figure_of part).row) where
  over_counts :
      {l : Wire} {p : Place} {w : World} {c : Chip} → Moment part l p w c → (before counters : List ℕ) → length counters ≡ row_count (figure_of part)
      → counters ≡ add_all before (rows_at (figure_of part) w p) → (calls : List Call) → Fits part calls → Reads (figure_of part) (acts l (codes calls)) p
      → count_over c.state counters calls ≡ add_all before (rows_from (figure_of part) w p (acts l (codes calls)))
  unfolding count_over count_one acts
  over_counts {p = p} {w = w} m before counters sized told [] fits k = told ∙ ap (add_all before) (sym (rows_now (figure_of part) w p))
  over_counts {l = l} {p = p} {w = w} {c = c} m before counters sized told (call ∷ calls) fits k =
      let f = figure_of part in
      let u = lent w call.array in
      let d = over c call.serial call.array in
      let q = moment_lent k m call.serial call.array fits.0.0 fits.0.1 in
      let a = act l call.code in
      let later = acts (after_one l call.code) (codes calls) in
      let n = moment_next part fine q call.code in
      let more = cycled f.row (last_of d.state.stage) (last_of (next d call.code).state.stage) in
      ap (λ (v : Worn). count_over v.chip.state v.counters calls) (one_counted part fine some q counters call.code sized)
      ∙ over_counts {l = after_one l call.code} {p = place_after f p a} {w = base f u p a} {c = next d call.code}
      n (add_all before (finished f u p a)) (add_all counters more) (adds_length more counters ∙ sized)
      (ap (λ (cs : List ℕ). add_all cs more) (told ∙ ap (add_all before) (sym (rows_lent k m call.array)))
      ∙ sym (add_append before (rows_at f u p) more) ∙ ap (add_all before) (sym (turned_rows part fine some q call.code n))
      ∙ add_append before (finished f u p a) (rows_at f (base f u p a) (place_after f p a)))
      calls fits.1 (reads_next f a later k)
      ∙ sym (add_append before (finished f u p a) (rows_from f (base f u p a) (place_after f p a) later))
      ∙ ap (add_all before) (sym (rows_next f u p a later) ∙ reads_rows f u k ∙ sym (reads_rows f w k))

-- the lines of a state with no select open, as the history has them
lines_are :
    (sck : Bool) (si wp : Line) (hold : Hold)
    → wire_of sck si wp hold true
    ≡ record { power = true; cs = cs_from hold Closed; sck = sck; si = is_up si; hold = hold_high hold; wp = is_up wp; seen = true }
lines_are sck si wp High = refl
lines_are sck si wp LowCsLow = refl
lines_are sck si wp LowCsHigh = refl

either : (t : Bool) → (t || true) ≡ true
either true = refl
either false = refl

-- so many rows, at least two
module _ (f : Figure) (some : 0 < f.row) (start n : ℕ) (least : 1 ≤ n) where
  read_rows : Rowed f.size f.row → length (cycles f.row (places f.size start n)) ≡ (start + n - 1) / f.row - start / f.row + 1
  read_rows (unrowed none) = absurd (omega (arith, none, some))
  read_rows (rowed count two here whole) = rw whole (formula count f.row two some start n least)

module _
    (part kept : ℕ) (one : is_part part ≡ true) (masked : in_mask part kept ≡ true) (some : 0 < (figure_of part).row)
    (latch sck : Bool) (si wp : Line) (hold : Hold)
  where
    -- any state with power on, the chip awake and no select open, and the lines that it has
    abbrev pub idle : State
    idle =
        record { part = part; kept = kept; power = true; sck = sck; si = si; wp = wp; latch = latch; hold = hold; stage = Closed }

    abbrev pub lines : Wire
    lines =
        record { power = true; cs = cs_level idle; sck = sck; si = is_up si; hold = hold_high hold; wp = is_up wp; seen = true }

    module _ (calls : List Call) (fits : Fits part calls) (counters : List ℕ) (sized : length counters ≡ row_count (figure_of part)) where
      -- an array and a serial number, as if lent before the first event
      first : Chip
      first =
          chip_of part (replicate (figure_of part).serial 0)
          (record { latch = latch; kept = kept; array = replicate (figure_of part).size 0 }) sck si wp hold Closed

      begins : Moment part lines (outside false) (record { latch = latch; kept = kept; array = replicate (figure_of part).size 0 }) first
      unfolding first sound sound_stage
      begins =
          let f = figure_of part in
          let world : World = record { latch = latch; kept = kept; array = replicate f.size 0 } in
          subst (λ (l : Wire). Moment part l (outside false) world first) (lines_are sck si wp hold)
          (record {
            agrees = on _ (outside false) _ _ sck si wp hold Closed (closed false);
            good = rw (one, masked);
            fits = length-replicate {A = ℕ} f.size 0;
            takes = rw (eq-eqb _ _ (length-replicate {A = ℕ} f.serial 0)) (either (eqb f.serial 0));
          })

      -- "With all its events counted, counters that nobody else changes and none full after it, a READ that drives the first bit of n bytes
      --  from address a on, n at least 1, with rows of r bytes adds floor((a+n-1)/r) - floor(a/r) + 1, rollover included."
      -- The history sees one READ or FSTRD, whatever else is sent with it: clocks, holds, moves of SI and /WP, refused events.
      pub read_adds :
          (fell : Bool) (t : Transfer) (a header n : ℕ) → spans (acts lines (codes calls)) ≡ transfer fell t ∷ []
          → reading (figure_of part) fell t ≡ shows a header → begun (falls_past (header * 8) t.edges) ≡ n → 1 ≤ n
          → NoneFull (count_over idle counters calls)
          → sum (count_over idle counters calls) ≡ sum counters + ((a + n - 1) / (figure_of part).row - a / (figure_of part).row + 1)
      unfolding first touched_at add_all cycles
      read_adds fell t a header n seen reads driven least none =
          let f = figure_of part in
          let fine = fair part one in
          let k = soon fell t a header seen reads in
          let rows = cycles f.row (places f.size a n) in
          let told : count_over idle counters calls ≡ add_all counters rows =
          over_counts part fine some begins counters counters sized refl calls fits k
          ∙ ap (add_all counters) (reads_rows f _ k ∙ ap (λ (j : ℕ). cycles f.row (places f.size a j)) driven) in
          let by = count_of f fine.rows some in
          let here : 0 < f.size = rw fine.pages (omega arith) in
          ap sum told
          ∙ sum_all counters rows (rw (sized ∙ by.1.1) (cycles_below f by.0 some by.1.0 (places f.size a n) (places_below f here a n))) (rw told at none)
          ∙ ap (λ (j : ℕ). sum counters + j) (read_rows f some a n least fine.rows)
