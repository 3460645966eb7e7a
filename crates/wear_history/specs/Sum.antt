-- The sum of all counters (document 02, Wish 9). Assumes nothing.
use Rattle.std.specs.Prelude.{ℕ, ◌+◌, ◌*◌, ◌/◌, ◌<◌, Bool, cond, ◌≡◌, eqb, replicate, sum, None}
use Rattle.std.proofs.Math.Nat.{zero-add, div-eq_of_eq-mul_left}
use Rattle.std.proofs.Common.{div-lt_iff_lt-mul, ◌∙◌, arith}
use Rattle.std.proofs.Math.Bool.{true, false}
use mathlib.Core.List.{List, [], ◌∷◌}
use Rattle.std.proofs.Math.Path.{ap}
use Rattle.std.proofs.Math.ListN.{length, length-replicate}
use Rattle.std.proofs.lemmas.List.Folds.{sum_by-replicate}
use Rattle.parts.specs.FigureLaws.{fair, Rowed, unrowed, rowed}
use Rattle.parts.specs.Figures.{figure_of, fits_serial}
use Rattle.parts.specs.declared.figures.Figure.{Figure}
use Rattle.supply.specs.Power.{power_up}
use Rattle.supply.specs.PowerLaws.{power_one}
use Rattle.chip.specs.Run.{from_power_up}
use Rattle.wear.specs.Count.{row_count}
use Rattle.wear.specs.Run.{Worn, unworn, count_run}
use Rattle.history.specs.History.{World, reading, spanned}
use Rattle.history.specs.Rows.{changes, cycles, touched, span_rows, rows_of, row_history}
use Rattle.history.specs.Transfers.{Span, transfer, cut}
use Rattle.history.proofs.Laws.Worn.{AllBelow, below_append, touched_below}
use Rattle.wear_history.specs.Laws.Counters.{sum_all}
use Rattle.wear_history.specs.Totals.{NoneFull}
use Rattle.wear_history.specs.Counted.{counters_told}

-- every row that the history names is one of the array's
module _ (f : Figure) (count : ℕ) (some : 0 < f.row) (whole : f.size ≡ count * f.row) where
  row_below : (at : ℕ) → at < f.size → at / f.row < count
  row_below at h = (div-lt_iff_lt-mul some).1 (rw whole at h)

  changes_below : (row : ℕ) (xs : List ℕ) → AllBelow f.size xs → AllBelow count (changes f.row row xs)
  unfolding changes
  changes_below row [] p = tt
  changes_below row (at ∷ more) p = go (eqb row (at / f.row)) (changes_below row more p.1) (changes_below (at / f.row) more p.1)
    where
      go : (t : Bool) → AllBelow count (changes f.row row more) → AllBelow count (changes f.row (at / f.row) more)
          → AllBelow count (cond t (changes f.row row more) (at / f.row ∷ changes f.row (at / f.row) more))
      go true stays moves = stays
      go false stays moves = (row_below at p.0, moves)

  pub cycles_below : (xs : List ℕ) → AllBelow f.size xs → AllBelow count (cycles f.row xs)
  unfolding cycles
  cycles_below [] p = tt
  cycles_below (at ∷ more) p = (row_below at p.0, changes_below (at / f.row) more p.1)

  pub rows_below : 0 < f.size → (w : World) (spans : List Span) → AllBelow count (rows_of f w spans)
  unfolding rows_of
  rows_below here w [] = tt
  rows_below here w (transfer fell t ∷ more) =
      below_append count (span_rows f w (transfer fell t)) _ (cycles_below (touched f w t.edges (reading f fell t)) (touched_below f here w t.edges (reading f fell t)))
      (rows_below here (spanned f w (transfer fell t)) more)
  rows_below here w (cut ∷ more) = rows_below here (spanned f w cut) more

-- counters at 0
sum_zeros : (n : ℕ) → sum (replicate n 0) ≡ 0
sum_zeros n = omega (arith, sum_by-replicate (λ (k : ℕ). k) n 0)

-- as many rows as counters
pub count_of : (f : Figure) → Rowed f.size f.row → 0 < f.row → (count : ℕ) × ((f.size ≡ count * f.row) × (row_count f ≡ count))
count_of f (unrowed none) some = absurd (omega (arith, none, some))
count_of f (rowed count two here whole) some = (count, (whole, div-eq_of_eq-mul_left some whole))

module _
    (part kept : ℕ) (array serial codes : List ℕ) (accepted : (power_up part kept array).refusal ≡ None)
    (numbered : fits_serial part (length serial) ≡ true) (some : 0 < (figure_of part).row)
  where
    abbrev zeros : List ℕ
    zeros = replicate (row_count (figure_of part)) 0

    -- "From power-up and counters at 0, all events counted, over slices that nobody else changes and with no counter full at the end, the
    --  sum of all counters equals the count taken from the history."
    pub sum_told :
        NoneFull (count_run (unworn part (from_power_up part kept array serial)) codes).counters
        → sum (count_run (unworn part (from_power_up part kept array serial)) codes).counters ≡ length (row_history part kept array codes)
    unfolding row_history
    sum_told none =
        let f = figure_of part in
        let fine = fair part (power_one part kept array accepted) in
        let rows = row_history part kept array codes in
        let counted = count_of f fine.rows some in
        let lent : length zeros ≡ row_count f = length-replicate (row_count f) 0 in
        let told = ap (λ (v : Worn). v.counters) (counters_told part kept array serial zeros codes accepted numbered some lent) in
        let here : 0 < f.size = rw fine.pages (omega arith) in
        ap sum told
        ∙ sum_all zeros rows (rw (lent ∙ counted.1.1) (rows_below f counted.0 some counted.1.0 here _ _)) (rw told at none)
        ∙ ap (λ (k : ℕ). k + length rows) (sum_zeros (row_count f))
        ∙ zero-add (length rows)
