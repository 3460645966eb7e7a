-- A counted event, at a moment of a run: the answer is the event's own, and the rows of the open transfer grow by the row that it adds.
-- Assumes nothing.
use Prim.Native.Nat.{ℕ, ◌<◌}
use Rattle.std.proofs.Common.{arith, ◌∙◌, eq-eqb, ne_eqb}
use Rattle.std.specs.Prelude.{true, ◌≡◌, length, None}
use Rattle.std.proofs.Math.Bool.{false}
use mathlib.Core.List.{List, [], ◌∷◌, ◌++◌}
use Rattle.std.proofs.Math.Path.{sym, ap}
use Rattle.std.proofs.Math.Dec.{eqb}
use Rattle.parts.specs.FigureLaws.{Fair}
use Rattle.parts.specs.Figures.{figure_of, fits_serial}
use Rattle.stages.specs.Last.{last_of}
use Rattle.chip.specs.Event.{event}
use Rattle.chip.specs.Run.{Chip, answered, next, run}
use Rattle.chip.specs.declared.event.Answer.{Answer}
use Rattle.wear.specs.Count.{cycled, add_all, row_count, count_refusal, counters_after}
use Rattle.wear.proofs.CountLaws.{adds_length, count_accepts}
use Rattle.wear.specs.Run.{Worn, worn, count_one, count_run}
use Rattle.history.specs.History.{World}
use Rattle.history.specs.Rows.{cycles}
use Rattle.history.specs.Wire.{Wire, after_one, act, acts}
use Rattle.history.proofs.Laws.Edges.{last_mark, last_none}
use Rattle.history.proofs.Laws.Moments.{Moment, own_part, moment_next}
use Rattle.history.proofs.Laws.Place.{Place, place_after, base}
use Rattle.history.proofs.Laws.Worn.{touched_at, rows_at, rows_from, rows_now, finished, rows_next, Turned, ended, went, agrees_last, agrees_turns, place_below}
use Rattle.wear_history.specs.Laws.Changes.{grows_rows}
use Rattle.wear_history.specs.Laws.Counters.{add_append}

module _ (part : ℕ) (fair : Fair (figure_of part)) (rowed : 0 < (figure_of part).row) where
  size_some : 0 < (figure_of part).size
  size_some = rw fair.pages (omega arith)

  module _ {l : Wire} {p : Place} {w : World} {c : Chip} (m : Moment part l p w c) where
    same : c.state.part ≡ part
    same = own_part m.agrees

    -- nothing is refused of the state and what is lent with it
    passes : (counters : List ℕ) → length counters ≡ row_count (figure_of part)
        → count_refusal c.state (length c.array) (length c.serial) (length counters) ≡ None
    unfolding count_refusal
    passes counters sized = rw (m.good, rows, fits, takes, lent)
      where
        rows : eqb (figure_of c.state.part).row 0 ≡ false
        rows = rw same (ne_eqb (figure_of part).row 0 (λ e. omega (arith, rowed, e)))

        fits : eqb (length c.array) (figure_of c.state.part).size ≡ true
        fits = rw same (eq-eqb _ _ m.fits)

        takes : fits_serial c.state.part (length c.serial) ≡ true
        takes = rw same m.takes

        lent : eqb (length counters) (row_count (figure_of c.state.part)) ≡ true
        lent = rw same (eq-eqb _ _ sized)

    pub one_counted : (counters : List ℕ) (code : ℕ) → length counters ≡ row_count (figure_of part)
        → count_one (worn c counters) code
        ≡ worn (next c code) (add_all counters (cycled (figure_of part).row (last_of c.state.stage) (last_of (next c code).state.stage)))
    unfolding count_one counters_after next
    one_counted counters code sized =
        ap (λ (a : Answer). by c.state.part a) (count_accepts c.serial c.array counters c.state code (passes counters sized))
        ∙ ap (λ (k : ℕ). by k (event c.serial c.array c.state code)) same
      where
        by : ℕ → Answer → Worn
        by k a = worn (answered c a) (add_all counters (cycled (figure_of k).row (last_of c.state.stage) (last_of a.state.stage)))

    -- the rows of the transfer that the event ends, if it does, and of the one that is then open
    pub turned_rows :
        (code : ℕ) (n : Moment part (after_one l code) (place_after (figure_of part) p (act l code)) (base (figure_of part) w p (act l code)) (next c code))
        → finished (figure_of part) w p (act l code)
        ++ rows_at (figure_of part) (base (figure_of part) w p (act l code)) (place_after (figure_of part) p (act l code))
        ≡ rows_at (figure_of part) w p ++ cycled (figure_of part).row (last_of c.state.stage) (last_of (next c code).state.stage)
    unfolding cycles
    turned_rows code n = rw (agrees_last m.agrees, agrees_last n.agrees) (go (agrees_turns m.agrees (act l code)))
      where
        then : List ℕ
        then = touched_at (figure_of part) (base (figure_of part) w p (act l code)) (place_after (figure_of part) p (act l code))

        go : Turned (figure_of part) w p (act l code)
            → finished (figure_of part) w p (act l code) ++ cycles (figure_of part).row then
            ≡ rows_at (figure_of part) w p ++ cycled (figure_of part).row (last_mark (touched_at (figure_of part) w p)) (last_mark then)
        go (ended q z) = rw (q, z, last_none)
        go (went q g) =
            rw q (grows_rows (figure_of part).row (figure_of part).size fair.short
            (place_below (figure_of part) size_some (base (figure_of part) w p (act l code)) (place_after (figure_of part) p (act l code))) g)

  -- the counters after a run are the history's rows added up, and the chip is the run's
  pub counts :
      {l : Wire} {p : Place} {w : World} {c : Chip} → Moment part l p w c → (before counters : List ℕ) → length counters ≡ row_count (figure_of part)
      → counters ≡ add_all before (rows_at (figure_of part) w p) → (codes : List ℕ)
      → count_run (worn c counters) codes ≡ worn (run c codes) (add_all before (rows_from (figure_of part) w p (acts l codes)))
  unfolding count_run run acts
  counts {p = p} {w = w} {c = c} m before counters sized told [] =
      ap (worn c) (told ∙ ap (add_all before) (sym (rows_now (figure_of part) w p)))
  counts {l = l} {p = p} {w = w} {c = c} m before counters sized told (code ∷ codes) =
      let n = moment_next part fair m code in
      let f = figure_of part in
      let a = act l code in
      let more = cycled f.row (last_of c.state.stage) (last_of (next c code).state.stage) in
      ap (λ (v : Worn). count_run v codes) (one_counted m counters code sized)
      ∙ counts {l = after_one l code} {p = place_after f p a} {w = base f w p a} {c = next c code}
      n (add_all before (finished f w p a)) (add_all counters more) (adds_length more counters ∙ sized)
      (ap (λ (cs : List ℕ). add_all cs more) told ∙ sym (add_append before (rows_at f w p) more) ∙ ap (add_all before) (sym (turned_rows m code n))
      ∙ add_append before (finished f w p a) (rows_at f (base f w p a) (place_after f p a)))
      codes
      ∙ ap (worn (run (next c code) codes))
      (sym (add_append before (finished f w p a) (rows_from f (base f w p a) (place_after f p a) (acts (after_one l code) codes)))
      ∙ ap (add_all before) (sym (rows_next f w p a (acts (after_one l code) codes))))
