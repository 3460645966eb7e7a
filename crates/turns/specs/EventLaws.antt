-- An event on the bench by its answer, and events in a row: a refused event stores and tells nothing, and what a refusal
-- stopped stays as it is. Assumes nothing.
use Rattle.std.specs.Prelude.{◌≡◌, refl, Bool, true, false, cond, Option, Some, None, is_none, List, [], ◌∷◌, ℕ, zero, suc, ◌+◌, ◌<◌, ◌≤◌, length, get_or, drop}
use Rattle.std.proofs.Common.{sym, ap, ◌∙◌, add-one, arith, drop_of_length-le, drop-cons}
use Rattle.std.specs.Borrow.{MutBor}
use Rattle.parts.specs.Figures.{figure_of, fits_serial}
use Rattle.chip.specs.Answers.{paper}
use Rattle.step.specs.Step.{written}
use Rattle.chip.specs.Event.{event}
use Rattle.chip.specs.Outcomes.{paper_sole}
use Rattle.chip.proofs.RefusalLaws.{refusal_stays}
use Rattle.chip.specs.declared.event.Answer.{Answer}
use Rattle.refusals.specs.declared.refusal.Refusal.{Refusal}
use Rattle.turns.specs.Bench.{Bench, after_events, stopped, select_text, closing, replay_serial, after_event, desk_of, on_page, bench_of}
use Rattle.report.specs.Page.{Page, printed}
use Rattle.turns.specs.Stand.{closes, after, shown_by}
use Rattle.turns.specs.declared.stand.Stand.{Stand}
use Rattle.report.specs.Prints.{page_in}
use Rattle.report.specs.declared.page.Page.{Page as Sheet}
use Rattle.turns.specs.declared.turn.Bench.{Bench as Lent}
use Rattle.turns.specs.DeskLaws.{tells_events, desk_is, carry}
use Rattle.report.specs.PrintLaws.{print_none}

-- eight bytes are a serial number for every part, so 15 is given to no event on the bench
pub serial_fits : (part : ℕ) → fits_serial part (length replay_serial) ≡ true
unfolding figure_of
serial_fits zero = refl
serial_fits (suc zero) = refl
serial_fits (suc (suc zero)) = refl
serial_fits (suc (suc (suc zero))) = refl
serial_fits (suc (suc (suc (suc zero)))) = refl
serial_fits (suc (suc (suc (suc (suc zero))))) = refl
serial_fits (suc (suc (suc (suc (suc (suc k)))))) = refl

module _ (x : Lent) (code : ℕ) (a : Answer) (array : MutBor (List ℕ))
    (is : paper a ≡ paper (event replay_serial x.array.now x.stand.chip code))
    (stores : array.now ≡ written (event replay_serial x.array.now x.stand.chip code).note x.array.now) where
  same : a ≡ event replay_serial x.array.now x.stand.chip code
  same = paper_sole _ _ is

  -- a bench with that array
  abbrev left : Option Refusal → Stand → List ℕ → MutBor Sheet → Lent
  left refusal stand shown page = record { refusal = refusal; stand = stand; array = array; shown = shown; page = page }

  refuses : is_none a.refusal ≡ false → stopped (bench_of (left x.refusal x.stand x.shown x.page)) a.refusal ≡ after_event (bench_of x) code
  unfolding after_event
  refuses h =
      let no : is_none (event replay_serial x.array.now x.stand.chip code).refusal ≡ false = rw (← same) h in
      rw (stores, refusal_stays x.stand.chip replay_serial x.array.now code no, ← same, h)

  pub event_refused : (why : Refusal) → a.refusal ≡ Some why
      → desk_of (left (Some why) x.stand x.shown x.page) ≡ on_page (page_in x.page.now) (after_event (bench_of x) code)
  event_refused why is =
      desk_is (left (Some why) x.stand x.shown x.page)
      ∙ ap (on_page (page_in x.page.now)) (ap (stopped (bench_of (left x.refusal x.stand x.shown x.page))) (sym is) ∙ refuses (ap is_none is))

  module _ (next : Stand) (ps : List ℕ) (on : a.refusal ≡ None)
      (moved : next ≡ after x.stand code a) (shows : ps ≡ shown_by x.shown x.stand code) where
    takes : record { refusal = None; stand = next; array = array.now; shown = ps; text = closing x.stand.chip a.state next ps }
        ≡ after_event (bench_of x) code
    unfolding after_event
    takes = rw (moved, shows, stores, ← same, on)

    told : (v : Bool) (page : Page) → v ≡ closes x.stand.chip a.state
        → page ≡ printed (page_in x.page.now) (cond v (select_text next ps) [])
        → record { refusal = None; stand = next; array = array.now; shown = ps; page = page }
        ≡ on_page (page_in x.page.now) (after_event (bench_of x) code)
    told v page which e =
        let line = ap (λ (w : Bool). printed (page_in x.page.now) (cond w (select_text next ps) [])) which in
        (λ i. record { refusal = None; stand = next; array = array.now; shown = ps; page = (e ∙ line) i })
        ∙ ap (on_page (page_in x.page.now)) takes

    pub event_closes : (v : Bool) (page : MutBor Sheet) → v ≡ closes x.stand.chip a.state → v ≡ true
        → page_in page.now ≡ printed (page_in x.page.now) (select_text next ps)
        → desk_of (left None next ps page) ≡ on_page (page_in x.page.now) (after_event (bench_of x) code)
    event_closes v page which h e = told true (page_in page.now) (sym h ∙ which) e

    pub event_goes_on : (v : Bool) → v ≡ closes x.stand.chip a.state → v ≡ false
        → desk_of (left None next ps x.page) ≡ on_page (page_in x.page.now) (after_event (bench_of x) code)
    event_goes_on v which h = told false (page_in x.page.now) (sym h ∙ which) (sym (print_none (page_in x.page.now)))

pub events_stay : (b : Bench) (es : List ℕ) → is_none b.refusal ≡ false → after_events b es ≡ b
events_stay b [] h = refl
events_stay b (e ∷ es) h = rw h (events_stay b es h)

-- event number k of a list, and the others
pub events_on :
    (es : List ℕ) (k n code : ℕ) (y z : Lent) → n ≡ length es → k < n → code ≡ get_or es k 0 → y.refusal ≡ None
    → desk_of z ≡ on_page (page_in y.page.now) (after_event (bench_of y) code)
    → on_page (page_in z.page.now) (after_events (bench_of z) (drop (k + 1) es)) ≡ on_page (page_in y.page.now) (after_events (bench_of y) (drop k es))
events_on es k n code y z long inside is on one =
    carry (λ b. after_events b (drop (k + 1) es)) (tells_events (drop (k + 1) es)) z _ _ one
    ∙ ap (on_page (page_in y.page.now)) (sym first)
  where
    first : after_events (bench_of y) (drop k es) ≡ after_events (after_event (bench_of y) code) (drop (k + 1) es)
    first =
        let l : k < length es = omega arith in
        ap (after_events (bench_of y)) (drop-cons es k 0 l)
        ∙ ap (λ (v : Bool). after_events (cond v (after_event (bench_of y) (get_or es k 0)) (bench_of y)) (drop (suc k) es)) (ap is_none on)
        ∙ rw (add-one k, is)

-- a refusal came
pub events_end : (es : List ℕ) (y : Lent) → is_none y.refusal ≡ false → desk_of y ≡ on_page (page_in y.page.now) (after_events (bench_of y) es)
events_end es y h = desk_is y ∙ ap (on_page (page_in y.page.now)) (sym (events_stay (bench_of y) es h))

-- no event is left
pub events_over : (es : List ℕ) (k n : ℕ) (y : Lent) → n ≡ length es → n ≤ k
    → desk_of y ≡ on_page (page_in y.page.now) (after_events (bench_of y) (drop k es))
events_over es k n y long past = desk_is y ∙ rw (drop_of_length-le es {i = k} (omega arith))
