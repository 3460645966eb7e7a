-- A run tells behind what was told before it, so it can go on from a page that has the text so far: `carry`. Assumes
-- nothing.
use Rattle.std.specs.Prelude.{Option, None, is_none, ◌≡◌, refl, Bool, true, false, cond, List, [], ◌∷◌, ◌++◌, ℕ}
use Rattle.std.proofs.Common.{sym, ap, ◌∙◌, append_assoc, append-nil}
use Rattle.pins.specs.declared.state.State.{State}
use Rattle.refusals.specs.declared.refusal.Refusal.{Refusal}
use Rattle.step.specs.Step.{written}
use Rattle.chip.specs.Event.{event}
use Rattle.chip.specs.declared.event.Answer.{Answer}
use Rattle.turns.specs.Bench.{Bench, after_events, runs_on, stopped, closing, taken, after_answer, replay_serial, after_event, desk_of, on_page, bench_of}
use Rattle.report.specs.Page.{Page, printed}
use Rattle.turns.specs.Stand.{after, shown_by}
use Rattle.turns.specs.declared.stand.Stand.{Stand}
use Rattle.report.specs.Prints.{page_in}
use Rattle.turns.specs.declared.turn.Bench.{Bench as Lent}
use Rattle.report.specs.PrintLaws.{print_none, print_twice}

-- the bench with a text in front of its own
abbrev pub front : List ℕ → Bench → Bench
front t b =
    record { refusal = b.refusal; stand = b.stand; array = b.array; shown = b.shown; text = t ++ b.text }

-- what is told does not look at what was told
abbrev pub Tells : (Bench → Bench) → Type 0
Tells f = (t : List ℕ) (b : Bench) → f (front t b) ≡ front t (f b)

tells_answer :
    (t : List ℕ) (b : Bench) (next : State) (stand : Stand) (ys ps : List ℕ) (refusal : Option Refusal) (v : Bool)
    → cond v (taken (front t b) next stand ys ps) (stopped (front t b) refusal)
    ≡ front t (cond v (taken b next stand ys ps) (stopped b refusal))
tells_answer t b next stand ys ps refusal true =
    let line : List ℕ = closing b.stand.chip next stand ps in
    λ i. record { refusal = None; stand = stand; array = ys; shown = ps; text = append_assoc t b.text line i }
tells_answer t b next stand ys ps refusal false = refl

tells_event : (code : ℕ) → Tells (λ b. after_event b code)
unfolding after_event
tells_event code t b = go (event replay_serial b.array b.stand.chip code)
  where
    go : (a : Answer) → after_answer (front t b) code a ≡ front t (after_answer b code a)
    go a =
        tells_answer t b a.state (after b.stand code a) (written a.note b.array)
        (shown_by b.shown b.stand code) a.refusal (is_none a.refusal)

pub tells_events : (es : List ℕ) → Tells (λ b. after_events b es)
tells_events [] t b = refl
tells_events (e ∷ es) t b = ap (λ (x : Bench). after_events x es) (go (runs_on b)) ∙ tells_events es t (cond (runs_on b) (after_event b e) b)
  where
    go : (v : Bool) → cond v (after_event (front t b) e) (front t b) ≡ front t (cond v (after_event b e) b)
    go true = tells_event e t b
    go false = refl

-- a bench that told nothing yet
pub desk_is : (b : Lent) → desk_of b ≡ on_page (page_in b.page.now) (bench_of b)
desk_is b = λ i. record { refusal = b.refusal; stand = b.stand; array = b.array.now; shown = b.shown; page = sym (print_none (page_in b.page.now)) i }

-- a run that goes on from a program's bench is the run that goes on from the bench that it is, with its text printed first
pub carry : (f : Bench → Bench) → Tells f → (y : Lent) (p : Page) (b : Bench) → desk_of y ≡ on_page p b
    → on_page (page_in y.page.now) (f (bench_of y)) ≡ on_page p (f b)
carry f tells y p b e =
    ap (λ (q : Page). on_page q (f (bench_of y))) (λ i. (e i).page)
    ∙ sym (behind b.text (f (bench_of y)))
    ∙ ap (on_page p) (sym (tells b.text (bench_of y)) ∙ ap f same)
  where
    behind : (x : List ℕ) (c : Bench) → on_page p (front x c) ≡ on_page (printed p x) c
    behind x c =
        let e : printed p (x ++ c.text) ≡ printed (printed p x) c.text = sym (print_twice p.bytes p.at x c.text) in
        λ i. record { refusal = c.refusal; stand = c.stand; array = c.array; shown = c.shown; page = e i }

    same : front b.text (bench_of y) ≡ b
    same = λ i. record { refusal = (e i).refusal; stand = (e i).stand; array = (e i).array; shown = (e i).shown; text = append-nil b.text i }
