-- An event by its answer, events in a row, a run of pulses and an item. Assumes nothing.
use Rattle.std.specs.Prelude.{◌≡◌, refl, Bool, true, false, cond, Some, None, is_none, List, [], ◌∷◌, ℕ, ◌+◌, ◌-◌, ◌<◌, ◌≤◌, length, get_or, drop}
use Rattle.std.proofs.Common.{sym, ap, ◌∙◌, add-one, arith, lt-ltb, le-ltb, drop_of_length-le, drop-cons}
use Rattle.trace.specs.Figures.{last_byte}
use Rattle.trace.specs.Items.{short_events}
use Rattle.refusals.specs.Refusals.{number_of}
use Rattle.refusals.specs.declared.refusal.Refusal.{Refusal}
use Rattle.chip.specs.Event.{event}
use Rattle.chip.specs.Outcomes.{paper_sole}
use Rattle.chip.specs.Promises.{EventPromise}
use Rattle.chip.proofs.RefusalLaws.{refusal_stays}
use Rattle.chip.specs.declared.event.Answer.{Answer}
use Rattle.turns.specs.Bench.{replay_serial, bench_of, Takes}
use Rattle.report.specs.Page.{printed}
use Rattle.report.specs.Prints.{Prints, page_in}
use Rattle.turns.specs.Stand.{after}
use Rattle.report.specs.declared.page.Page.{Page as Sheet}
use Rattle.turns.specs.declared.stand.Stand.{Stand}
use Rattle.turns.specs.declared.turn.Bench.{Bench as Lent}
use Rattle.report.proofs.Pages.{left_on, left_over}
use Rattle.pulses.specs.Pulse.{pulsed}
use Rattle.words.specs.Lines.{refused_line}
use Rattle.story.specs.Scene.{Scene, scene_of, accepted_text, event_scene, event_text, events_scene, events_text, run_scene, pulses_text, run_text, item_scene, item_text}
use Rattle.story.specs.SameRun.{same_run}

-- ---- an event

module _ (t : Lent) (code : ℕ) (a : Answer) (ys : List ℕ) (does : EventPromise replay_serial t.array.now t.stand.chip code a ys) where
  same : a ≡ event replay_serial t.array.now t.stand.chip code
  same = paper_sole _ _ does.0

  module _ (why : Refusal) (h : a.refusal ≡ Some why) where
    pub refused_scene : record { refusal = a.refusal; stand = t.stand; array = ys } ≡ event_scene (scene_of t) code
    unfolding event_scene
    refused_scene =
        let no : is_none (event replay_serial t.array.now t.stand.chip code).refusal ≡ false = rw (← same, h) refl in
        rw (does.1, refusal_stays t.stand.chip replay_serial t.array.now code no, ← same, h)

    pub refused_text : (place : ℕ) {p q : Sheet} → Prints p (refused_line place (number_of why)) q → Prints p (event_text (scene_of t) place code) q
    unfolding event_text
    refused_text place x = rw (← same, h) x

  module _ (next : Stand) (on : a.refusal ≡ None) (moved : next ≡ after t.stand code a) where
    pub accepted_scene : record { refusal = a.refusal; stand = next; array = ys } ≡ event_scene (scene_of t) code
    unfolding event_scene
    accepted_scene = rw (moved, does.1, ← same, on)

    pub accepted_told : (place : ℕ) {p q : Sheet} → Prints p (accepted_text place t.stand code next a.note) q
        → Prints p (event_text (scene_of t) place code) q
    unfolding event_text
    accepted_told place x = rw (← same, ← moved, on) x

-- ---- events in a row

-- what is to come leads from here to where all of it leads from the start: the scene, and the text on the page
pub record Leads (all : Scene) (text : List ℕ) (start : Sheet) (rest : Scene) (more : List ℕ) (here : Sheet) : Type 0 where
  pub same_slice : here.out.ghost_name ≡ start.out.ghost_name
  pub scene : rest ≡ all
  pub page : printed (page_in here) more ≡ printed (page_in start) text

-- and nothing is to come
at_end : {all rest : Scene} {text more : List ℕ} {start here : Sheet} → more ≡ [] → Leads all text start rest more here → Prints start text here
at_end {here = here} none l = record { same_slice = l.same_slice; page = left_over (page_in here) _ _ none l.page }

-- event number k of a list, and the others
pub events_on : (es : List ℕ) (place k n code : ℕ) → n ≡ length es → k < n → code ≡ get_or es k 0
    → (t r : Lent) (all : Scene) (text : List ℕ) (start p q : Sheet) → t.refusal ≡ None
    → scene_of r ≡ event_scene (scene_of t) code → Prints p (event_text (scene_of t) place code) q
    → Leads all text start (events_scene (scene_of t) (drop k es)) (events_text (scene_of t) place (drop k es)) p
    → Leads all text start (events_scene (scene_of r) (drop (k + 1) es)) (events_text (scene_of r) place (drop (k + 1) es)) q
events_on es place k n code long inside is t r all text start p q on one x l = record {
  same_slice = x.same_slice ∙ l.same_slice;
  scene = scenes ∙ l.scene;
  page =
      left_on p q (event_text (scene_of t) place code) (events_text (scene_of r) place (drop (k + 1) es))
      (events_text (scene_of t) place (drop k es)) (rw (there, runs, ← one)) x
      ∙ l.page;
}
  where
    there : drop k es ≡ code ∷ drop (k + 1) es
    there = let h : k < length es = omega arith in rw (add-one k, is) (drop-cons es k 0 h)

    runs : is_none t.refusal ≡ true
    runs = ap is_none on

    scenes : events_scene (scene_of r) (drop (k + 1) es) ≡ events_scene (scene_of t) (drop k es)
    scenes =
        ap (λ (b : Scene). events_scene b (drop (k + 1) es)) one
        ∙ sym (ap (events_scene (scene_of t)) there
        ∙ ap (λ (v : Bool). events_scene (cond v (event_scene (scene_of t) code) (scene_of t)) (drop (k + 1) es)) runs)

-- a refusal came
events_stay : (b : Scene) (es : List ℕ) → is_none b.refusal ≡ false → b ≡ events_scene b es
events_stay b [] h = refl
events_stay b (e ∷ es) h = rw h (events_stay b es h)

silent : (b : Scene) (place : ℕ) (es : List ℕ) → is_none b.refusal ≡ false → events_text b place es ≡ []
silent b place [] h = refl
silent b place (e ∷ es) h = rw h (silent b place es h)

pub events_end : (es : List ℕ) (place : ℕ) (t : Lent) (all : Scene) (text : List ℕ) (start p : Sheet) → is_none t.refusal ≡ false
    → Leads all text start (events_scene (scene_of t) es) (events_text (scene_of t) place es) p → (scene_of t ≡ all) × Prints start text p
events_end es place t all text start p h l = (events_stay (scene_of t) es h ∙ l.scene, at_end (silent (scene_of t) place es h) l)

-- no event is left
pub events_over : (es : List ℕ) (place k n : ℕ) → n ≡ length es → n ≤ k → (t : Lent) (all : Scene) (text : List ℕ) (start p : Sheet)
    → Leads all text start (events_scene (scene_of t) (drop k es)) (events_text (scene_of t) place (drop k es)) p
    → (scene_of t ≡ all) × Prints start text p
events_over es place k n long past t all text start p l =
    let nil : drop k es ≡ [] = drop_of_length-le es {i = k} (omega arith) in
    (sym (ap (events_scene (scene_of t)) nil) ∙ l.scene, at_end (ap (events_text (scene_of t) place) nil) l)

-- ---- a run of pulses

module _ (t r : Lent) (pulses : ℕ) (x : Takes t (pulsed pulses) r) where
  pub ran_scene : scene_of r ≡ run_scene (scene_of t) pulses
  unfolding pulsed
  ran_scene = (λ i. record { refusal = (x.desk i).refusal; stand = (x.desk i).stand; array = (x.desk i).array }) ∙ same_run (bench_of t) pulses

  pub ran_text : (place : ℕ) {p q : Sheet} → Prints p (pulses_text place pulses t.stand r.stand) q → Prints p (run_text (scene_of t) place pulses) q
  unfolding run_text
  ran_text place y =
      let stands : r.stand ≡ (run_scene (scene_of t) pulses).stand = λ i. (ran_scene i).stand in
      rw (← stands) y

-- ---- an item

module _ (t : Scene) (place item n : ℕ) (is : n ≡ item - last_byte) where
  pub item_run : (s : Scene) (p q : Sheet) → 0 < n → s ≡ run_scene t n → Prints p (run_text t place n) q
      → (s ≡ item_scene t item) × Prints p (item_text t place item) q
  unfolding item_scene item_text
  item_run s p q some scene text =
      (rw (lt-ltb last_byte item (omega arith), ← is) scene, rw (lt-ltb last_byte item (omega arith), ← is) text)

  pub item_short : (s : Scene) (p q : Sheet) → n ≤ 0 → s ≡ events_scene t (short_events item) → Prints p (events_text t place (short_events item)) q
      → (s ≡ item_scene t item) × Prints p (item_text t place item) q
  unfolding item_scene item_text
  item_short s p q few scene text = (rw (le-ltb last_byte item (omega arith)) scene, rw (le-ltb last_byte item (omega arith)) text)
