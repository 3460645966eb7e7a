-- What is told of an event and of an item, by what stands on the bench and what the event call answers. Assumes nothing.
use Rattle.std.specs.Prelude.{ℕ, ◌-◌, Bool, cond, List, [], ◌∷◌, ◌++◌, ltb, replicate, Option, Some, None, is_none}
use Rattle.refusals.specs.Refusals.{number_of}
use Rattle.refusals.specs.declared.refusal.Refusal.{Refusal}
use Rattle.trace.specs.Figures.{last_byte}
use Rattle.trace.specs.Items.{short_events}
use Rattle.select.specs.declared.notes.Note.{Note}
use Rattle.step.specs.Step.{written}
use Rattle.chip.specs.Event.{event}
use Rattle.chip.specs.declared.event.Answer.{Answer}
use Rattle.report.specs.Record.{most_shown}
use Rattle.turns.specs.Bench.{Bench, replay_serial}
use Rattle.turns.specs.Stand.{after}
use Rattle.turns.specs.declared.stand.Stand.{Stand}
use Rattle.turns.specs.declared.turn.Bench.{Bench as Lent}
use Rattle.pulses.specs.Pulse.{pulsed}
use Rattle.words.specs.Changes.{changes, turned, sampled_by}
use Rattle.words.specs.Lines.{note_text, shown_text, refused_line, run_line}

-- the refusal that stopped the run, if any; what stands on the bench; the array
pub record Scene : Type 0 where
  pub refusal : Option Refusal
  pub stand : Stand
  pub array : List ℕ

-- the scene on the bench of a program
abbrev pub scene_of : Lent → Scene
scene_of b = record { refusal = b.refusal; stand = b.stand; array = b.array.now }

abbrev pub runs_on : Scene → Bool
runs_on b = is_none b.refusal

-- ---- an event, by its answer

-- what changed, the byte of SO that it made whole, and its note
unfoldable pub accepted_text : ℕ → Stand → ℕ → Stand → Note → List ℕ
accepted_text place before code after note =
    changes place before after ++ shown_text place (sampled_by before code) ++ note_text place note

-- what is told of a refusal, or the text where there is none
abbrev pub refused_or : Option Refusal → (Refusal → List ℕ) → List ℕ → List ℕ
refused_or None told text = text
refused_or (Some refusal) told text = told refusal

-- as on the replay's bench: "Lent memory stays at every refusal."
abbrev pub answered_scene : Scene → ℕ → Answer → Scene
answered_scene b code a =
    cond (is_none a.refusal)
    (record { refusal = None; stand = after b.stand code a; array = written a.note b.array })
    (record { refusal = a.refusal; stand = b.stand; array = b.array })

abbrev pub answered_text : Scene → ℕ → ℕ → Answer → List ℕ
answered_text b place code a =
    refused_or a.refusal (λ why. refused_line place (number_of why)) (accepted_text place b.stand code (after b.stand code a) a.note)

unfoldable pub event_scene : Scene → ℕ → Scene
event_scene b code = answered_scene b code (event replay_serial b.array b.stand.chip code)

unfoldable pub event_text : Scene → ℕ → ℕ → List ℕ
event_text b place code = answered_text b place code (event replay_serial b.array b.stand.chip code)

-- ---- events in their order, each where none before it was refused

abbrev pub events_scene : Scene → List ℕ → Scene
events_scene b [] = b
events_scene b (code ∷ codes) = events_scene (cond (runs_on b) (event_scene b code) b) codes

abbrev pub events_text : Scene → ℕ → List ℕ → List ℕ
events_text b place [] = []
events_text b place (code ∷ codes) =
    cond (runs_on b) (event_text b place code) [] ++ events_text (cond (runs_on b) (event_scene b code) b) place codes

-- ---- a run of pulses: the same run as the replay's, told in one line, with what is plain from before and after it

abbrev pub bench_in : Scene → Bench
bench_in b = record { refusal = b.refusal; stand = b.stand; array = b.array; shown = replicate most_shown 0; text = [] }

abbrev pub scene_in : Bench → Scene
scene_in b = record { refusal = b.refusal; stand = b.stand; array = b.array }

unfoldable pub run_scene : Scene → ℕ → Scene
run_scene b pulses = scene_in (pulsed pulses (bench_in b))

unfoldable pub pulses_text : ℕ → ℕ → Stand → Stand → List ℕ
pulses_text place pulses before after =
    run_line place pulses before.told after.told ++ changes place before after ++ turned place before.chip after.chip

unfoldable pub run_text : Scene → ℕ → ℕ → List ℕ
run_text b place pulses = pulses_text place pulses b.stand (run_scene b pulses).stand

-- ---- an item

unfoldable pub item_scene : Scene → ℕ → Scene
item_scene b item = cond (ltb last_byte item) (run_scene b (item - last_byte)) (events_scene b (short_events item))

unfoldable pub item_text : Scene → ℕ → ℕ → List ℕ
item_text b place item =
    cond (ltb last_byte item) (run_text b place (item - last_byte)) (events_text b place (short_events item))
