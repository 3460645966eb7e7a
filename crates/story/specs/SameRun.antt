-- The story tells the replay's run: after each event and each item its scene is what stands on the replay's bench. Assumes nothing.
use Rattle.std.specs.Prelude.{◌≡◌, refl, Bool, true, false, cond, List, [], ◌∷◌, ℕ, ◌-◌, ltb, is_none}
use Rattle.std.proofs.Common.{sym, ap, ◌∙◌}
use Rattle.trace.specs.Figures.{last_byte}
use Rattle.trace.specs.Items.{short_events, run_events, item_events}
use Rattle.step.specs.Step.{written}
use Rattle.chip.specs.Event.{event}
use Rattle.chip.specs.declared.event.Answer.{Answer}
use Rattle.turns.specs.Bench.{Bench, runs_on, stopped, taken, replay_serial, after_event, after_events}
use Rattle.turns.specs.Stand.{after, shown_by}
use Rattle.pulses.specs.Pulse.{pulsed}
use Rattle.bench.specs.Run.{after_item}
use Rattle.story.specs.Scene.{Scene, event_scene, events_scene, bench_in, scene_in, run_scene, item_scene}

either : (v : Bool) (x y : Bench) → scene_in (cond v x y) ≡ cond v (scene_in x) (scene_in y)
either true x y = refl
either false x y = refl

pub same_event : (b : Bench) (code : ℕ) → scene_in (after_event b code) ≡ event_scene (scene_in b) code
unfolding after_event event_scene
same_event b code =
    let a : Answer = event replay_serial b.array b.stand.chip code in
    either (is_none a.refusal)
    (taken b a.state (after b.stand code a) (written a.note b.array) (shown_by b.shown b.stand code)) (stopped b a.refusal)

pub same_events : (b : Bench) (es : List ℕ) → scene_in (after_events b es) ≡ events_scene (scene_in b) es
same_events b [] = refl
same_events b (e ∷ es) =
    same_events (cond (runs_on b) (after_event b e) b) es
    ∙ ap (λ (s : Scene). events_scene s es)
    (either (runs_on b) (after_event b e) b ∙ ap (λ (s : Scene). cond (runs_on b) s (scene_in b)) (same_event b e))

-- the bytes of SO that a bench keeps, and its text, are nothing to a run
pub same_run : (b : Bench) (n : ℕ) → scene_in (after_events b (run_events n)) ≡ run_scene (scene_in b) n
unfolding pulsed run_scene
same_run b n = same_events b (run_events n) ∙ sym (same_events (bench_in (scene_in b)) (run_events n))

pub same_item : (b : Bench) (n : ℕ) → scene_in (after_item b n) ≡ item_scene (scene_in b) n
unfolding after_item item_events item_scene
same_item b n = go (ltb last_byte n)
  where
    go : (v : Bool) → scene_in (after_events b (cond v (run_events (n - last_byte)) (short_events n)))
        ≡ cond v (run_scene (scene_in b) (n - last_byte)) (events_scene (scene_in b) (short_events n))
    go true = same_run b (n - last_byte)
    go false = same_events b (short_events n)
