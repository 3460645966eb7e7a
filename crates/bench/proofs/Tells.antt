-- A run of a trace tells behind what was told before it. Assumes nothing.
use mathlib.Core.Path.{◌≡◌, refl, ap, ◌∙◌}
use mathlib.Core.Bool.{Bool, true, false, cond}
use mathlib.Core.List.{List, [], ◌∷◌}
use Prim.Native.Nat.{ℕ}
use Rattle.std.specs.Prelude.{Option}
use Rattle.refusals.specs.declared.refusal.Refusal.{Refusal}
use Rattle.trace.specs.Items.{item_events}
use Rattle.turns.specs.Bench.{Bench, runs_on, stopped}
use Rattle.turns.specs.DeskLaws.{front, Tells, tells_events}
use Rattle.bench.specs.Run.{after_item, after_items, items_from, ended_by, ran_from}

tells_items : (ns : List ℕ) → Tells (λ b. after_items b ns)
unfolding after_item
tells_items [] t b = refl
tells_items (n ∷ ns) t b = ap (λ (x : Bench). after_items x ns) (tells_events (item_events n) t b) ∙ tells_items ns t (after_item b n)

pub tells_ran : (s : List ℕ) (at : ℕ) → Tells (ran_from s at)
unfolding ran_from
tells_ran s at t b =
    ap (λ (x : Bench). ended_by x (items_from s at).refusal) (tells_items (items_from s at).numbers t b)
    ∙ go (after_items b (items_from s at).numbers) (items_from s at).refusal (runs_on (after_items b (items_from s at).numbers))
  where
    go : (x : Bench) (row : Option Refusal) (v : Bool) → cond v (stopped (front t x) row) (front t x) ≡ front t (cond v (stopped x row) x)
    go x row true = refl
    go x row false = refl
