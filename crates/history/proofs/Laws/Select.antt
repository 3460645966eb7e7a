-- The select and the open transfer: what an edge does to the stage, the latch, the kept bits and the array is what the act
-- does to the history. Assumes nothing.
use Rattle.std.specs.Prelude.{ℕ, suc, ◌+◌, ◌*◌, ◌≤◌, ◌<◌, Bool, not, ◌&&◌, ◌≡◌, length, leb}
use Rattle.std.proofs.Common.{arith, ap, ◌∙◌, length-append, leb-true, leb-false}
use Rattle.std.proofs.Math.Bool.{true, false, cond}
use mathlib.Core.List.{List, [], ◌∷◌, ◌++◌}
use Rattle.std.proofs.Math.Path.{refl}
use Rattle.parts.specs.FigureLaws.{Fair}
use Rattle.parts.specs.declared.figures.Figure.{Figure}
use Rattle.stages.specs.Close as close
use Rattle.stages.specs.Close.{after_fall}
use Rattle.stages.specs.Wp.{line_of, fall_wp}
use Rattle.select.specs.Fall.{fall}
use Rattle.select.specs.Rise.{rise}
use Rattle.select.specs.declared.rise.Risen.{Risen}
use Rattle.stages.specs.declared.stage.Stage.{Stage}
use Rattle.stages.specs.declared.stage.Stage.TheVariants.{Over}
use Rattle.stages.specs.declared.stage.End.TheVariants.{Quiet}
use Rattle.stages.specs.declared.stage.Line.TheVariants.{Down, Up}
use Rattle.step.specs.Step.{written}
use Rattle.history.specs.Wire.{Bit, closes}
use Rattle.history.specs.Transfers.{Edge, up, down, rises}
use Rattle.history.specs.Bytes.{Byte, byte, Reading, bits_value, read_transfer}
use Rattle.history.specs.History.{World, with_latch, effect, latch_drops}
use Rattle.history.proofs.Laws.Bytes.{Cut, cut_none, cut_bytes, cut_part, cut_whole, shift_of, taken_part, taken_whole, value_whole, wp_of, wp_part, wp_whole}
use Rattle.history.proofs.Laws.Edges.{rises_up, rises_down}
use Rattle.history.proofs.Laws.Stage.{shut_stage, ends_drops, ends_asleep, wrsr_line, Image, code, image_open, image_ends, image_fall}
use Rattle.history.proofs.Laws.Rise.{seen_in, risen_world, part_rise, whole_rise}
use Rattle.history.proofs.Laws.Place.{Place, outside, inside, is_outside, world_at, asleep_after, base}

-- the select of a chip over the history's place: `w` is the world before the open transfer, `v` the world now; of the transfer's bits
-- so many bytes are whole, and those of `r` are left
pub data Selected (f : Figure) (w : World) : Place → World → Stage → Type 0 where
  closed : (asleep : Bool) → Selected f w (outside asleep) w (shut_stage asleep)
  waking : {fell : Bool} {es : List Edge} → Selected f w (inside true fell es) w (Over Quiet)
  going :
      {fell : Bool} {es : List Edge} {v : World} {stage : Stage} (read : List Byte → Reading) (r : List Bit) (n : ℕ)
      → Cut f fell (rises es) read r → length (rises es) ≡ n * 8 + length r → v ≡ effect f w (read [])
      → Image f w es (shift_of r) (wp_of r) n read stage → Selected f w (inside false fell es) v stage

-- what the fall of /CS remembers is the level that a status byte has before its first bit
fall_line : (f : Figure) (fell : Bool) → fall_wp f fell ≡ wrsr_line f fell true
unfolding fall_wp
fall_line f fell = go f.wp_at_fall fell
  where
    go : (t u : Bool) → cond (t && not u) Down Up ≡ line_of (cond t u true)
    go true true = refl
    go true false = refl
    go false u = refl

module _ (f : Figure) (w : World) where
  pub select_open : {p : Place} {v : World} {stage : Stage} → Selected f w p v stage → close.is_closed stage ≡ is_outside p
  select_open (closed true) = refl
  select_open (closed false) = refl
  select_open waking = refl
  select_open (going read r n c count e i) = image_open f w i

  pub select_world : {p : Place} {v : World} {stage : Stage} → Selected f w p v stage → v ≡ world_at f w p
  unfolding world_at
  select_world (closed asleep) = refl
  select_world waking = refl
  select_world (going {fell = fell} read r n c count e i) = rw (cut_bytes f fell c) e

  -- a select that just opened
  pub select_fresh : (asleep fell : Bool) → Selected f w (inside asleep fell []) w (after_fall f fell (shut_stage asleep))
  unfolding after_fall effect read_transfer bits_value rises
  select_fresh true fell = waking
  select_fresh false fell = rw (fall_line f fell) (going (read_transfer f fell) [] 0 (cut_none f fell) refl refl (code fell))

  -- a seen rise of /CS
  pub select_close :
      {woken fell : Bool} {es : List Edge} {v : World} {stage : Stage} → Selected f w (inside woken fell es) v stage
      → cond (close.drops stage) (with_latch v false) v ≡ base f w (inside woken fell es) closes
  unfolding base
  select_close waking = refl
  select_close {fell = fell} (going read r n c count e i) =
      rw (image_ends f w i, ends_drops (read []), cut_bytes f fell c) (ap (λ (u : World). cond (latch_drops (read [])) (with_latch u false) u) e)

  pub select_shut :
      {woken fell : Bool} {es : List Edge} {v : World} {stage : Stage} → Selected f w (inside woken fell es) v stage
      → close.after_close stage ≡ shut_stage (asleep_after f woken fell es)
  select_shut waking = refl
  select_shut {fell = fell} (going read r n c count e i) = rw (image_ends f w i, ends_asleep (read []), cut_bytes f fell c)

module _ (f : Figure) (fair : Fair f) (w : World) where
  -- a seen fall of SCK
  pub select_fall :
      (own xs : List ℕ) (status : ℕ) {woken fell : Bool} {es : List Edge} {v : World} {stage : Stage} → Selected f w (inside woken fell es) v stage
      → Selected f w (inside woken fell (es ++ down ∷ [])) v (fall f own xs status stage)
  unfolding fall
  select_fall own xs status waking = waking
  select_fall own xs status {fell = fell} {es = es} (going read r n c count e i) =
      going {fell = fell} {es = es ++ down ∷ []} read r n (rw (rises_down es) c) (rw (rises_down es) count) e (image_fall f own xs status fair w es (omega (arith, count)) i)

  -- a seen rise of SCK: the bit joins those of the byte that is left, or makes it whole
  pub select_rise :
      (b : Bit) {woken fell : Bool} {es : List Edge} {v : World} {stage : Stage} → Selected f w (inside woken fell es) v stage
      → Selected f w (inside woken fell (es ++ up b ∷ [])) (risen_world v (rise f (seen_in v b.wp b.si) stage))
      (rise f (seen_in v b.wp b.si) stage).stage
  unfolding bits_value wp_of rise written
  select_rise b waking = waking
  select_rise b {fell = fell} {es} {v} {stage} (going read r n c count e i) = go (leb 7 (length r)) refl
    where
      risen : Risen
      risen = rise f (seen_in v b.wp b.si) stage

      seventh : 7 ≤ length r → length r < 8 → length r ≡ 7
      seventh l h = omega arith

      whole : Byte
      whole = byte (r ++ b ∷ [])

      counts : length (rises (es ++ up b ∷ [])) ≡ length (rises es) + 1
      counts = rw (rises_up es b, length-append)

      go : (t : Bool) → leb 7 (length r) ≡ t → Selected f w (inside false fell (es ++ up b ∷ [])) (risen_world v risen) risen.stage
      go true q =
          let h : length r ≡ 7 = seventh (leb-true 7 (length r) q) c.short in
          let k = wp_whole r b h in
          let l = whole_rise f fair w v es b (shift_of r) whole (value_whole r b h) (taken_whole r b h) k.0 (rw h at count) e (rw k.1 at i) in
          going {fell = fell} {es = es ++ up b ∷ []} (λ more. read (whole ∷ more)) [] (suc n) (rw (rises_up es b) (cut_whole f fell b c h)) (counts ∙ omega (arith, count, h)) l.world l.image
      go false q =
          let h : length r < 7 = leb-false 7 (length r) q in
          let l = part_rise f w v es b (shift_of r) (shift_of (r ++ b ∷ [])) (wp_of r) (taken_part r b h) e i in
          going {fell = fell} {es = es ++ up b ∷ []} read (r ++ b ∷ []) n (rw (rises_up es b) (cut_part f fell b c h)) (counts ∙ rw length-append (omega (arith, count))) l.world
          (rw (wp_part r b) at l.image)
