-- The rows that a list wears, act by act: those of the open transfer so far, and those still to come. An act ends the open transfer, or
-- it touches one address more or none; and the chip's stage keeps the address touched last. Assumes nothing.
use Prim.Native.Nat.{ℕ, zero, suc, ◌+◌, ◌*◌, ◌%◌, ◌<◌, ◌≤◌}
use Rattle.std.proofs.Common.{mod-lt, ◌∙◌, leb-true, leb-false}
use native.Mathlib.Omega.{arith}
use Rattle.std.specs.Prelude.{Bool, ◌≡◌, leb, Result, Ok, Err}
use Rattle.std.proofs.Math.Bool.{true, false}
use mathlib.Core.List.{List, [], ◌∷◌, ◌++◌, append_assoc, append-nil}
use Rattle.std.proofs.Math.Path.{refl, sym, ap}
use Rattle.std.proofs.Math.ListN.{length}
use Rattle.parts.specs.Figures.{figure_of}
use Rattle.parts.specs.Guards.{may_store}
use Rattle.parts.specs.declared.figures.Figure.{Figure}
use Rattle.parts.specs.declared.guards.Reason.{Reason}
use Rattle.stages.specs.Last.{last_of}
use Rattle.stages.specs.declared.stage.Stage.{Stage}
use Rattle.chip.specs.Run.{Chip}
use Rattle.history.specs.Wire.{Wire, Bit, Act, opens, closes, takes, falls, cuts, passes}
use Rattle.history.specs.Transfers.{Edge, up, down, rises, transfer_from, transfer, spans}
use Rattle.history.specs.Bytes.{Byte, byte, Reading, latches, stores, shows, keeps, sleeps, idles, read_transfer, eights, whole_bytes}
use Rattle.history.specs.History.{World, overlaid, spanned, obeyed}
use Rattle.history.specs.Rows.{falls_past, begun, places, stored_if, stored_at, touched, cycles, rows_of}
use Rattle.history.proofs.Laws.Bytes.{cut_bytes, cut_part, cut_whole}
use Rattle.history.proofs.Laws.Edges.{rises_up, rises_down, touched_up, last_mark, last_none, Grows, same, more}
use Rattle.history.proofs.Laws.Place.{Place, outside, inside, read_so_far, world_at, completed, place_after, base}
use Rattle.history.proofs.Laws.Select.{Selected, closed, waking, going}
use Rattle.history.proofs.Laws.Step.{Agrees, off, on}
use Rattle.history.proofs.Laws.Touch.{image_last, fall_grows, whole_grows}

-- the addresses that the open transfer touched, and their rows
unfoldable pub touched_at : Figure → World → Place → List ℕ
touched_at f w (outside asleep) = []
touched_at f w (inside true fell es) = []
touched_at f w (inside false fell es) = touched f w es (read_so_far f fell es)

abbrev pub rows_at : Figure → World → Place → List ℕ
rows_at f w p = cycles f.row (touched_at f w p)

-- the rows of the open transfer and of what is left
unfoldable pub rows_from : Figure → World → Place → List Act → List ℕ
rows_from f w (outside asleep) later = rows_of f w (obeyed f asleep (spans later))
rows_from f w (inside woken fell es) later = rows_of f w (obeyed f woken (transfer fell (completed es later) ∷ spans later))

pub rows_now : (f : Figure) (w : World) (p : Place) → rows_from f w p [] ≡ rows_at f w p
unfolding rows_from touched_at rows_of obeyed spans transfer_from cycles
rows_now f w (outside asleep) = refl
rows_now f w (inside true fell es) = refl
rows_now f w (inside false fell es) = rw (append-nil, append-nil)

-- the rows of a transfer that an act ends
unfoldable pub finished : Figure → World → Place → Act → List ℕ
finished f w p (opens wp) = rows_at f w p
finished f w p closes = rows_at f w p
finished f w p (takes b) = []
finished f w p falls = []
finished f w p cuts = rows_at f w p
finished f w p passes = []

pub rows_next :
    (f : Figure) (w : World) (p : Place) (a : Act) (later : List Act)
    → rows_from f w p (a ∷ later) ≡ finished f w p a ++ rows_from f (base f w p a) (place_after f p a) later
unfolding rows_from touched_at finished place_after base world_at rows_of spanned obeyed spans transfer_from cycles
rows_next f w (outside true) (opens wp) later = refl
rows_next f w (outside false) (opens wp) later = refl
rows_next f w (outside asleep) closes later = refl
rows_next f w (outside asleep) (takes b) later = refl
rows_next f w (outside asleep) falls later = refl
rows_next f w (outside asleep) cuts later = refl
rows_next f w (outside asleep) passes later = refl
rows_next f w (inside true fell es) (opens wp) later = refl
rows_next f w (inside true fell es) closes later = refl
rows_next f w (inside true fell es) (takes b) later = refl
rows_next f w (inside true fell es) falls later = refl
rows_next f w (inside true fell es) cuts later = refl
rows_next f w (inside true fell es) passes later = refl
rows_next f w (inside false fell es) (opens wp) later = rw append-nil
rows_next f w (inside false fell es) closes later = rw append-nil
rows_next f w (inside false fell es) (takes b) later = rw append_assoc
rows_next f w (inside false fell es) falls later = rw append_assoc
rows_next f w (inside false fell es) cuts later = rw append-nil
rows_next f w (inside false fell es) passes later = refl

-- ---- the select of a chip

grows_as : {xs ys us vs : List ℕ} → xs ≡ us → ys ≡ vs → Grows us vs → Grows xs ys
grows_as p q (same e) = same (q ∙ e ∙ sym p)
grows_as p q (more at e) = more at (q ∙ e ∙ ap (λ (zs : List ℕ). zs ++ at ∷ []) (sym p))

module _ (f : Figure) (w : World) where
  pub select_last : {p : Place} {v : World} {stage : Stage} → Selected f w p v stage → last_of stage ≡ last_mark (touched_at f w p)
  unfolding touched_at
  select_last (closed true) = sym last_none
  select_last (closed false) = sym last_none
  select_last waking = sym last_none
  select_last (going {fell = fell} {es = es} read r n c count e i) =
      image_last f w es (length r) c.short count i ∙ ap (λ (s : Reading). last_mark (touched f w es s)) (sym (cut_bytes f fell c))

  fall_more :
      {woken fell : Bool} {es : List Edge} {v : World} {stage : Stage} → Selected f w (inside woken fell es) v stage
      → Grows (touched_at f w (inside woken fell es)) (touched_at f w (inside woken fell (es ++ down ∷ [])))
  unfolding touched_at
  fall_more waking = same refl
  fall_more (going {fell = fell} {es = es} read r n c count e i) =
      grows_as (ap (touched f w es) (cut_bytes f fell c))
      (ap (λ (bs : List Bit). touched f w (es ++ down ∷ []) (read_transfer f fell (whole_bytes bs))) (rises_down es) ∙ ap (touched f w (es ++ down ∷ [])) (cut_bytes f fell c))
      (fall_grows f w es (length r) c.short count i)

  rise_more :
      (b : Bit) {woken fell : Bool} {es : List Edge} {v : World} {stage : Stage} → Selected f w (inside woken fell es) v stage
      → Grows (touched_at f w (inside woken fell es)) (touched_at f w (inside woken fell (es ++ up b ∷ [])))
  unfolding touched_at
  rise_more b waking = same refl
  rise_more b (going {fell = fell} {es = es} read r n c count e i) = go (leb 7 (length r)) refl
    where
      seventh : 7 ≤ length r → length r < 8 → length r ≡ 7
      seventh l h = omega arith

      then : {s : Reading} → read_transfer f fell (whole_bytes (rises es ++ b ∷ [])) ≡ s
          → touched f w (es ++ up b ∷ []) (read_so_far f fell (es ++ up b ∷ [])) ≡ touched f w es s
      then q =
          touched_up f w es b (read_so_far f fell (es ++ up b ∷ []))
          ∙ ap (λ (bs : List Bit). touched f w es (read_transfer f fell (whole_bytes bs))) (rises_up es b) ∙ ap (touched f w es) q

      go : (t : Bool) → leb 7 (length r) ≡ t
          → Grows (touched f w es (read_so_far f fell es)) (touched f w (es ++ up b ∷ []) (read_so_far f fell (es ++ up b ∷ [])))
      go true q =
          let h : length r ≡ 7 = seventh (leb-true 7 (length r) q) c.short in
          grows_as (ap (touched f w es) (cut_bytes f fell c)) (then (cut_bytes f fell (cut_whole f fell b c h)))
          (whole_grows f w es (byte (r ++ b ∷ [])) (rw h at count) i)
      go false q =
          same (then (cut_bytes f fell (cut_part f fell b c (leb-false 7 (length r) q))) ∙ ap (touched f w es) (sym (cut_bytes f fell c)))

-- an act ends the open transfer, if there is one, with nothing touched in the next; or it goes on in it
pub data Turned (f : Figure) (w : World) (p : Place) (a : Act) : Type 0 where
  ended : finished f w p a ≡ rows_at f w p → touched_at f (base f w p a) (place_after f p a) ≡ [] → Turned f w p a
  went : finished f w p a ≡ [] → Grows (touched_at f w p) (touched_at f (base f w p a) (place_after f p a)) → Turned f w p a

select_turns : (f : Figure) (w : World) {p : Place} {v : World} {stage : Stage} → Selected f w p v stage → (a : Act) → Turned f w p a
unfolding finished touched_at place_after base touched read_transfer rises whole_bytes eights
select_turns f w {p = outside asleep} s (opens wp) = ended refl (fresh asleep)
  where
    fresh : (asleep : Bool) → touched_at f (world_at f w (outside asleep)) (inside asleep wp []) ≡ []
    fresh true = refl
    fresh false = refl
select_turns f w {p = outside asleep} s closes = ended refl refl
select_turns f w {p = outside asleep} s (takes b) = went refl (same refl)
select_turns f w {p = outside asleep} s falls = went refl (same refl)
select_turns f w {p = outside asleep} s cuts = ended refl refl
select_turns f w {p = outside asleep} s passes = went refl (same refl)
select_turns f w {p = inside woken fell es} s (opens wp) = ended refl refl
select_turns f w {p = inside woken fell es} s closes = ended refl refl
select_turns f w {p = inside woken fell es} s (takes b) = went refl (rise_more f w b s)
select_turns f w {p = inside woken fell es} s falls = went refl (fall_more f w s)
select_turns f w {p = inside woken fell es} s cuts = ended refl refl
select_turns f w {p = inside woken fell es} s passes = went refl (same refl)

-- the stage keeps the address that the open transfer touched last
pub agrees_last :
    {part : ℕ} {l : Wire} {p : Place} {w : World} {c : Chip} → Agrees part l p w c → last_of c.state.stage ≡ last_mark (touched_at (figure_of part) w p)
unfolding touched_at
agrees_last (off own kept array) = sym last_none
agrees_last {part} (on own p w v sck si wp hold stage s) = select_last (figure_of part) w s

pub agrees_turns : {part : ℕ} {l : Wire} {p : Place} {w : World} {c : Chip} → Agrees part l p w c → (a : Act) → Turned (figure_of part) w p a
agrees_turns {part} (off own kept array) a = select_turns (figure_of part) _ (closed false) a
agrees_turns {part} (on own p w v sck si wp hold stage s) a = select_turns (figure_of part) w s a

-- ---- every address that is touched lies in the array

abbrev pub AllBelow : ℕ → List ℕ → Type 0
AllBelow n [] = Unit {0}
AllBelow n (x ∷ xs) = (x < n) × AllBelow n xs

pub below_append : (n : ℕ) (xs ys : List ℕ) → AllBelow n xs → AllBelow n ys → AllBelow n (xs ++ ys)
below_append n [] ys p q = q
below_append n (x ∷ xs) ys p q = (p.0, below_append n xs ys p.1 q)

module _ (f : Figure) (some : 0 < f.size) where
  pub places_below : (at n : ℕ) → AllBelow f.size (places f.size at n)
  unfolding places
  places_below at zero = tt
  places_below at (suc n) = (mod-lt at some, places_below (at + 1) n)

  stored_below : (start k : ℕ) (w : World) (bs : List Byte) → AllBelow f.size (stored_at f start k w bs)
  unfolding stored_at
  stored_below start k w [] = tt
  stored_below start k w (b ∷ bs) =
      let at = (start + k) % f.size in
      below_append f.size (stored_if at (may_store f w.latch w.kept b.wp at)) _ (one (may_store f w.latch w.kept b.wp at))
      (stored_below start (k + 1) (overlaid f w at b) bs)
    where
      one : (v : Result (Unit {0}) Reason) → AllBelow f.size (stored_if ((start + k) % f.size) v)
      one (Ok allowed) = (mod-lt (start + k) some, tt)
      one (Err reason) = tt

  pub touched_below : (w : World) (es : List Edge) (r : Reading) → AllBelow f.size (touched f w es r)
  unfolding touched
  touched_below w es (latches set) = tt
  touched_below w es (stores start bs) = stored_below start 0 w bs
  touched_below w es (shows start header) = places_below start (begun (falls_past (header * 8) es))
  touched_below w es (keeps bs) = tt
  touched_below w es sleeps = tt
  touched_below w es idles = tt

  pub place_below : (w : World) (p : Place) → AllBelow f.size (touched_at f w p)
  unfolding touched_at
  place_below w (outside asleep) = tt
  place_below w (inside true fell es) = tt
  place_below w (inside false fell es) = touched_below w es (read_so_far f fell es)
