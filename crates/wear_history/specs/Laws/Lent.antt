-- Which rows a READ wears does not hang on the array that is lent: in a list in which the history sees one READ and no more, the array may be another at each
-- event, and all that the proof knows of the moment holds over that one too. Assumes nothing.
use Rattle.std.specs.Prelude.{ℕ, ◌+◌, ◌*◌, ◌<◌, Bool, true, false, ◌≡◌, length}
use Rattle.std.proofs.Common.{arith, subst, ◌∙◌}
use mathlib.Core.List.{List, [], ◌∷◌, ◌++◌, append_assoc, append-nil}
use Rattle.std.proofs.Math.Path.{refl, sym, ap}
use Rattle.std.proofs.lemmas.Bool.{eqb-false}
use Rattle.parts.specs.Figures.{figure_of, fits_serial}
use Rattle.parts.specs.declared.figures.Figure.{Figure}
use Rattle.stages.specs.declared.stage.Stage.{Stage}
use Rattle.chip.specs.Run.{Chip}
use Rattle.history.specs.Wire.{Wire, Act, opens, closes, takes, falls, cuts, passes}
use Rattle.history.specs.Transfers.{Edge, up, down, Transfer, rises, transfer_from, Span, transfer, cut, spans}
use Rattle.history.specs.Bytes.{Byte, Reading, latches, stores, shows, keeps, sleeps, idles, whole_bytes, read_transfer}
use Rattle.history.specs.History.{World, keep_first, effect, is_sleep, reading, obeyed}
use Rattle.history.specs.Rows.{falls_past, begun, places, touched, cycles, rows_of}
use Rattle.history.proofs.Laws.Bytes.{cut_bytes}
use Rattle.history.proofs.Laws.Edges.{rises_append}
use Rattle.history.proofs.Laws.Moments.{Moment}
use Rattle.history.proofs.Laws.Place.{Place, outside, inside, is_outside, read_so_far, completed, place_after}
use Rattle.history.proofs.Laws.Select.{Selected, closed, going}
use Rattle.history.proofs.Laws.Stage.{Image, code, upper, lower, dummy, ready, showing, writing, keeping, settled}
use Rattle.history.proofs.Laws.Step.{Agrees, off, on, wire_of, chip_of}
use Rattle.history.proofs.Laws.Worn.{touched_at, rows_at, rows_from}

-- one READ is still to come, or it is under way, or nothing more comes
pub data Reads (f : Figure) (later : List Act) : Place → Type 0 where
  soon :
      (fell : Bool) (t : Transfer) (start header : ℕ) → spans later ≡ transfer fell t ∷ [] → reading f fell t ≡ shows start header
      → Reads f later (outside false)
  now :
      (fell : Bool) (es : List Edge) (start header : ℕ) → spans later ≡ [] → reading f fell (completed es later) ≡ shows start header
      → Reads f later (inside false fell es)
  done : spans later ≡ [] → Reads f later (outside false)

-- its rows, whatever the world
module _ (f : Figure) (w : World) where
  one_read : (fell : Bool) (t : Transfer) (start header : ℕ) → reading f fell t ≡ shows start header
      → rows_of f w (obeyed f false (transfer fell t ∷ [])) ≡ cycles f.row (places f.size start (begun (falls_past (header * 8) t.edges)))
  unfolding rows_of obeyed touched
  one_read fell t start header e = rw (append-nil) (ap (λ (r : Reading). cycles f.row (touched f w t.edges r)) e)

module _ (f : Figure) {later : List Act} where
  abbrev pub rows_read : {p : Place} → Reads f later p → List ℕ
  rows_read (soon fell t start header e q) = cycles f.row (places f.size start (begun (falls_past (header * 8) t.edges)))
  rows_read (now fell es start header e q) =
      cycles f.row (places f.size start (begun (falls_past (header * 8) (completed es later).edges)))
  rows_read (done e) = []

  pub reads_rows : (w : World) {p : Place} (k : Reads f later p) → rows_from f w p later ≡ rows_read k
  unfolding rows_from rows_of obeyed
  reads_rows w (soon fell t start header e q) = rw e (one_read f w fell t start header q)
  reads_rows w (now fell es start header e q) = rw e (one_read f w fell (completed es later) start header q)
  reads_rows w (done e) = rw e

-- act by act
abbrev head_of : List Span → Span
head_of [] = cut
head_of (span ∷ more) = span

abbrev tail_of : List Span → List Span
tail_of [] = []
tail_of (span ∷ more) = more

abbrev is_transfer : Span → Bool
is_transfer (transfer fell t) = true
is_transfer cut = false

abbrev reading_of : Figure → Span → Reading
reading_of f (transfer fell t) = reading f fell t
reading_of f cut = idles

abbrev is_none : List Span → Bool
is_none [] = true
is_none (span ∷ more) = false

clash : false ≡ true → ⊥
clash h = eqb-false 0 1 refl cc

pub reads_next : (f : Figure) (a : Act) (later : List Act) {p : Place} → Reads f (a ∷ later) p → Reads f later (place_after f p a)
unfolding place_after spans transfer_from is_sleep
reads_next f (opens wp) later (soon fell t start header e q) =
    now wp [] start header (ap tail_of e) (ap (λ (ss : List Span). reading_of f (head_of ss)) e ∙ q)
reads_next f closes later (soon fell t start header e q) = soon fell t start header e q
reads_next f (takes b) later (soon fell t start header e q) = soon fell t start header e q
reads_next f falls later (soon fell t start header e q) = soon fell t start header e q
reads_next f cuts later (soon fell t start header e q) = absurd (clash (ap (λ (ss : List Span). is_transfer (head_of ss)) e))
reads_next f passes later (soon fell t start header e q) = soon fell t start header e q
reads_next f (opens wp) later (now fell es start header e q) = absurd (clash (ap is_none e))
reads_next f closes later (now fell es start header e q) =
    let whole : read_so_far f fell es ≡ shows start header = ap (read_so_far f fell) (sym (append-nil es)) ∙ q in
    subst (λ (b : Bool). Reads f later (outside b)) (sym (ap is_sleep whole)) (done e)
reads_next f (takes b) later (now fell es start header e q) =
    now fell (es ++ up b ∷ []) start header e (ap (read_so_far f fell) (append_assoc es (up b ∷ []) (transfer_from later).edges) ∙ q)
reads_next f falls later (now fell es start header e q) =
    now fell (es ++ down ∷ []) start header e (ap (read_so_far f fell) (append_assoc es (down ∷ []) (transfer_from later).edges) ∙ q)
reads_next f cuts later (now fell es start header e q) = absurd (clash (ap is_none e))
reads_next f passes later (now fell es start header e q) = now fell es start header e q
reads_next f (opens wp) later (done e) = absurd (clash (ap is_none e))
reads_next f closes later (done e) = done e
reads_next f (takes b) later (done e) = done e
reads_next f falls later (done e) = done e
reads_next f cuts later (done e) = absurd (clash (ap is_none e))
reads_next f passes later (done e) = done e

-- ---- the image of a stage that a READ leads through, over another world

abbrev is_shown : Reading → Bool
is_shown (latches set) = false
is_shown (stores start bs) = false
is_shown (shows start header) = true
is_shown (keeps bs) = false
is_shown sleeps = false
is_shown idles = false

abbrev pub lent : World → List ℕ → World
lent w xs = record { latch = w.latch; kept = w.kept; array = xs }

module _ (f : Figure) (w : World) (xs : List ℕ) (bs : List Byte) (start header : ℕ) where
  no_write : {r : Reading} {from : ℕ} {bytes : List Byte} → r ≡ stores from bytes → r ≡ shows start header → ⊥
  no_write p q = clash (ap is_shown (sym p ∙ q))

  module _ {es : List Edge} {sh : ℕ} {wp : Bool} where
    image_lent : {n : ℕ} {read : List Byte → Reading} {stage : Stage} → read bs ≡ shows start header → Image f w es sh wp n read stage → Image f (lent w xs) es sh wp n read stage
    image_lent q (code fell) = code fell
    image_lent q (upper purpose two i l) = upper purpose two i l
    image_lent q (lower purpose page last l) = lower purpose page last l
    image_lent q (dummy at bytes next p) = dummy at bytes next p
    image_lent q (ready at bytes whole p none) = ready at bytes whole p none
    image_lent q (showing level at bytes d whole p driven) = showing level at bytes d whole p driven
    image_lent q (writing at came p) = absurd (no_write (p bs) q)
    image_lent q (keeping fell p) = keeping fell p
    image_lent q (settled then end s e) = settled then end s e

    -- nothing came of it
    image_still : (u : World) {n : ℕ} {read : List Byte → Reading} {stage : Stage} → read bs ≡ shows start header → Image f w es sh wp n read stage → effect f u (read []) ≡ u
    unfolding read_transfer effect keep_first
    image_still u q (code fell) = refl
    image_still u q (upper purpose two i l) = i.world u
    image_still u q (lower purpose page last l) = l.before.world u
    image_still u q (dummy at bytes next p) = ap (effect f u) (p [])
    image_still u q (ready at bytes whole p none) = ap (effect f u) (p [])
    image_still u q (showing level at bytes d whole p driven) = ap (effect f u) (p [])
    image_still u q (writing at came p) = absurd (no_write (p bs) q)
    image_still u q (keeping fell p) = ap (effect f u) (p [])
    image_still u q (settled then end s e) = s.world u [] ∙ sym (s.world u bs) ∙ ap (effect f u) q

    -- and the addresses that it touched are the same
    image_touched : {n : ℕ} {read : List Byte → Reading} {stage : Stage} (m : ℕ) → m < 8 → length (rises es) ≡ n * 8 + m → read bs ≡ shows start header
        → Image f w es sh wp n read stage → touched f (lent w xs) es (read []) ≡ touched f w es (read [])
    unfolding read_transfer touched
    image_touched m h c q (code fell) = refl
    image_touched m h c q (upper purpose two i l) =
        i.touches (lent w xs) es (omega (arith, two, c, h)) ∙ sym (i.touches w es (omega (arith, two, c, h)))
    image_touched m h c q (lower purpose page last l) =
        l.before.touches (lent w xs) es (omega (arith, last, c, h)) ∙ sym (l.before.touches w es (omega (arith, last, c, h)))
    image_touched m h c q (dummy at bytes next p) = ap (touched f (lent w xs) es) (p []) ∙ sym (ap (touched f w es) (p []))
    image_touched m h c q (ready at bytes whole p none) = ap (touched f (lent w xs) es) (p []) ∙ sym (ap (touched f w es) (p []))
    image_touched m h c q (showing level at bytes d whole p driven) = ap (touched f (lent w xs) es) (p []) ∙ sym (ap (touched f w es) (p []))
    image_touched m h c q (writing at came p) = absurd (no_write (p bs) q)
    image_touched m h c q (keeping fell p) = ap (touched f (lent w xs) es) (p []) ∙ sym (ap (touched f w es) (p []))
    image_touched m h c q (settled then end s e) = s.touches (lent w xs) es [] ∙ sym (s.touches w es [])

-- ---- the select, the chip, the moment

pub record Relent (f : Figure) (w : World) (xs : List ℕ) (p : Place) (v : World) (stage : Stage) : Type 0 where
  pub still : v ≡ w
  pub select : Selected f (lent w xs) p (lent w xs) stage
  pub touches : touched_at f (lent w xs) p ≡ touched_at f w p

select_lent : (f : Figure) (w : World) (xs : List ℕ) {later : List Act} {p : Place} {v : World} {stage : Stage}
    → Reads f later p → Selected f w p v stage → Relent f w xs p v stage
unfolding touched_at
select_lent f w xs (soon fell t start header e q) (closed asleep) = record { still = refl; select = closed asleep; touches = refl }
select_lent f w xs (done e) (closed asleep) = record { still = refl; select = closed asleep; touches = refl }
select_lent f w xs {later = later} (now fell es start header none q) (going read r n c count e i) =
    let cs = rises (transfer_from later).edges in
    let bs = whole_bytes (r ++ cs) in
    let shown : read bs ≡ shows start header =
    sym (c.cut cs) ∙ ap (λ xs. read_transfer f fell (whole_bytes xs)) (sym (rises_append es (transfer_from later).edges)) ∙ q in
    let same = cut_bytes f fell c in
    record {
      still = e ∙ image_still f w xs bs start header w shown i;
      select = going read r n c count (sym (image_still f w xs bs start header (lent w xs) shown i)) (image_lent f w xs bs start header shown i);
      touches =
          ap (touched f (lent w xs) es) same ∙ image_touched f w xs bs start header (length r) c.short count shown i ∙ sym (ap (touched f w es) same);
    }

abbrev pub over : Chip → List ℕ → List ℕ → Chip
over c own xs = record { state = c.state; array = xs; serial = own }

agrees_lent : {part : ℕ} {l : Wire} {p : Place} {w : World} {c : Chip} {later : List Act} (own xs : List ℕ)
    → Reads (figure_of part) later p → Agrees part l p w c → Agrees part l p (lent w xs) (over c own xs)
agrees_lent own xs k (off old kept array) = off own kept xs
agrees_lent {part} own xs k (on old p w v sck si wp hold stage s) =
    let s = select_lent (figure_of part) w xs k s in
    subst (λ (u : World). Agrees part (wire_of sck si wp hold (is_outside p)) p (lent w xs) (over (chip_of part old u sck si wp hold stage) own xs)) (sym s.still)
    (on own p (lent w xs) (lent w xs) sck si wp hold stage s.select)

touched_lent : {part : ℕ} {l : Wire} {p : Place} {w : World} {c : Chip} {later : List Act} (xs : List ℕ)
    → Reads (figure_of part) later p → Agrees part l p w c → touched_at (figure_of part) (lent w xs) p ≡ touched_at (figure_of part) w p
unfolding touched_at
touched_lent xs k (off old kept array) = refl
touched_lent {part} xs k (on old p w v sck si wp hold stage s) = (select_lent (figure_of part) w xs k s).touches

module _ {part : ℕ} {l : Wire} {p : Place} {w : World} {c : Chip} {later : List Act} (k : Reads (figure_of part) later p) (m : Moment part l p w c) where
  pub moment_lent : (own xs : List ℕ) → length xs ≡ (figure_of part).size → fits_serial part (length own) ≡ true
      → Moment part l p (lent w xs) (over c own xs)
  moment_lent own xs fits numbered = record { agrees = agrees_lent own xs k m.agrees; good = m.good; fits = fits; takes = numbered }

  pub rows_lent : (xs : List ℕ) → rows_at (figure_of part) (lent w xs) p ≡ rows_at (figure_of part) w p
  rows_lent xs = ap (cycles (figure_of part).row) (touched_lent xs k m.agrees)
