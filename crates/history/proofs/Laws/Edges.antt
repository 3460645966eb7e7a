-- The edges of a transfer, one by one: what a rise or a fall more does to its bits, to the falls past its header and to the addresses
-- that it touched. Assumes nothing.
use Rattle.std.specs.Prelude.{ℕ, zero, suc, ◌+◌, ◌*◌, ◌-◌, ◌%◌, ◌<◌, ◌≤◌, cond, ◌≡◌, eqb, length}
use Rattle.std.proofs.Common.{add_assoc, add-zero, zero-add, arith, ◌∙◌, ne_eqb}
use mathlib.Core.List.{List, [], ◌∷◌, ◌++◌, append_assoc}
use Rattle.std.proofs.Math.Path.{refl, sym, ap}
use Rattle.parts.specs.Guards.{may_store}
use Rattle.parts.specs.declared.figures.Figure.{Figure}
use Rattle.stages.specs.Last.{mark}
use Rattle.history.specs.Wire.{Bit}
use Rattle.history.specs.Transfers.{Edge, up, down, rises}
use Rattle.history.specs.Bytes.{Byte, Reading, latches, stores, shows, keeps, sleeps, idles}
use Rattle.history.specs.History.{World, overlaid, overlay}
use Rattle.history.specs.Rows.{falls_past, begun, places, stored_if, stored_at, touched}

-- ---- bits

pub rises_append : (es fs : List Edge) → rises (es ++ fs) ≡ rises es ++ rises fs
unfolding rises
rises_append [] fs = refl
rises_append (up b ∷ es) fs = ap (λ (bs : List Bit). b ∷ bs) (rises_append es fs)
rises_append (down ∷ es) fs = rises_append es fs

pub rises_up : (es : List Edge) (b : Bit) → rises (es ++ up b ∷ []) ≡ rises es ++ b ∷ []
unfolding rises
rises_up es b = rises_append es (up b ∷ [])

pub rises_down : (es : List Edge) → rises (es ++ down ∷ []) ≡ rises es
unfolding rises
rises_down [] = refl
rises_down (up b ∷ es) = ap (λ (bs : List Bit). b ∷ bs) (rises_down es)
rises_down (down ∷ es) = rises_down es

-- ---- falls past so many bits: a rise at the end adds none, a fall adds one where the bits came

pub falls_up : (n : ℕ) (es : List Edge) (b : Bit) → falls_past n (es ++ up b ∷ []) ≡ falls_past n es
unfolding falls_past
falls_up n [] b = refl
falls_up n (up c ∷ es) b = falls_up (n - 1) es b
falls_up n (down ∷ es) b = ap (λ (k : ℕ). cond (eqb n 0) 1 0 + k) (falls_up n es b)

pub falls_down : (n : ℕ) (es : List Edge) → n ≤ length (rises es) → falls_past n (es ++ down ∷ []) ≡ falls_past n es + 1
unfolding falls_past rises
falls_down zero [] h = refl
falls_down (suc n) [] h = absurd (omega arith)
falls_down n (up c ∷ es) h = falls_down (n - 1) es (omega arith)
falls_down n (down ∷ es) h =
    ap (λ (k : ℕ). cond (eqb n 0) 1 0 + k) (falls_down n es h) ∙ sym (add_assoc (cond (eqb n 0) 1 0) (falls_past n es) 1)

pub falls_none : (n : ℕ) (es : List Edge) → length (rises es) < n → falls_past n es ≡ 0
unfolding falls_past rises
falls_none n [] h = refl
falls_none n (up c ∷ es) h = falls_none (n - 1) es (omega arith)
falls_none n (down ∷ es) h = rw (ne_eqb n 0 (λ e. omega arith), falls_none n es h)

-- ---- the addresses of a READ, and of a WRITE's bytes

pub places_more : (size at n : ℕ) → places size at (suc n) ≡ places size at n ++ (at + n) % size ∷ []
unfolding places
places_more size at zero = ap (λ (k : ℕ). k % size ∷ []) (sym (add-zero at))
places_more size at (suc n) =
    ap (λ (xs : List ℕ). at % size ∷ xs) (places_more size (at + 1) n ∙ ap (λ (k : ℕ). places size (at + 1) n ++ k % size ∷ []) (later at n))
  where
    later : (at n : ℕ) → at + 1 + n ≡ at + suc n
    later at n = omega arith

further : (start k n : ℕ) → start + (k + 1 + n) ≡ start + (k + suc n)
further start k n = omega arith

module _ (f : Figure) (start : ℕ) where
  abbrev place_at : ℕ → List Byte → ℕ
  place_at k bs = (start + (k + length bs)) % f.size

  overlay_more : (k : ℕ) (w : World) (bs : List Byte) (b : Byte)
      → overlay f start k w (bs ++ b ∷ []) ≡ overlaid f (overlay f start k w bs) (place_at k bs) b
  unfolding overlay
  overlay_more k w [] b = ap (λ (n : ℕ). overlaid f w ((start + n) % f.size) b) (sym (add-zero k))
  overlay_more k w (c ∷ bs) b =
      let next = overlaid f w ((start + k) % f.size) c in
      overlay_more (k + 1) next bs b
      ∙ ap (λ (n : ℕ). overlaid f (overlay f start (k + 1) next bs) (n % f.size) b) (further start k (length bs))

  stored_more : (k : ℕ) (w : World) (bs : List Byte) (b : Byte)
      → stored_at f start k w (bs ++ b ∷ [])
      ≡ stored_at f start k w bs
      ++ stored_if (place_at k bs) (may_store f (overlay f start k w bs).latch (overlay f start k w bs).kept b.wp (place_at k bs))
  unfolding stored_at overlay
  stored_more k w [] b = ap (λ (n : ℕ). stored_if ((start + n) % f.size) (may_store f w.latch w.kept b.wp ((start + n) % f.size)) ++ []) (sym (add-zero k)) ∙ none_after _
    where
      none_after : (xs : List ℕ) → xs ++ [] ≡ [] ++ xs
      none_after [] = refl
      none_after (x ∷ xs) = ap (λ (ys : List ℕ). x ∷ ys) (none_after xs)
  stored_more k w (c ∷ bs) b =
      let at = (start + k) % f.size in
      let next = overlaid f w at c in
      let last = overlay f start (k + 1) next bs in
      let here = stored_if at (may_store f w.latch w.kept c.wp at) in
      ap (λ (xs : List ℕ). here ++ xs) (stored_more (k + 1) next bs b)
      ∙ ap (λ (n : ℕ). here ++ (stored_at f start (k + 1) next bs ++ stored_if (n % f.size) (may_store f last.latch last.kept b.wp (n % f.size))))
      (further start k (length bs))
      ∙ sym (append_assoc here _ _)

  -- from the first data byte on
  pub overlay_next : (w : World) (bs : List Byte) (b : Byte)
      → overlay f start 0 w (bs ++ b ∷ []) ≡ overlaid f (overlay f start 0 w bs) ((start + length bs) % f.size) b
  overlay_next w bs b =
      overlay_more 0 w bs b ∙ ap (λ (n : ℕ). overlaid f (overlay f start 0 w bs) ((start + n) % f.size) b) (zero-add (length bs))

  pub stored_next : (w : World) (bs : List Byte) (b : Byte)
      → stored_at f start 0 w (bs ++ b ∷ [])
      ≡ stored_at f start 0 w bs
      ++ stored_if ((start + length bs) % f.size)
      (may_store f (overlay f start 0 w bs).latch (overlay f start 0 w bs).kept b.wp ((start + length bs) % f.size))
  stored_next w bs b =
      let now = overlay f start 0 w bs in
      stored_more 0 w bs b
      ∙ ap (λ (n : ℕ). stored_at f start 0 w bs ++ stored_if ((start + n) % f.size) (may_store f now.latch now.kept b.wp ((start + n) % f.size)))
      (zero-add (length bs))

-- ---- what a transfer touched, over one edge more

pub touched_up : (f : Figure) (w : World) (es : List Edge) (b : Bit) (r : Reading) → touched f w (es ++ up b ∷ []) r ≡ touched f w es r
unfolding touched
touched_up f w es b (latches on) = refl
touched_up f w es b (stores start bs) = refl
touched_up f w es b (shows start header) = ap (λ (n : ℕ). places f.size start (begun n)) (falls_up (header * 8) es b)
touched_up f w es b (keeps bs) = refl
touched_up f w es b sleeps = refl
touched_up f w es b idles = refl

-- before the header is whole a READ touched nothing
pub touched_early : (f : Figure) (w : World) (es : List Edge) (start header : ℕ) → length (rises es) < header * 8 → touched f w es (shows start header) ≡ []
unfolding touched places
touched_early f w es start header h = ap (λ (n : ℕ). places f.size start (begun n)) (falls_none (header * 8) es h)

-- the address touched last, as a stage keeps it
unfoldable pub last_from : ℕ → List ℕ → ℕ
last_from last [] = last
last_from last (at ∷ more) = last_from (mark at) more

unfoldable pub last_mark : List ℕ → ℕ
last_mark xs = last_from 0 xs

last_from_lem : (last : ℕ) (xs : List ℕ) (at : ℕ) → last_from last (xs ++ at ∷ []) ≡ mark at
unfolding last_from
last_from_lem last [] at = refl
last_from_lem last (x ∷ xs) at = last_from_lem (mark x) xs at

pub last_more : (xs : List ℕ) (at : ℕ) → last_mark (xs ++ at ∷ []) ≡ mark at
unfolding last_mark
last_more xs at = last_from_lem 0 xs at

pub last_none : last_mark [] ≡ 0
unfolding last_mark last_from
last_none = refl

-- an edge touches one address more, or none
pub data Grows (xs ys : List ℕ) : Type 0 where
  same : ys ≡ xs → Grows xs ys
  more : (at : ℕ) → ys ≡ xs ++ at ∷ [] → Grows xs ys
