-- The bytes that a transfer touched, over the image of the stage: the stage keeps the last one, and an edge adds one or none. A READ adds
-- one at each eighth fall past its header, a WRITE at each byte that is stored. Assumes nothing.
use Rattle.std.specs.Prelude.{ℕ, suc, ◌+◌, ◌*◌, ◌/◌, ◌%◌, ◌<◌, Bool, true, false, ◌≡◌, eqb, Result, Ok, Err}
use Rattle.std.proofs.Common.{arith, ◌∙◌, eqb-true}
use mathlib.Core.List.{List, [], ◌∷◌, ◌++◌, append-nil}
use Rattle.std.proofs.Math.Path.{refl, sym, ap}
use Rattle.std.proofs.Math.ListN.{length}
use Rattle.std.proofs.Math.Seq.{drop-nil}
use Rattle.std.proofs.lemmas.Bool.{eqb-false}
use Rattle.parts.specs.Commands.{command}
use Rattle.parts.specs.Guards.{may_store}
use Rattle.parts.specs.declared.figures.Figure.{Figure}
use Rattle.parts.specs.declared.commands.Command.{Command}
use Rattle.parts.specs.declared.commands.Command.TheVariants.{Wren, Wrdi, Rdsr, Wrsr, Read, Fstrd, Write, Rdid, Snr, Sleep, Other}
use Rattle.parts.specs.declared.guards.Reason.{Reason}
use Rattle.stages.specs.Last.{last_by, last_of}
use Rattle.stages.specs.declared.stage.End.{End}
use Rattle.stages.specs.declared.stage.Purpose.{Purpose}
use Rattle.stages.specs.declared.stage.Purpose.TheVariants.{ToRead, ToReadFast, ToWrite}
use Rattle.stages.specs.declared.stage.Stage.{Stage}
use Rattle.history.specs.Transfers.{Edge, down, rises}
use Rattle.history.specs.Bytes.{Byte, Reading, stores, shows, read_as, read_transfer}
use Rattle.history.specs.History.{World, overlay}
use Rattle.history.specs.Rows.{falls_past, begun, places, stored_if, stored_at, touched}
use Rattle.history.proofs.Laws.Edges.{rises_down, falls_down, places_more, stored_next, touched_early, last_mark, last_more, last_none, Grows, same, more}
use Rattle.history.proofs.Laws.Stage.{Ended, over, to_status, to_ident, to_serial, status, ident, serial, data_of, Image, code, upper, lower, dummy, ready, showing, writing, keeping, settled}

-- a byte more or none, by whether it is stored
pub grows_by : {xs ys : List ℕ} (at : ℕ) (v : Result (Unit {0}) Reason) → ys ≡ xs ++ stored_if at v → Grows xs ys
grows_by at (Ok allowed) e = more at e
grows_by {xs = xs} at (Err reason) e = same (e ∙ append-nil xs)

pub last_by_lem : (xs : List ℕ) (at : ℕ) (v : Result (Unit {0}) Reason) → last_by (last_mark xs) at v ≡ last_mark (xs ++ stored_if at v)
last_by_lem xs at (Ok allowed) = sym (last_more xs at)
last_by_lem xs at (Err reason) = ap last_mark (sym (append-nil xs))

-- the bytes begun, by the falls that drove a bit
begun_is : (d : ℕ) → begun (d + 1) ≡ suc (d / 8)
begun_is d = omega arith

ended_last : {end : End} {stage : Stage} → Ended end stage → last_of stage ≡ 0
ended_last (over end) = refl
ended_last (to_status at) = refl
ended_last (to_ident at) = refl
ended_last (to_serial at) = refl
ended_last (status level bit) = refl
ended_last (ident level bit at) = refl
ended_last (serial level bit at) = refl

none_last : {xs : List ℕ} → xs ≡ [] → 0 ≡ last_mark xs
none_last e = sym (ap last_mark e ∙ last_none)

none_both : {xs ys : List ℕ} → xs ≡ [] → ys ≡ [] → Grows xs ys
none_both p q = same (q ∙ sym p)

module _ (f : Figure) (w : World) where
  -- what a READ touched
  shown : (es : List Edge) {r : Reading} (start header driven : ℕ) → r ≡ shows start header → falls_past (header * 8) es ≡ driven
      → touched f w es r ≡ places f.size start (begun driven)
  unfolding touched
  shown es start header driven p e = ap (touched f w es) p ∙ ap (λ (n : ℕ). places f.size start (begun n)) e

  -- what a WRITE touched
  wrote : (es : List Edge) {r : Reading} (start : ℕ) (bs : List Byte) → r ≡ stores start bs → touched f w es r ≡ stored_at f start 0 w bs
  unfolding touched
  wrote es start bs p = ap (touched f w es) p

  -- a fall goes on to the next bit, or begins the next byte
  shown_grows : (es : List Edge) {r : Reading} (start header d : ℕ) → r ≡ shows start header → falls_past (header * 8) es ≡ d + 1
      → falls_past (header * 8) (es ++ down ∷ []) ≡ d + 1 + 1 → Grows (touched f w es r) (touched f w (es ++ down ∷ []) r)
  shown_grows es {r} start header d p driven goes = go (eqb (d % 8) 7) refl
    where
      first : touched f w es r ≡ places f.size start (suc (d / 8))
      first = shown es start header (d + 1) p driven ∙ ap (places f.size start) (begun_is d)

      then : touched f w (es ++ down ∷ []) r ≡ places f.size start (suc ((d + 1) / 8))
      then = shown (es ++ down ∷ []) start header (d + 1 + 1) p goes ∙ ap (places f.size start) (begun_is (d + 1))

      next : d % 8 ≡ 7 → suc ((d + 1) / 8) ≡ suc (suc (d / 8))
      next e = omega arith

      stay : (d % 8 ≡ 7 → ⊥) → suc ((d + 1) / 8) ≡ suc (d / 8)
      stay e = omega arith

      go : (t : Bool) → eqb (d % 8) 7 ≡ t → Grows (touched f w es r) (touched f w (es ++ down ∷ []) r)
      go true e =
          more ((start + suc (d / 8)) % f.size)
          (then ∙ ap (places f.size start) (next (eqb-true _ _ e)) ∙ places_more f.size start (suc (d / 8))
          ∙ ap (λ (xs : List ℕ). xs ++ (start + suc (d / 8)) % f.size ∷ []) (sym first))
      go false e = same (then ∙ ap (places f.size start) (stay (eqb-false _ _ e)) ∙ sym first)

  -- before the address is whole a transfer touched nothing
  opens_none : (es : List Edge) (fell : Bool) (op : ℕ) (c : Command) → length (rises es) < 8 → touched f w es (read_as f fell op [] c) ≡ []
  unfolding read_as touched stored_at
  opens_none es fell op Wren h = refl
  opens_none es fell op Wrdi h = refl
  opens_none es fell op Rdsr h = refl
  opens_none es fell op Wrsr h = refl
  opens_none es fell op Read h = touched_early f w es _ (1 + f.address_bytes) (omega arith)
  opens_none es fell op Fstrd h = touched_early f w es _ (1 + f.address_bytes + f.dummy) (omega arith)
  opens_none es fell op Write h = ap (stored_at f _ 0 w) (drop-nil f.address_bytes)
  opens_none es fell op Rdid h = refl
  opens_none es fell op Snr h = refl
  opens_none es fell op Sleep h = refl
  opens_none es fell op Other h = refl

  pub data_none : (es : List Edge) (purpose : Purpose) (start : ℕ) → length (rises es) < (1 + f.address_bytes) * 8 → touched f w es (data_of f purpose start []) ≡ []
  unfolding touched stored_at
  data_none es ToRead start h = touched_early f w es start (1 + f.address_bytes) h
  data_none es ToReadFast start h = touched_early f w es start (1 + f.address_bytes + f.dummy) (omega (arith, h))
  data_none es ToWrite start h = refl

  module _ (es : List Edge) {sh : ℕ} {wp : Bool} where
    pub image_last : {n : ℕ} {read : List Byte → Reading} {stage : Stage} (m : ℕ) → m < 8 → length (rises es) ≡ n * 8 + m
        → Image f w es sh wp n read stage → last_of stage ≡ last_mark (touched f w es (read []))
    unfolding read_transfer touched places
    image_last m h c (code fell) = sym last_none
    image_last m h c (upper purpose two i l) = none_last (i.touches w es (omega (arith, two, c, h)))
    image_last m h c (lower purpose page last l) = none_last (l.before.touches w es (omega (arith, last, c, h)))
    image_last m h c (dummy start header next p) =
        none_last (ap (touched f w es) (p []) ∙ touched_early f w es start header (omega (arith, next, c, h)))
    image_last m h c (ready start header whole p none) = none_last (shown es start header 0 (p []) none)
    image_last m h c (showing level start header d whole p driven) =
        sym (ap last_mark (shown es start header (d + 1) (p []) driven ∙ ap (places f.size start) (begun_is d) ∙ places_more f.size start (d / 8))
        ∙ last_more (places f.size start (d / 8)) ((start + d / 8) % f.size))
    image_last m h c (writing start done p) =
        sym (ap last_mark (wrote es start (done ++ []) (p []) ∙ ap (stored_at f start 0 w) (append-nil done)))
    image_last m h c (keeping fell p) = none_last (ap (touched f w es) (p []))
    image_last m h c (settled now end s e) = ended_last e ∙ none_last (s.touches w es [])

    -- a fall
    pub fall_grows : {n : ℕ} {read : List Byte → Reading} {stage : Stage} (m : ℕ) → m < 8 → length (rises es) ≡ n * 8 + m
        → Image f w es sh wp n read stage → Grows (touched f w es (read [])) (touched f w (es ++ down ∷ []) (read []))
    unfolding read_transfer touched places
    fall_grows m h c (code fell) = same refl
    fall_grows m h c (upper purpose two i l) =
        none_both (i.touches w es (omega (arith, two, c, h))) (i.touches w (es ++ down ∷ []) (rw (rises_down es) (omega (arith, two, c, h))))
    fall_grows m h c (lower purpose page last l) =
        none_both (l.before.touches w es (omega (arith, last, c, h))) (l.before.touches w (es ++ down ∷ []) (rw (rises_down es) (omega (arith, last, c, h))))
    fall_grows m h c (dummy start header next p) =
        none_both (ap (touched f w es) (p []) ∙ touched_early f w es start header (omega (arith, next, c, h)))
        (ap (touched f w (es ++ down ∷ [])) (p []) ∙ touched_early f w (es ++ down ∷ []) start header (rw (rises_down es) (omega (arith, next, c, h))))
    fall_grows m h c (ready start header whole p none) =
        more (start % f.size)
        (shown (es ++ down ∷ []) start header 1 (p []) (falls_down (header * 8) es (omega (arith, c)) ∙ ap (λ (k : ℕ). k + 1) none)
        ∙ ap (λ (xs : List ℕ). xs ++ start % f.size ∷ []) (sym (shown es start header 0 (p []) none)))
    fall_grows m h c (showing level start header d whole p driven) =
        shown_grows es start header d (p []) driven (falls_down (header * 8) es (omega (arith, c)) ∙ ap (λ (k : ℕ). k + 1) driven)
    fall_grows m h c (writing start done p) = same (wrote (es ++ down ∷ []) start (done ++ []) (p []) ∙ sym (wrote es start (done ++ []) (p [])))
    fall_grows m h c (keeping fell p) = none_both (ap (touched f w es) (p [])) (ap (touched f w (es ++ down ∷ [])) (p []))
    fall_grows m h c (settled now end s e) = none_both (s.touches w es []) (s.touches w (es ++ down ∷ []) [])

    -- a whole byte
    pub whole_grows : (b : Byte) {n : ℕ} {read : List Byte → Reading} {stage : Stage} → length (rises es) ≡ n * 8 + 7
        → Image f w es sh wp n read stage → Grows (touched f w es (read [])) (touched f w es (read (b ∷ [])))
    unfolding read_transfer touched
    whole_grows b c (code fell) = same (opens_none es fell b.value (command f.ops b.value) (omega (arith, c)))
    whole_grows b c (upper purpose two i l) =
        none_both (i.touches w es (omega (arith, two, c))) ((l b).before.touches w es (omega (arith, two, c)))
    whole_grows b c (lower purpose page last l) =
        none_both (l.before.touches w es (omega (arith, last, c)))
        (ap (touched f w es) (l.follow b []) ∙ data_none es purpose (l.start b) (omega (arith, last, c)))
    whole_grows b c (dummy start header next p) = same (ap (touched f w es) (p (b ∷ []) ∙ sym (p [])))
    whole_grows b c (ready start header whole p none) = same (ap (touched f w es) (p (b ∷ []) ∙ sym (p [])))
    whole_grows b c (showing level start header d whole p driven) = same (ap (touched f w es) (p (b ∷ []) ∙ sym (p [])))
    whole_grows b c (writing start done p) =
        let at = (start + length done) % f.size in
        let now = overlay f start 0 w done in
        grows_by at (may_store f now.latch now.kept b.wp at)
        (wrote es start (done ++ b ∷ []) (p (b ∷ [])) ∙ stored_next f start w done b
        ∙ ap (λ (xs : List ℕ). xs ++ stored_if at (may_store f now.latch now.kept b.wp at))
        (sym (wrote es start (done ++ []) (p []) ∙ ap (stored_at f start 0 w) (append-nil done))))
    whole_grows b c (keeping fell p) = none_both (ap (touched f w es) (p [])) (ap (touched f w es) (p (b ∷ [])))
    whole_grows b c (settled now end s e) = none_both (s.touches w es []) (s.touches w es (b ∷ []))
