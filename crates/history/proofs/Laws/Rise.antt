-- A seen rise of SCK, over the image of the stage: a bit that makes no byte whole changes only the bits of the next byte; a
-- bit that makes one whole takes the image to that of one byte more, and the world with it. Assumes nothing.
use Prim.Native.Nat.{ℕ, suc, ◌+◌, ◌*◌, ◌%◌, ◌<◌, ◌≤◌}
use Rattle.std.proofs.Common.{add_assoc, ◌∙◌, length-append, eqb-true}
use native.Mathlib.Omega.{arith}
use Rattle.std.specs.Prelude.{Bool, false, cond, ◌≡◌, eqb, length, take, drop, Result, Ok, Err}
use Rattle.std.proofs.Math.Bool.{true}
use mathlib.Core.List.{List, [], ◌∷◌, ◌++◌, append_assoc, append-nil}
use Rattle.std.proofs.Math.Path.{refl, sym, ap, subst}
use Rattle.std.proofs.Math.Seq.{drop-nil}
use Rattle.std.proofs.lemmas.Bool.{eqb-false}
use Rattle.parts.specs.FigureLaws.{Fair, Header, one, two}
use Rattle.parts.specs.Commands.{command}
use Rattle.parts.specs.Guards.{may_store, may_keep}
use Rattle.parts.specs.declared.figures.Figure.{Figure}
use Rattle.parts.specs.declared.commands.Command.{Command}
use Rattle.parts.specs.declared.commands.Command.TheVariants.{Wren, Wrdi, Rdsr, Wrsr, Read, Fstrd, Write, Rdid, Snr, Sleep, Other}
use Rattle.parts.specs.declared.guards.Reason.{Reason}
use Rattle.stages.specs.Bits.{no_bits, take_bit}
use Rattle.stages.specs.Wp.{line_of, is_up, came_up, came_with, at_first, byte_wp, byte_came}
use Rattle.stages.specs.Last.{last_by}
use Rattle.stages.specs.Address.{code_page, upper_page, next_address, after_code, after_address}
use Rattle.select.specs.Rise as select
use Rattle.select.specs.Rise.{by_command, store_note, wrote_by, kept_by, opened, code_rise, upper_rise, lower_rise, dummy_rise, write_rise, keep_rise, rise}
use Rattle.stages.specs.declared.bits.Taken.TheVariants.{Part, Whole}
use Rattle.select.specs.declared.rise.Seen.{Seen}
use Rattle.select.specs.declared.rise.Risen.{Risen}
use Rattle.stages.specs.declared.stage.Came.{Came}
use Rattle.stages.specs.declared.stage.Came.TheVariants.{NoByte, NoByteLow, Bytes, BytesLow}
use Rattle.stages.specs.declared.stage.Purpose.{Purpose}
use Rattle.stages.specs.declared.stage.Purpose.TheVariants.{ToRead, ToReadFast, ToWrite}
use Rattle.stages.specs.declared.stage.Stage.{Stage}
use Rattle.stages.specs.declared.stage.Stage.TheVariants.{Upper, Lower, Dummy, Ready, Writing, Over}
use Rattle.stages.specs.declared.stage.End.{End}
use Rattle.stages.specs.declared.stage.End.TheVariants.{Quiet, Drops, Sleeps}
use Rattle.stages.specs.declared.stage.What.TheVariants.{Array}
use Rattle.step.specs.Step.{written}
use Rattle.history.specs.Wire.{Bit}
use Rattle.history.specs.Transfers.{Edge, up, rises}
use Rattle.history.specs.Bytes.{Byte, wrsr_byte, Reading, latches, stores, sleeps, idles, top_bit, number, address, read_as, read_transfer}
use Rattle.history.specs.History.{World, with_latch, store_if, overlaid, overlay, keep_if, keep_first, effect, at_least_one}
use Rattle.history.specs.Rows.{falls_past, stored_if, stored_at, touched}
use Rattle.history.proofs.Laws.Addresses.{next_place_lem, start_one, start_two}
use Rattle.history.proofs.Laws.Edges.{falls_up, falls_none, overlay_next, stored_next, last_from, last_mark}
use Rattle.history.proofs.Laws.Touch.{last_by_lem, data_none}
use Rattle.history.proofs.Laws.Stage.{ends, Ended, over, to_status, to_ident, to_serial, status, ident, serial, came_by, data_of, wrsr_line, Idle, Paged, Settled, Image, code, upper, lower, dummy, ready, showing, writing, keeping, settled}

abbrev pub seen_in : World → Bool → Bool → Seen
seen_in w wp si = record { latch = w.latch; kept = w.kept; wp = wp; si = si }

-- the world after a rise
abbrev pub risen_world : World → Risen → World
risen_world v r = record { latch = r.latch; kept = r.kept; array = written r.note v.array }

-- a rise leads to the image and the world of a reading
pub record Leads (f : Figure) (w v : World) (es : List Edge) (sh : ℕ) (wp : Bool) (n : ℕ) (read : List Byte → Reading) (r : Risen) : Type 0 where
  pub image : Image f w es sh wp n read r.stage
  pub world : risen_world v r ≡ effect f w (read [])

-- where no edge counts any more, a rise changes nothing
data Rested (end : End) (seen : Seen) : Risen → Type 0 where
  rested : {stage : Stage} → Ended end stage → Rested end seen (select.quiet seen stage)

ended_rests : (f : Figure) (seen : Seen) {end : End} {stage : Stage} → Ended end stage → Rested end seen (rise f seen stage)
unfolding rise
ended_rests f seen (over end) = rested (over end)
ended_rests f seen (to_status at) = rested (to_status at)
ended_rests f seen (to_ident at) = rested (to_ident at)
ended_rests f seen (to_serial at) = rested (to_serial at)
ended_rests f seen (status level bit) = rested (status level bit)
ended_rests f seen (ident level bit at) = rested (ident level bit at)
ended_rests f seen (serial level bit at) = rested (serial level bit at)

rested_leads :
    (f : Figure) (w v : World) (es : List Edge) (sh : ℕ) (wp : Bool) (n : ℕ) (pin si : Bool) {read : List Byte → Reading} {r : Risen}
    (now : World → World) (end : End)
    → Settled f read now end → v ≡ effect f w (read []) → Rested end (seen_in v pin si) r → Leads f w v es sh wp n read r
unfolding written
rested_leads f w v es sh wp n pin si now end s e (rested q) = record { image = settled now end s q; world = e }

-- what came takes the level that is its byte's
came_twice : (came : Came) (a b : Bool) → came_with (came_with came a) b ≡ came_with came b
came_twice NoByte true b = refl
came_twice NoByte false b = refl
came_twice NoByteLow true b = refl
came_twice NoByteLow false b = refl
came_twice Bytes true b = refl
came_twice Bytes false b = refl
came_twice BytesLow true b = refl
came_twice BytesLow false b = refl

came_first : (came : Came) (sh : ℕ) (wp pin : Bool) → byte_came (came_with came wp) sh pin ≡ came_with came (at_first sh pin wp)
unfolding byte_came
came_first came sh wp pin = go (eqb sh no_bits)
  where
    go : (t : Bool) → cond t (came_with (came_with came wp) pin) (came_with came wp) ≡ came_with came (cond t pin wp)
    go true = came_twice came wp pin
    go false = refl

-- a status byte takes the level of the fall, or that of its first bit
wp_first : (f : Figure) (fell : Bool) (sh : ℕ) (wp pin : Bool) → byte_wp f (wrsr_line f fell wp) sh pin ≡ wrsr_line f fell (at_first sh pin wp)
unfolding byte_wp
wp_first f fell sh wp pin = go f.wp_at_fall (eqb sh no_bits)
  where
    go : (t u : Bool) → cond t (line_of (cond t fell wp)) (cond u (line_of pin) (line_of (cond t fell wp))) ≡ line_of (cond t fell (cond u pin wp))
    go true u = refl
    go false true = refl
    go false false = refl

-- a bit that makes no byte whole; a data byte goes on with the level of /WP that is its own
pub part_rise :
    (f : Figure) (w v : World) (es : List Edge) (x : Bit) (sh more : ℕ) (wp : Bool) {n : ℕ} {read : List Byte → Reading} {stage : Stage}
    → take_bit sh x.si ≡ Part more → v ≡ effect f w (read []) → Image f w es sh wp n read stage
    → Leads f w v (es ++ up x ∷ []) more (at_first sh x.wp wp) n read (rise f (seen_in v x.wp x.si) stage)
unfolding rise code_rise upper_rise lower_rise dummy_rise write_rise keep_rise written
part_rise f w v es x sh more wp t e (code fell) = rw t (record { image = code fell; world = e })
part_rise f w v es x sh more wp t e (upper purpose pair i l) = rw t (record { image = upper purpose pair i l; world = e })
part_rise f w v es x sh more wp t e (lower purpose page last l) = rw t (record { image = lower purpose page last l; world = e })
part_rise f w v es x sh more wp t e (dummy start header next p) = rw t (record { image = dummy start header next p; world = e })
part_rise f w v es x sh more wp t e (ready start header whole p none) =
    record { image = ready start header whole p (falls_up (header * 8) es x ∙ none); world = e }
part_rise f w v es x sh more wp t e (showing level start header d whole p driven) =
    record { image = showing level start header d whole p (falls_up (header * 8) es x ∙ driven); world = e }
part_rise f w v es x sh more wp t e (writing start done p) =
    rw (t, came_first (came_by done) sh wp x.wp) (record { image = writing start done p; world = e })
part_rise f w v es x sh more wp t e (keeping fell p) = rw (t, wp_first f fell sh wp x.wp) (record { image = keeping fell p; world = e })
part_rise f w v es x sh more wp {n} t e (settled now end s q) =
    rested_leads f w v (es ++ up x ∷ []) more (at_first sh x.wp wp) n x.wp x.si now end s e (ended_rests f (seen_in v x.wp x.si) q)

-- a level that is remembered is the one that came
up_line : (level : Bool) → is_up (line_of level) ≡ level
up_line false = refl
up_line true = refl

up_came : (came : Came) (level : Bool) → came_up (came_with came level) ≡ level
up_came NoByte false = refl
up_came NoByte true = refl
up_came NoByteLow false = refl
up_came NoByteLow true = refl
up_came Bytes false = refl
up_came Bytes true = refl
up_came BytesLow false = refl
up_came BytesLow true = refl

-- a bit that makes a byte whole
module _ (f : Figure) (fair : Fair f) (w v : World) (es : List Edge) (x : Bit) (sh : ℕ)
    (b : Byte) (small : b.value < 256) (t : take_bit sh x.si ≡ Whole b.value) (begun : eqb sh no_bits ≡ false) where
  idle_data : (purpose : Purpose) (at : ℕ) → Idle f (data_of f purpose at [])
  unfolding effect overlay ends at_least_one
  idle_data ToRead at = record { world = λ u. refl; end = refl; touches = λ u es h. data_none f u es ToRead at h }
  idle_data ToReadFast at = record { world = λ u. refl; end = refl; touches = λ u es h. data_none f u es ToReadFast at h }
  idle_data ToWrite at = record { world = λ u. refl; end = refl; touches = λ u es h. data_none f u es ToWrite at h }

  abbrev then : List Edge
  then = es ++ up x ∷ []

  -- the op-code: of a READ or WRITE, by how many address bytes follow
  whole_memory :
      (purpose : Purpose) (read : List Byte → Reading) (count : ℕ) → count ≡ f.address_bytes
      → ((bs : List Byte) → read bs ≡ data_of f purpose (number (top_bit f b.value) (take count bs) % f.size) (drop count bs))
      → Header count f.top
      → Image f w then no_bits true 1 read (cond (eqb count 2) (Upper purpose no_bits) (Lower purpose no_bits (code_page f b.value)))
  whole_memory purpose read count c p (one k n u) =
      rw n
      (lower {read = read} purpose (code_page f b.value) (sym n ∙ c)
      (record {
        before = rw (p [], n) (idle_data purpose _);
        start = λ l. number (top_bit f b.value) (l ∷ []) % f.size;
        follow = λ l bs. rw (p (l ∷ bs), n);
        place = λ l h. start_one f fair b.value l k u h;
      }))
  whole_memory purpose read count c p (two n u) =
      rw n
      (upper {read = read} purpose (sym c ∙ n) (rw (p [], n) (idle_data purpose _)) (λ h.
      record {
        before = rw (p (h ∷ []), n) (idle_data purpose _);
        start = λ l. number (top_bit f b.value) (h ∷ l ∷ []) % f.size;
        follow = λ l bs. rw (p (h ∷ l ∷ bs), n);
        place = λ l q. start_two f fair b.value h l u q;
      }))

  abbrev Led : ℕ → (List Byte → Reading) → Risen → Type 0
  Led n read r = Leads f w v then no_bits true n read r

  -- of any other command
  reads :
      {stage : Stage} (r : Reading) → ((u : World) (fs : List Edge) → touched f u fs r ≡ []) → Ended (ends r) stage
      → Image f w then no_bits true 1 (λ bs. r) stage
  reads r none q = settled (λ u. effect f u r) (ends r) (record { world = λ u bs. refl; close = λ bs. refl; touches = λ u fs bs. none u fs }) q

  whole_op :
      v ≡ w → (fell : Bool) (c : Command)
      → Led 1 (λ bs. read_as f fell b.value bs c) (by_command f (seen_in v x.wp x.si) (wrsr_line f fell true) b.value c)
  unfolding read_as address effect overlay keep_first ends touched written after_code
  whole_op e fell Wren = record { image = reads (latches true) (λ u fs. refl) (over Quiet); world = ap (λ (u : World). with_latch u true) e }
  whole_op e fell Wrdi = record { image = reads (latches false) (λ u fs. refl) (over Quiet); world = ap (λ (u : World). with_latch u false) e }
  whole_op e fell Rdsr = record { image = reads idles (λ u fs. refl) (to_status 0); world = e }
  whole_op e fell Wrsr = record { image = keeping fell (λ bs. refl); world = e }
  whole_op e fell Read = record { image = whole_memory ToRead _ _ refl (λ bs. refl) fair.header; world = e }
  whole_op e fell Fstrd = record { image = whole_memory ToReadFast _ _ refl (λ bs. refl) fair.header; world = e }
  whole_op e fell Write =
      record { image = whole_memory ToWrite _ _ refl (λ bs. refl) fair.header; world = rw (drop-nil f.address_bytes) e }
  whole_op e fell Rdid = record { image = reads idles (λ u fs. refl) (to_ident 0); world = e }
  whole_op e fell Snr = record { image = reads idles (λ u fs. refl) (to_serial 0); world = e }
  whole_op e fell Sleep = record { image = reads sleeps (λ u fs. refl) (over Sleeps); world = e }
  whole_op e fell Other = record { image = reads idles (λ u fs. refl) (over Quiet); world = e }

  -- no fall came past a header that this bit makes whole
  none_past : (header : ℕ) → length (rises es) < header * 8 → falls_past (header * 8) then ≡ 0
  none_past header h = falls_up (header * 8) es x ∙ falls_none (header * 8) es h

  -- the last address byte
  whole_address :
      {n : ℕ} (purpose : Purpose) (page : ℕ) {read : List Byte → Reading} → n ≡ f.address_bytes → length (rises es) ≡ n * 8 + 7
      → v ≡ effect f w (read []) → Paged f purpose page read
      → Led (suc n) (λ bs. read (b ∷ bs)) (select.quiet (seen_in v x.wp x.si) (after_address f purpose page b.value))
  unfolding after_address effect overlay stored_at last_mark last_from written
  whole_address {n} ToRead page last c e l =
      rw (l.place b small)
      (record {
        image = ready {n = suc n} (l.start b) (1 + f.address_bytes) (omega (arith, last)) (l.follow b) (none_past (1 + f.address_bytes) (omega (arith, last, c)));
        world = e ∙ l.before.world w ∙ sym (ap (effect f w) (l.follow b []));
      })
  whole_address {n} ToReadFast page {read} last c e l =
      rw (l.place b small)
      (record {
        image = fast (eqb f.dummy 1) refl;
        world = e ∙ l.before.world w ∙ sym (ap (effect f w) (l.follow b []));
      })
    where
      alone : (d : ℕ) → d ≤ 1 → (d ≡ 1 → ⊥) → d ≡ 0
      alone d h q = omega arith

      at : ℕ
      at = (l.start b + 0) % f.size

      fast : (q : Bool) → eqb f.dummy 1 ≡ q → Image f w then no_bits true (suc n) (λ bs. read (b ∷ bs)) (cond q (Dummy no_bits at) (Ready Array at))
      fast true q =
          let one : f.dummy ≡ 1 = eqb-true f.dummy 1 q in
          dummy {n = suc n} (l.start b) (1 + f.address_bytes + f.dummy) (omega (arith, last, one)) (l.follow b)
      fast false q =
          let none : f.dummy ≡ 0 = alone f.dummy fair.waits (eqb-false f.dummy 1 q) in
          ready {n = suc n} (l.start b) (1 + f.address_bytes + f.dummy) (omega (arith, last, none)) (l.follow b)
          (none_past (1 + f.address_bytes + f.dummy) (omega (arith, last, c)))
  whole_address ToWrite page last c e l =
      rw (l.place b small)
      (record {
        image = writing (l.start b) [] (l.follow b);
        world = e ∙ l.before.world w ∙ sym (ap (effect f w) (l.follow b []));
      })

  -- a data byte of a WRITE, and the status byte
  note_stored :
      (at : ℕ) (verdict : Result (Unit {0}) Reason)
      → record { latch = v.latch; kept = v.kept; array = written (store_note at b.value verdict) v.array }
      ≡ store_if v at b verdict
  unfolding written store_if
  note_stored at (Ok allowed) = refl
  note_stored at (Err reason) = refl

  came_more : (done : List Byte) → came_by (done ++ b ∷ []) ≡ Bytes
  came_more [] = refl
  came_more (d ∷ done) = refl

  module _ (start : ℕ) (done : List Byte) (is : v ≡ overlay f start 0 w done) where
    abbrev at : ℕ
    at = (start + length done) % f.size

    abbrev verdict : Result (Unit {0}) Reason
    verdict = may_store f v.latch v.kept b.wp at

    -- the byte that is stored last, and the next address
    last_is : last_mark (stored_at f start 0 w (done ++ b ∷ [])) ≡ last_by (last_mark (stored_at f start 0 w done)) at verdict
    last_is =
        ap last_mark
        (stored_next f start w done b
        ∙ ap (λ (u : World). stored_at f start 0 w done ++ stored_if at (may_store f u.latch u.kept b.wp at)) (sym is))
        ∙ sym (last_by_lem (stored_at f start 0 w done) at verdict)

    next_is : (start + length (done ++ b ∷ [])) % f.size ≡ next_address f at
    next_is =
        ap (λ (k : ℕ). (start + k) % f.size) (length-append done (b ∷ []))
        ∙ ap (λ (k : ℕ). k % f.size) (sym (add_assoc start (length done) 1))
        ∙ sym (next_place_lem f fair (start + length done))

    stage_is :
        Writing (came_with (came_by (done ++ b ∷ [])) true) no_bits (last_mark (stored_at f start 0 w (done ++ b ∷ []))) ((start + length (done ++ b ∷ [])) % f.size)
        ≡ Writing Bytes no_bits (last_by (last_mark (stored_at f start 0 w done)) at verdict) (next_address f at)
    stage_is = λ i. Writing (came_with (came_more done i) true) no_bits (last_is i) (next_is i)

    whole_data :
        {n : ℕ} {read : List Byte → Reading} → ((bs : List Byte) → read bs ≡ stores start (done ++ bs))
        → Led (suc n) (λ bs. read (b ∷ bs))
        (wrote_by f (seen_in v x.wp x.si) (last_mark (stored_at f start 0 w done)) at b.value verdict)
    unfolding effect
    whole_data {n} {read} p =
        record {
          image =
              subst (Image f w then no_bits true (suc n) (λ bs. read (b ∷ bs))) stage_is
              (writing start (done ++ b ∷ []) (λ bs. p (b ∷ bs) ∙ ap (stores start) (sym (append_assoc done (b ∷ []) bs))));
          world =
              note_stored at verdict ∙ ap (λ (u : World). overlaid f u at b) is ∙ sym (overlay_next f start w done b)
              ∙ sym (ap (effect f w) (p (b ∷ [])));
        }

  note_kept :
      {n : ℕ} (read : List Byte → Reading) (fell : Bool) (verdict : Result (Unit {0}) Reason) → Image f w then no_bits true n (λ bs. read (b ∷ bs)) (Over Drops)
      → keep_if f v (wrsr_byte f fell b) verdict ≡ effect f w (read (b ∷ []))
      → Led n (λ bs. read (b ∷ bs)) (kept_by f (seen_in v x.wp x.si) b.value verdict)
  unfolding written keep_if
  note_kept read fell (Ok allowed) i e = record { image = i; world = e }
  note_kept read fell (Err reason) i e = record { image = i; world = e }

  -- past the first bit the level stays, and it is the byte's
  own : at_first sh x.wp b.wp ≡ b.wp
  own = rw begun

  pub whole_rise :
      {n : ℕ} {read : List Byte → Reading} {stage : Stage} → length (rises es) ≡ n * 8 + 7 → v ≡ effect f w (read [])
      → Image f w es sh b.wp n read stage → Led (suc n) (λ bs. read (b ∷ bs)) (rise f (seen_in v x.wp x.si) stage)
  unfolding rise read_transfer effect keep_first ends at_least_one touched code_rise opened upper_rise lower_rise dummy_rise write_rise keep_rise written
  whole_rise c e (code fell) = rw t (whole_op e fell (command f.ops b.value))
  whole_rise c e (upper purpose pair i l) =
      rw t
      (record {
        image = lower purpose (upper_page f b.value) (sym pair) (l b);
        world = e ∙ i.world w ∙ sym ((l b).before.world w);
      })
  whole_rise c e (lower purpose page last l) = rw t (whole_address purpose page last c e l)
  whole_rise {n} c e (dummy start header next p) =
      rw t
      (record {
        image = ready {n = suc n} start header (omega (arith, next)) (λ bs. p (b ∷ bs)) (none_past header (omega (arith, next, c)));
        world = e ∙ ap (effect f w) (p [] ∙ sym (p (b ∷ [])));
      })
  whole_rise {n} c e (ready start header whole p none) =
      record {
        image = ready {n = suc n} start header (omega (arith, whole)) (λ bs. p (b ∷ bs)) (falls_up (header * 8) es x ∙ none);
        world = e ∙ ap (effect f w) (p [] ∙ sym (p (b ∷ [])));
      }
  whole_rise {n} c e (showing level start header d whole p driven) =
      record {
        image = showing {n = suc n} level start header d (omega (arith, whole)) (λ bs. p (b ∷ bs)) (falls_up (header * 8) es x ∙ driven);
        world = e ∙ ap (effect f w) (p [] ∙ sym (p (b ∷ [])));
      }
  whole_rise c e (writing start done p) =
      rw (t, came_first (came_by done) sh b.wp x.wp, own, up_came (came_by done) b.wp)
      (whole_data start done (e ∙ ap (effect f w) (p []) ∙ ap (overlay f start 0 w) (append-nil done)) p)
  whole_rise {read = read} c e (keeping fell p) =
      rw (t, wp_first f fell sh b.wp x.wp, own, up_line (wrsr_byte f fell b).wp)
      (note_kept read fell (may_keep f v.latch v.kept (wrsr_byte f fell b).wp)
      (settled (λ w. keep_first f w (wrsr_byte f fell b ∷ [])) Drops
      (record {
        world = λ u bs. ap (effect f u) (p (b ∷ bs));
        close = λ bs. ap ends (p (b ∷ bs));
        touches = λ u fs bs. ap (touched f u fs) (p (b ∷ bs));
      })
      (over Drops))
      (ap (λ (u : World). keep_first f u (wrsr_byte f fell b ∷ [])) (e ∙ ap (effect f w) (p [])) ∙ sym (ap (effect f w) (p (b ∷ [])))))
  whole_rise {n} c e (settled now end s q) =
      rested_leads f w v then no_bits true (suc n) x.wp x.si now end
      (record { world = λ u bs. s.world u (b ∷ bs); close = λ bs. s.close (b ∷ bs); touches = λ u fs bs. s.touches u fs (b ∷ bs) })
      (e ∙ s.world w [] ∙ sym (s.world w (b ∷ []))) (ended_rests f (seen_in v x.wp x.si) q)
