-- The stage that a chip is in, over how its transfer would be read whatever bytes followed: `read bs` is the reading of the
-- whole bytes so far and then `bs`. Assumes nothing.
use Rattle.std.specs.Prelude.{ℕ, suc, ◌+◌, ◌*◌, ◌-◌, ◌/◌, ◌%◌, ◌<◌, ◌≤◌, Bool, cond, ◌≡◌, eqb, ltb}
use Rattle.std.proofs.Common.{arith, ◌∙◌, eqb-true}
use Rattle.std.proofs.Math.Bool.{true, false}
use mathlib.Core.List.{List, [], ◌∷◌, ◌++◌, map}
use Rattle.std.proofs.Math.Path.{refl, sym, ap}
use Rattle.std.proofs.Math.ListN.{length}
use Rattle.std.proofs.lemmas.Bool.{eqb-false}
use Rattle.parts.specs.Figures.{ident_bytes}
use Rattle.parts.specs.FigureLaws.{Fair}
use Rattle.parts.specs.declared.figures.Figure.{Figure}
use Rattle.stages.specs.Address.{upper_page, next_address}
use Rattle.stages.specs.Close as close
use Rattle.stages.specs.Wp.{line_of, came_with}
use Rattle.select.specs.Fall.{fall, show_array, show_status, show_ident, next_ident, show_serial, next_serial}
use Rattle.stages.specs.declared.stage.Came.{Came}
use Rattle.stages.specs.declared.stage.Came.TheVariants.{NoByte, Bytes}
use Rattle.stages.specs.declared.stage.End.{End}
use Rattle.stages.specs.declared.stage.End.TheVariants.{Quiet, Drops, Sleeps}
use Rattle.stages.specs.declared.stage.Line.{Line}
use Rattle.stages.specs.declared.stage.Purpose.{Purpose}
use Rattle.stages.specs.declared.stage.Purpose.TheVariants.{ToRead, ToReadFast, ToWrite}
use Rattle.stages.specs.declared.stage.What.TheVariants.{Array, Status, Ident, Serial}
use Rattle.stages.specs.declared.stage.Stage.{Stage}
use Rattle.stages.specs.declared.stage.Stage.TheVariants.{Closed, Asleep, Code, Upper, Lower, Dummy, Ready, ArrayOut, StatusOut, IdentOut, SerialOut, Writing, Keeping, Over}
use Rattle.history.specs.Transfers.{Edge, down, rises}
use Rattle.history.specs.Bytes.{Byte, wrsr_byte, Reading, latches, stores, shows, keeps, sleeps, idles, read_transfer}
use Rattle.history.specs.History.{World, effect, at_least_one, latch_drops, is_sleep}
use Rattle.history.specs.Rows.{falls_past, stored_at, touched}
use Rattle.history.proofs.Laws.Addresses.{next_place_lem}
use Rattle.history.proofs.Laws.Edges.{falls_down, last_mark}

-- what the close of a transfer that reads so does besides
abbrev pub drops_if : Bool → End
drops_if came = cond came Drops Quiet

unfoldable pub ends : Reading → End
ends (latches on) = Quiet
ends (stores start bs) = drops_if (at_least_one bs)
ends (shows start header) = Quiet
ends (keeps bs) = drops_if (at_least_one bs)
ends sleeps = Sleeps
ends idles = Quiet

drops_if_lem : (came : Bool) → close.drops_at (drops_if came) ≡ came
drops_if_lem true = refl
drops_if_lem false = refl

pub ends_drops : (r : Reading) → close.drops_at (ends r) ≡ latch_drops r
unfolding ends latch_drops
ends_drops (latches on) = refl
ends_drops (stores start bs) = drops_if_lem (at_least_one bs)
ends_drops (shows start header) = refl
ends_drops (keeps bs) = drops_if_lem (at_least_one bs)
ends_drops sleeps = refl
ends_drops idles = refl

-- with no select open a chip sleeps or not
abbrev pub shut_stage : Bool → Stage
shut_stage asleep = cond asleep Asleep Closed

awake_if : (came : Bool) → close.closed_by (drops_if came) ≡ Closed
awake_if true = refl
awake_if false = refl

pub ends_asleep : (r : Reading) → close.closed_by (ends r) ≡ shut_stage (is_sleep r)
unfolding ends is_sleep
ends_asleep (latches on) = refl
ends_asleep (stores start bs) = awake_if (at_least_one bs)
ends_asleep (shows start header) = refl
ends_asleep (keeps bs) = awake_if (at_least_one bs)
ends_asleep sleeps = refl
ends_asleep idles = refl

-- the stages at which no edge counts any more, by what the close does besides: an RDSR, RDID or SNR only shows, and no byte of the array
pub data Ended : End → Stage → Type 0 where
  over : (end : End) → Ended end (Over end)
  to_status : (at : ℕ) → Ended Quiet (Ready Status at)
  to_ident : (at : ℕ) → Ended Quiet (Ready Ident at)
  to_serial : (at : ℕ) → Ended Quiet (Ready Serial at)
  status : (level : Line) (bit : ℕ) → Ended Quiet (StatusOut level bit)
  ident : (level : Line) (bit at : ℕ) → Ended Quiet (IdentOut level bit at)
  serial : (level : Line) (bit at : ℕ) → Ended Quiet (SerialOut level bit at)

-- what came of a WRITE's data
abbrev pub came_by : List Byte → Came
came_by [] = NoByte
came_by (b ∷ bs) = Bytes

module _ (f : Figure) where
  -- the level of /WP that a status byte has, by that of the fall and that of its first bit
  abbrev pub wrsr_line : Bool → Bool → Line
  wrsr_line fell wp = line_of (cond f.wp_at_fall fell wp)

  -- the data of a WRITE from an address on; what a READ or FSTRD shows from there
  abbrev pub data_of : Purpose → ℕ → List Byte → Reading
  data_of ToRead at bs = shows at (1 + f.address_bytes)
  data_of ToReadFast at bs = shows at (1 + f.address_bytes + f.dummy)
  data_of ToWrite at bs = stores at bs

  -- nothing comes of a reading, and with the address not whole it touched nothing
  pub record Idle (r : Reading) : Type 0 where
    pub world : (w : World) → effect f w r ≡ w
    pub end : ends r ≡ Quiet
    pub touches : (w : World) (es : List Edge) → length (rises es) < (1 + f.address_bytes) * 8 → touched f w es r ≡ []

  -- the last address byte is next, with its page known: nothing comes of the transfer before it, and data follow it
  pub record Paged (purpose : Purpose) (page : ℕ) (read : List Byte → Reading) : Type 0 where
    pub before : Idle (read [])
    pub start : Byte → ℕ
    pub follow : (b : Byte) (bs : List Byte) → read (b ∷ bs) ≡ data_of purpose (start b) bs
    pub place : (b : Byte) → b.value < 256 → page * 256 + b.value ≡ (start b + 0) % f.size

  -- whatever follows, the world stays as it is now, and so does what the close does besides, and nothing is touched
  pub record Settled (read : List Byte → Reading) (now : World → World) (end : End) : Type 0 where
    pub world : (w : World) (bs : List Byte) → effect f w (read bs) ≡ now w
    pub close : (bs : List Byte) → ends (read bs) ≡ end
    pub touches : (w : World) (es : List Edge) (bs : List Byte) → touched f w es (read bs) ≡ []

-- what a stage is to the history, over the world before the transfer and the edges so far: `sh` for the bits of the next byte and `wp`
-- for its level of /WP, after so many whole bytes
module _ (f : Figure) (w : World) where
  pub data Image (es : List Edge) (sh : ℕ) (wp : Bool) : ℕ → (List Byte → Reading) → Stage → Type 0 where
    code : (fell : Bool) → Image es sh wp 0 (read_transfer f fell) (Code (wrsr_line f fell true) sh)
    upper :
        {read : List Byte → Reading} (purpose : Purpose) → f.address_bytes ≡ 2 → Idle f (read [])
        → ((u : Byte) → Paged f purpose (upper_page f u.value) (λ bs. read (u ∷ bs))) → Image es sh wp 1 read (Upper purpose sh)
    lower :
        {n : ℕ} {read : List Byte → Reading} (purpose : Purpose) (page : ℕ) → n ≡ f.address_bytes → Paged f purpose page read
        → Image es sh wp n read (Lower purpose sh page)
    dummy :
        {n : ℕ} {read : List Byte → Reading} (start header : ℕ) → header ≡ suc n → ((bs : List Byte) → read bs ≡ shows start header)
        → Image es sh wp n read (Dummy sh ((start + 0) % f.size))
    ready :
        {n : ℕ} {read : List Byte → Reading} (start header : ℕ) → header ≤ n → ((bs : List Byte) → read bs ≡ shows start header)
        → falls_past (header * 8) es ≡ 0 → Image es sh wp n read (Ready Array ((start + 0) % f.size))
    showing :
        {n : ℕ} {read : List Byte → Reading} (level : Line) (start header d : ℕ) → header ≤ n → ((bs : List Byte) → read bs ≡ shows start header)
        → falls_past (header * 8) es ≡ d + 1 → Image es sh wp n read (ArrayOut level (7 - d % 8) ((start + d / 8) % f.size))
    writing :
        {n : ℕ} {read : List Byte → Reading} (start : ℕ) (done : List Byte) → ((bs : List Byte) → read bs ≡ stores start (done ++ bs))
        → Image es sh wp n read (Writing (came_with (came_by done) wp) sh (last_mark (stored_at f start 0 w done)) ((start + length done) % f.size))
    keeping :
        {n : ℕ} {read : List Byte → Reading} (fell : Bool)
        → ((bs : List Byte) → read bs ≡ keeps (map (wrsr_byte f fell) bs)) → Image es sh wp n read (Keeping (wrsr_line f fell wp) sh)
    settled :
        {n : ℕ} {read : List Byte → Reading} {stage : Stage} (now : World → World) (end : End)
        → Settled f read now end → Ended end stage → Image es sh wp n read stage

  -- it is an open select's
  ended_open : {end : End} {stage : Stage} → Ended end stage → close.is_closed stage ≡ false
  ended_open (over end) = refl
  ended_open (to_status at) = refl
  ended_open (to_ident at) = refl
  ended_open (to_serial at) = refl
  ended_open (status level bit) = refl
  ended_open (ident level bit at) = refl
  ended_open (serial level bit at) = refl

  module _ {es : List Edge} {sh : ℕ} {wp : Bool} where
    pub image_open : {n : ℕ} {read : List Byte → Reading} {stage : Stage} → Image es sh wp n read stage → close.is_closed stage ≡ false
    image_open (code fell) = refl
    image_open (upper purpose two i l) = refl
    image_open (lower purpose page last l) = refl
    image_open (dummy start header next p) = refl
    image_open (ready start header whole p none) = refl
    image_open (showing level start header d whole p driven) = refl
    image_open (writing start done p) = refl
    image_open (keeping fell p) = refl
    image_open (settled now end s e) = ended_open e

  -- its close does what the reading says
  ended_ends : {end : End} {stage : Stage} → Ended end stage → close.end_of stage ≡ end
  ended_ends (over end) = refl
  ended_ends (to_status at) = refl
  ended_ends (to_ident at) = refl
  ended_ends (to_serial at) = refl
  ended_ends (status level bit) = refl
  ended_ends (ident level bit at) = refl
  ended_ends (serial level bit at) = refl

  came_ends : (done : List Byte) (wp : Bool) (sh last at : ℕ) → close.end_of (Writing (came_with (came_by done) wp) sh last at) ≡ drops_if (at_least_one (done ++ []))
  unfolding at_least_one
  came_ends [] true sh last at = refl
  came_ends [] false sh last at = refl
  came_ends (b ∷ bs) true sh last at = refl
  came_ends (b ∷ bs) false sh last at = refl

  module _ {es : List Edge} {sh : ℕ} {wp : Bool} where
    pub image_ends : {n : ℕ} {read : List Byte → Reading} {stage : Stage} → Image es sh wp n read stage → close.end_of stage ≡ ends (read [])
    unfolding read_transfer ends at_least_one
    image_ends (code fell) = refl
    image_ends (upper purpose two i l) = sym i.end
    image_ends (lower purpose page last l) = sym l.before.end
    image_ends (dummy start header next p) = sym (ap ends (p []))
    image_ends (ready start header whole p none) = sym (ap ends (p []))
    image_ends (showing level start header d whole p driven) = sym (ap ends (p []))
    image_ends (writing start done p) =
        came_ends done wp sh (last_mark (stored_at f start 0 w done)) ((start + length done) % f.size) ∙ sym (ap ends (p []))
    image_ends (keeping fell p) = sym (ap ends (p []))
    image_ends (settled now end s e) = ended_ends e ∙ sym (s.close [])

-- a fall of SCK moves only what is shown: the next bit, or with bit 0 shown bit 7 of the next byte
next_byte : (d : ℕ) → 7 - d % 8 ≡ 0 → (7 ≡ 7 - (d + 1) % 8) × (d / 8 + 1 ≡ (d + 1) / 8)
next_byte d e = (omega arith, omega arith)

next_bit : (d : ℕ) → (7 - d % 8 ≡ 0 → ⊥) → (7 - d % 8 - 1 ≡ 7 - (d + 1) % 8) × (d / 8 ≡ (d + 1) / 8)
next_bit d e = (omega arith, omega arith)

further : (a b : ℕ) → a + b + 1 ≡ a + (b + 1)
further a b = omega arith

module _ (f : Figure) (own xs : List ℕ) (level : ℕ) where
  ended_fall : {end : End} {stage : Stage} → Ended end stage → Ended end (fall f own xs level stage)
  unfolding fall show_array show_status show_ident next_ident show_serial next_serial
  ended_fall (over end) = over end
  ended_fall (to_status at) = status _ 7
  ended_fall (to_ident at) = ident _ 7 at
  ended_fall (to_serial at) = serial _ 7 at
  ended_fall (status line bit) = go (eqb bit 0)
    where
      go : (t : Bool) → Ended Quiet (cond t (Over Quiet) (show_status level (bit - 1)))
      go true = over Quiet
      go false = status _ (bit - 1)
  ended_fall (ident line bit at) = go (eqb bit 0) (ltb at (ident_bytes - 1))
    where
      go : (t u : Bool) → Ended Quiet (cond t (cond u (show_ident f (at + 1) 7) (Over Quiet)) (show_ident f at (bit - 1)))
      go true true = ident _ 7 (at + 1)
      go true false = over Quiet
      go false u = ident _ (bit - 1) at
  ended_fall (serial line bit at) = go (eqb bit 0) (ltb (at + 1) f.serial)
    where
      go : (t u : Bool) → Ended Quiet (cond t (cond u (show_serial own (at + 1) 7) (Over Quiet)) (show_serial own at (bit - 1)))
      go true true = serial _ 7 (at + 1)
      go true false = over Quiet
      go false u = serial _ (bit - 1) at

  module _ (fair : Fair f) (w : World) (es : List Edge) where
    shown_fall :
        {sh : ℕ} {wp : Bool} {n : ℕ} {read : List Byte → Reading} (start header d : ℕ) → header ≤ n → ((bs : List Byte) → read bs ≡ shows start header)
        → falls_past (header * 8) (es ++ down ∷ []) ≡ d + 1 + 1 → (t : Bool) → eqb (7 - d % 8) 0 ≡ t
        → Image f w (es ++ down ∷ []) sh wp n read
        (cond t (show_array xs (next_address f ((start + d / 8) % f.size)) 7) (show_array xs ((start + d / 8) % f.size) (7 - d % 8 - 1)))
    unfolding show_array
    shown_fall start header d whole p driven true e =
        let next = next_byte d (eqb-true _ _ e) in
        rw (next_place_lem f fair (start + d / 8), further start (d / 8), next.1, next.0) (showing _ start header (d + 1) whole p driven)
    shown_fall start header d whole p driven false e =
        let next = next_bit d (eqb-false _ _ e) in
        rw (next.1, next.0) (showing _ start header (d + 1) whole p driven)

    pub image_fall : {sh : ℕ} {wp : Bool} {n : ℕ} {read : List Byte → Reading} {stage : Stage} → n * 8 ≤ length (rises es)
        → Image f w es sh wp n read stage → Image f w (es ++ down ∷ []) sh wp n read (fall f own xs level stage)
    unfolding fall show_array
    image_fall h (code fell) = code fell
    image_fall h (upper purpose two i l) = upper purpose two i l
    image_fall h (lower purpose page last l) = lower purpose page last l
    image_fall h (dummy start header next p) = dummy start header next p
    image_fall h (ready start header whole p none) =
        showing _ start header 0 whole p (falls_down (header * 8) es (omega arith) ∙ ap (λ (k : ℕ). k + 1) none)
    image_fall h (showing line start header d whole p driven) =
        shown_fall start header d whole p (falls_down (header * 8) es (omega arith) ∙ ap (λ (k : ℕ). k + 1) driven) (eqb (7 - d % 8) 0) refl
    image_fall h (writing start done p) = writing start done p
    image_fall h (keeping fell p) = keeping fell p
    image_fall h (settled now end s e) = settled now end s (ended_fall e)
