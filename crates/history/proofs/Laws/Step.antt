-- One event: a chip that agrees with the history's lines and place still agrees after it. Pin by pin; all that is not seen
-- by the select only moves a line. Assumes nothing.
use Prim.Native.Nat.{ℕ, zero, suc, ◌+◌, ◌≤◌, ◌<◌, zero-le}
use Rattle.std.proofs.Common.{arith, subst, leb-false, eqb-true}
use Rattle.std.specs.Prelude.{Bool, cond, ◌&&◌, List, [], ◌≡◌, leb, Ok}
use Rattle.std.proofs.Math.Bool.{true, false}
use Rattle.std.proofs.Math.Path.{refl}
use Rattle.std.proofs.Math.Dec.{eqb}
use Rattle.std.proofs.lemmas.Bool.{eqb-false}
use Rattle.parts.specs.FigureLaws.{Fair}
use Rattle.parts.specs.Figures.{figure_of}
use Rattle.stages.specs.Close.{drops}
use Rattle.select.specs.Fall.{fall, status_byte}
use Rattle.select.specs.Rise.{rise}
use Rattle.select.specs.declared.notes.Note.TheVariants.{Latch}
use Rattle.stages.specs.Wp.{is_up}
use Rattle.stages.specs.declared.stage.Line.{Line}
use Rattle.stages.specs.declared.stage.Line.TheVariants.{Down, Up}
use Rattle.stages.specs.declared.stage.Stage.{Stage}
use Rattle.stages.specs.declared.stage.Stage.TheVariants.{Closed, Asleep}
use Rattle.pins.specs.Levels.{at_rest, hold_high}
use Rattle.pins.specs.Edges.{silent, cs_fall, cs_rise, sck_rise, sck_fall, hold_fall, hold_rise}
use Rattle.step.specs.Step.{cs_stayed, live, step, written}
use Rattle.chip.specs.Event.{answer_of}
use Rattle.chip.specs.Run.{Chip, answered}
use Rattle.pins.specs.declared.hold.Hold.{Hold}
use Rattle.pins.specs.declared.hold.Hold.TheVariants.{High, LowCsLow, LowCsHigh}
use Rattle.history.specs.Wire.{Wire, rest, put, refusal, after_one, act}
use Rattle.history.specs.History.{World}
use Rattle.history.proofs.Laws.Place.{Place, outside, inside, is_outside, world_at, asleep_after, place_after, base}
use Rattle.history.proofs.Laws.Stage.{shut_stage}
use Rattle.history.proofs.Laws.Select.{Selected, closed, select_open, select_world, select_fall, select_fresh, select_rise, select_close, select_shut}

-- the level of /CS, by /HOLD and whether no select is open
abbrev cs_of : Hold → Bool → Bool
cs_of High seen = seen
cs_of LowCsLow seen = false
cs_of LowCsHigh seen = true

abbrev pub wire_of : Bool → Line → Line → Hold → Bool → Wire
wire_of sck si wp hold seen =
    record { power = true; cs = cs_of hold seen; sck = sck; si = is_up si; hold = hold_high hold; wp = is_up wp; seen = seen }

abbrev pub chip_of : ℕ → List ℕ → World → Bool → Line → Line → Hold → Stage → Chip
chip_of part own v sck si wp hold stage =
    record {
      state =
          record {
            part = part;
            kept = v.kept;
            power = true;
            sck = sck;
            si = si;
            wp = wp;
            latch = v.latch;
            hold = hold;
            stage = stage;
          };
      array = v.array;
      serial = own;
    }

-- the world with the latch off, and the chip with power off
abbrev pub unlatched : ℕ → List ℕ → World
unlatched kept array = record { latch = false; kept = kept; array = array }

abbrev pub off_chip : ℕ → List ℕ → ℕ → List ℕ → Chip
off_chip part own kept array = record { state = at_rest part kept false; array = array; serial = own }

-- a chip agrees with the history, whatever its serial number: the lines, and the select with the open transfer
pub data Agrees (part : ℕ) : Wire → Place → World → Chip → Type 0 where
  off :
      (own : List ℕ) (kept : ℕ) (array : List ℕ)
      → Agrees part (rest false) (outside false) (unlatched kept array) (off_chip part own kept array)
  on :
      (own : List ℕ) (p : Place) (w v : World) (sck : Bool) (si wp : Line) (hold : Hold) (stage : Stage) → Selected (figure_of part) w p v stage
      → Agrees part (wire_of sck si wp hold (is_outside p)) p w (chip_of part own v sck si wp hold stage)

-- this chip agrees after an event
abbrev pub Onward : ℕ → Wire → Place → World → ℕ → Chip → Type 0
Onward part l p w code c =
    Agrees part (after_one l code) (place_after (figure_of part) p (act l code)) (base (figure_of part) w p (act l code)) c

-- what holds of each of the twelve codes holds of every code under twelve
abbrev Each : (ℕ → Type 0) → ℕ → ℕ → Type 0
Each P k zero = Unit {0}
Each P k (suc n) = P k × Each P (suc k) n

infixr 20 ◌also◌
abbrev ◌also◌ : {A B : Type 0} → A → B → A × B
a also b = (a, b)

each : (P : ℕ → Type 0) (n k code : ℕ) → Each P k n → k ≤ code → code < k + n → P code
each P zero k code ps l h = absurd (omega arith)
each P (suc n) k code ps l h = go (eqb k code) refl (λ m. each P n (suc k) code ps.1 m (omega arith))
  where
    above : (k ≡ code → ⊥) → k ≤ code → suc k ≤ code
    above differs l = omega arith

    go : (t : Bool) → eqb k code ≡ t → (suc k ≤ code → P code) → P code
    go true e later = subst P (eqb-true k code e) ps.0
    go false e later = later (above (eqb-false k code e) l)

module _ (part : ℕ) (fair : Fair (figure_of part)) where
  -- the step leads on
  abbrev Follows : Wire → Place → World → Chip → ℕ → Type 0
  Follows l p w c code = Onward part l p w code (answered c (answer_of c.state (step (figure_of part) c.serial c.array c.state code)))

  module _ (own : List ℕ) (w : World) (si wp : Line) where
    -- it agrees after this event, whatever the levels of SCK and /HOLD and whatever select is open
    abbrev After : ℕ → Type 0
    After code =
        (sck : Bool) (hold : Hold) (p : Place) (v : World) (stage : Stage) → Selected (figure_of part) w p v stage
        → Follows (wire_of sck si wp hold (is_outside p)) p w (chip_of part own v sck si wp hold stage) code

    cs_low : After 0
    unfolding after_one refusal put act place_after base world_at step live cs_fall written
    cs_low sck High (outside _) _ _ (closed asleep) =
        rw (select_open (figure_of part) w (closed asleep))
        (on own (inside asleep (is_up wp) []) w w sck si wp High _ (select_fresh (figure_of part) w asleep (is_up wp)))
    cs_low sck High (inside woken fell es) v stage s =
        rw (select_open (figure_of part) w s) (on own (inside woken fell es) w v sck si wp High stage s)
    cs_low sck LowCsLow p v stage s = on own p w v sck si wp LowCsLow stage s
    cs_low sck LowCsHigh p v stage s = on own p w v sck si wp LowCsLow stage s

    -- the close drops the latch, if it was set, and puts the chip to sleep or not
    abbrev shut : Bool → Bool → Bool → ℕ → List ℕ → Chip
    shut asleep sck latch kept array =
        chip_of part own (record { latch = latch; kept = kept; array = array }) sck si wp High (shut_stage asleep)

    closing :
        (asleep sck latch d : Bool) (kept : ℕ) (array : List ℕ)
        → Agrees part (wire_of sck si wp High true) (outside asleep)
        (cond d (unlatched kept array) (record { latch = latch; kept = kept; array = array }))
        (answered (shut asleep sck latch kept array)
        (answer_of (shut asleep sck latch kept array).state (Ok
        (cond (latch && d)
        (record { state = (shut asleep sck false kept array).state; note = Latch false })
        (silent (shut asleep sck latch kept array).state)))))
    unfolding written
    closing asleep sck true true kept array = on own (outside asleep) _ _ sck si wp High _ (closed asleep)
    closing asleep sck true false kept array = on own (outside asleep) _ _ sck si wp High _ (closed asleep)
    closing asleep sck false true kept array = on own (outside asleep) _ _ sck si wp High _ (closed asleep)
    closing asleep sck false false kept array = on own (outside asleep) _ _ sck si wp High _ (closed asleep)

    cs_high : After 1
    unfolding after_one refusal put act place_after base step live cs_rise written
    cs_high sck High (outside asleep) v stage s =
        rw (select_open (figure_of part) w s) (on own (outside asleep) w v sck si wp High stage s)
    cs_high sck High (inside woken fell es) v stage s =
        rw (select_open (figure_of part) w s, ← select_close (figure_of part) w s, select_shut (figure_of part) w s)
        (closing (asleep_after (figure_of part) woken fell es) sck v.latch (drops stage) v.kept v.array)
    cs_high sck LowCsLow p v stage s = on own p w v sck si wp LowCsHigh stage s
    cs_high sck LowCsHigh p v stage s = on own p w v sck si wp LowCsHigh stage s

    sck_low : After 2
    unfolding after_one refusal put act place_after base step live sck_fall fall written
    sck_low true High (outside true) _ _ (closed true) = on own (outside true) w w false si wp High Asleep (closed true)
    sck_low true High (outside false) _ _ (closed false) = on own (outside false) w w false si wp High Closed (closed false)
    sck_low true High (inside woken fell es) v stage s =
        on own _ w v false si wp High _ (select_fall (figure_of part) fair w own v.array (status_byte (figure_of part) v.kept v.latch) s)
    sck_low true LowCsLow p v stage s = on own p w v false si wp LowCsLow stage s
    sck_low true LowCsHigh p v stage s = on own p w v false si wp LowCsHigh stage s
    sck_low false hold p v stage s = on own p w v false si wp hold stage s

    sck_high : After 3
    unfolding after_one refusal put act place_after base step live sck_rise rise written
    sck_high false High (outside true) _ _ (closed true) = on own (outside true) w w true si wp High Asleep (closed true)
    sck_high false High (outside false) _ _ (closed false) = on own (outside false) w w true si wp High Closed (closed false)
    sck_high false High (inside woken fell es) v stage s =
        on own _ w _ true si wp High _ (select_rise (figure_of part) fair w (record { si = is_up si; wp = is_up wp }) s)
    sck_high false LowCsLow p v stage s = on own p w v true si wp LowCsLow stage s
    sck_high false LowCsHigh p v stage s = on own p w v true si wp LowCsHigh stage s
    sck_high true hold p v stage s = on own p w v true si wp hold stage s

    hold_low : After 6
    unfolding after_one refusal put act place_after base step live hold_fall written
    hold_low true High p v stage s = on own p w v true si wp High stage s
    hold_low false High (outside asleep) v stage s =
        rw (select_open (figure_of part) w s) (on own (outside asleep) w v false si wp LowCsHigh stage s)
    hold_low false High (inside woken fell es) v stage s =
        rw (select_open (figure_of part) w s) (on own (inside woken fell es) w v false si wp LowCsLow stage s)
    hold_low sck LowCsLow p v stage s = on own p w v sck si wp LowCsLow stage s
    hold_low sck LowCsHigh p v stage s = on own p w v sck si wp LowCsHigh stage s

    hold_high_lem : After 7
    unfolding after_one refusal put act place_after base step live cs_stayed hold_rise written
    hold_high_lem sck High p v stage s = on own p w v sck si wp High stage s
    hold_high_lem true LowCsLow p v stage s = on own p w v true si wp LowCsLow stage s
    hold_high_lem true LowCsHigh p v stage s = on own p w v true si wp LowCsHigh stage s
    hold_high_lem false LowCsLow (outside asleep) v stage s =
        rw (select_open (figure_of part) w s) (on own (outside asleep) w v false si wp LowCsLow stage s)
    hold_high_lem false LowCsHigh (outside asleep) v stage s =
        rw (select_open (figure_of part) w s) (on own (outside asleep) w v false si wp High stage s)
    hold_high_lem false LowCsLow (inside woken fell es) v stage s =
        rw (select_open (figure_of part) w s) (on own (inside woken fell es) w v false si wp High stage s)
    hold_high_lem false LowCsHigh (inside woken fell es) v stage s =
        rw (select_open (figure_of part) w s) (on own (inside woken fell es) w v false si wp LowCsHigh stage s)

    any_pin : (code : ℕ) → leb 12 code ≡ false → After code
    unfolding after_one refusal put act place_after base step live written
    any_pin code h =
        each After 12 0 code
        (cs_low also cs_high also sck_low also sck_high
        also (λ sck hold p v stage s. on own p w v sck Down wp hold stage s)
        also (λ sck hold p v stage s. on own p w v sck Up wp hold stage s)
        also hold_low also hold_high_lem
        also (λ sck hold p v stage s. on own p w v sck si Down hold stage s)
        also (λ sck hold p v stage s. on own p w v sck si Up hold stage s)
        also (λ sck hold p v stage s. rw (← select_world (figure_of part) w s) (off own v.kept v.array))
        also (λ sck hold p v stage s. on own p w v sck si wp hold stage s)
        also tt)
        zero-le (leb-false 12 code h)

  -- with power off only event 11 has an effect
  darkness :
      (own : List ℕ) (kept : ℕ) (array : List ℕ) (code : ℕ) → leb 12 code ≡ false
      → Follows (rest false) (outside false) (unlatched kept array) (off_chip part own kept array) code
  unfolding after_one refusal act place_after base step written
  darkness own kept array code h = go (eqb code 11) refl
    where
      go : (t : Bool) → eqb code 11 ≡ t → Follows (rest false) (outside false) (unlatched kept array) (off_chip part own kept array) code
      go true e = rw (h, e) (on own (outside false) (unlatched kept array) (unlatched kept array) false Down Up High Closed (closed false))
      go false e = rw (h, e) (off own kept array)

  pub follows :
      {l : Wire} {p : Place} {w : World} {c : Chip} (code : ℕ) → leb 12 code ≡ false → Agrees part l p w c
      → Follows l p w c code
  follows code h (off own kept array) = darkness own kept array code h
  follows code h (on own p w v sck si wp hold stage s) = any_pin own w si wp code h sck hold p v stage s

-- The chip refuses what the lines say is refused, by the same number: with power on only a move of /HOLD.
module _ (part : ℕ) where
  abbrev Refuses : Wire → Chip → ℕ → Type 0
  Refuses l c code = (answer_of c.state (step (figure_of part) c.serial c.array c.state code)).refusal ≡ refusal l code

  module _ (own : List ℕ) (p : Place) (v : World) (si wp : Line) (stage : Stage) where
    abbrev Alike : Bool → Hold → ℕ → Type 0
    Alike sck hold code = Refuses (wire_of sck si wp hold (is_outside p)) (chip_of part own v sck si wp hold stage) code

    fall_alike : (sck : Bool) (hold : Hold) → Alike sck hold 6
    unfolding refusal step live
    fall_alike true High = refl
    fall_alike false High = refl
    fall_alike sck LowCsLow = refl
    fall_alike sck LowCsHigh = refl

  rise_alike :
      (own : List ℕ) {p : Place} {w v : World} (si wp : Line) {stage : Stage} (sck : Bool) (hold : Hold) → Selected (figure_of part) w p v stage
      → Alike own p v si wp stage sck hold 7
  unfolding refusal step live cs_stayed
  rise_alike own si wp sck High s = refl
  rise_alike own si wp true LowCsLow s = refl
  rise_alike own si wp true LowCsHigh s = refl
  rise_alike own {p = outside asleep} {w = w} si wp false LowCsLow s = rw (select_open (figure_of part) w s)
  rise_alike own {p = outside asleep} {w = w} si wp false LowCsHigh s = rw (select_open (figure_of part) w s)
  rise_alike own {p = inside woken fell es} {w = w} si wp false LowCsLow s = rw (select_open (figure_of part) w s)
  rise_alike own {p = inside woken fell es} {w = w} si wp false LowCsHigh s = rw (select_open (figure_of part) w s)

  pub refuses : {l : Wire} {p : Place} {w : World} {c : Chip} (code : ℕ) → leb 12 code ≡ false → Agrees part l p w c → Refuses l c code
  unfolding refusal step live
  refuses code h (off own kept array) = rw h
  refuses code h (on own p w v sck si wp hold stage s) =
      each (Alike own p v si wp stage sck hold) 12 0 code
      (refl also refl also refl also refl also refl also refl
      also fall_alike own p v si wp stage sck hold also rise_alike own si wp sck hold s
      also refl also refl also refl also refl also tt)
      zero-le (leb-false 12 code h)
