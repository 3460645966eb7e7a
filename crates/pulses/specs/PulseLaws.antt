-- One pulse: what it does where no select sees it, and in an open select, whatever its stage. Assumes nothing.
use Rattle.std.specs.Prelude.{ℕ, zero, suc, ◌+◌, ◌≡◌, Bool, cond, not, ◌&&◌, List, [], ◌∷◌, length, None, is_none, Ok}
use Rattle.std.proofs.Math.Path.{refl, ap}
use Rattle.std.proofs.Common.{sym, ◌∙◌, zero-add, suc-add}
use Rattle.std.proofs.Math.Bool.{true, false}
use Rattle.parts.specs.Figures.{figure_of, is_part, in_mask, fits_part}
use Rattle.parts.specs.FigureLaws.{fair}
use Rattle.stages.specs.Close.{is_closed}
use Rattle.stages.specs.Wp.{is_up}
use Rattle.stages.specs.Sound.{sound_stage}
use Rattle.stages.specs.declared.stage.Stage.{Stage}
use Rattle.stages.specs.declared.stage.Line.{Line}
use Rattle.stages.specs.declared.stage.Stage.TheVariants.{Closed, Asleep, Code, Upper, Lower, Dummy, Ready, ArrayOut, StatusOut, IdentOut, SerialOut, Writing, Keeping, Over}
use Rattle.select.specs.Fall.{fall, status_byte, stage_level}
use Rattle.select.specs.Rise.{rise}
use Rattle.select.specs.SoundLaws.{rise_sound}
use Rattle.select.specs.declared.notes.Note.{Note}
use Rattle.select.specs.declared.rise.Seen.{Seen}
use Rattle.select.specs.declared.rise.Risen.{Risen}
use Rattle.pins.specs.Edges.{silent, rose, sck_rise, sck_fall}
use Rattle.pins.specs.Levels.{hold_high}
use Rattle.pins.specs.Sound.{sound}
use Rattle.pins.specs.SoundLaws.{good_sound}
use Rattle.pins.specs.Watch.{is_open, sees_rise}
use Rattle.pins.specs.declared.hold.Hold.{Hold}
use Rattle.pins.specs.declared.hold.Hold.TheVariants.{High, LowCsLow, LowCsHigh}
use Rattle.pins.specs.declared.state.State.{State}
use Rattle.report.specs.Record.{risen, shown_after, noted}
use Rattle.report.specs.declared.record.Record.{Record}
use Rattle.step.specs.Step.{live, step, written}
use Rattle.chip.specs.Event.{answer_of, checks, event}
use Rattle.chip.proofs.EventLaws.{event_steps, checks_none}
use Rattle.step.specs.StepLaws.{written_length}
use Rattle.turns.specs.Bench.{Bench, after_answer, replay_serial, after_event, after_events}
use Rattle.turns.specs.EventLaws.{serial_fits}
use Rattle.turns.specs.Stand.{after, clocked_by, shown_by, closes}
use Rattle.turns.specs.declared.stand.Stand.{Stand}
use Rattle.pulses.specs.Pulse.{pulsed, standing}

pub pulsed_add : (m n : ℕ) (b : Bench) → pulsed (m + n) b ≡ pulsed n (pulsed m b)
unfolding pulsed
pulsed_add zero n b = ap (λ (k : ℕ). pulsed k b) (zero-add n)
pulsed_add (suc m) n b = ap (λ (k : ℕ). pulsed k b) (suc-add m n) ∙ pulsed_add m n (pulsed 1 b)

pub pulsed_suc : (n : ℕ) (b : Bench) → pulsed (suc n) b ≡ pulsed n (pulsed 1 b)
unfolding pulsed
pulsed_suc n b = refl

-- where one pulse leaves all as it was, so do many
pub pulsed_still : (b : Bench) → pulsed 1 b ≡ b → (n : ℕ) → pulsed n b ≡ b
unfolding pulsed
pulsed_still b e zero = refl
pulsed_still b e (suc n) = ap (pulsed n) e ∙ pulsed_still b e n

abbrev pub stand_of : State → ℕ → Record → Stand
stand_of chip selects told = record { chip = chip; selects = selects; told = told }

-- an event that gives no note, opens and closes no select and is no seen rise: the state moves, and nothing else does
opens_not : (o : Bool) → (not o && o) ≡ false
opens_not true = refl
opens_not false = refl

closes_not : (o : Bool) → (o && not o) ≡ false
closes_not true = refl
closes_not false = refl

pub unseen : (s next : State) (code : ℕ) (selects : ℕ) (told : Record) (xs os : List ℕ)
    → event replay_serial xs s code ≡ answer_of s (Ok (silent next)) → is_open next ≡ is_open s → sees_rise s code ≡ false
    → after_event (standing (stand_of s selects told) xs os) code ≡ standing (stand_of next selects told) xs os
unfolding after_event after clocked_by shown_by closes written noted
unseen s next code selects told xs os is level none =
    ap (after_answer (standing (stand_of s selects told) xs os) code) is
    ∙ rw (level, none, opens_not (is_open s), closes_not (is_open s))

and_no : (a : Bool) → (a && false) ≡ false
and_no true = refl
and_no false = refl

-- a fall of SCK is no seen rise
no_rise_lem : (s : State) → sees_rise s 2 ≡ false
unfolding sees_rise
no_rise_lem s = and_no (s.power && hold_high s.hold && is_open s && not s.sck)

-- ---- an event on a chip and an array that the checks let through

module _ (s : State) (xs : List ℕ) (safe : sound s ≡ true) (fits : fits_part s.part (length xs) ≡ true) where
  steps : (code : ℕ) → checks s (length xs) (length replay_serial) code ≡ None
      → event replay_serial xs s code ≡ answer_of s (step (figure_of s.part) replay_serial xs s code)
  steps code none = event_steps replay_serial xs s code none

  up : event replay_serial xs s 3 ≡ answer_of s (step (figure_of s.part) replay_serial xs s 3)
  up = steps 3 (checks_none replay_serial xs s 3 safe fits (serial_fits s.part) refl)

  down : event replay_serial xs s 2 ≡ answer_of s (step (figure_of s.part) replay_serial xs s 2)
  down = steps 2 (checks_none replay_serial xs s 2 safe fits (serial_fits s.part) refl)

-- two events that are not refused are a pulse
pulse_by : (b c d : Bench) → b.refusal ≡ None → c.refusal ≡ None → after_event b 3 ≡ c → after_event c 2 ≡ d → pulsed 1 b ≡ d
unfolding pulsed
pulse_by b c d p q up down =
    ap (λ (v : Bool). after_events (cond v (after_event b 3) b) (2 ∷ [])) (ap is_none p)
    ∙ ap (λ (x : Bench). after_events x (2 ∷ [])) up
    ∙ ap (λ (v : Bool). cond v (after_event c 2) c) (ap is_none q)
    ∙ down

-- ---- nothing is seen: power off, hold, no select

-- a state by its fields
abbrev pub chip_of : ℕ → ℕ → Bool → Bool → Line → Line → Bool → Hold → Stage → State
chip_of part kept power sck si wp latch hold stage =
    record { part = part; kept = kept; power = power; sck = sck; si = si; wp = wp; latch = latch; hold = hold; stage = stage }

module _ (part kept : ℕ) (si wp : Line) (latch : Bool) (selects : ℕ) (told : Record) (xs os : List ℕ) (fits : fits_part part (length xs) ≡ true) where
  abbrev bench_at : State → Bench
  bench_at s = standing (stand_of s selects told) xs os

  pub dark_still : (sck : Bool) (hold : Hold) (stage : Stage) → sound (chip_of part kept false sck si wp latch hold stage) ≡ true
      → pulsed 1 (bench_at (chip_of part kept false sck si wp latch hold stage)) ≡ bench_at (chip_of part kept false sck si wp latch hold stage)
  unfolding step sees_rise
  dark_still sck hold stage safe =
      let s = chip_of part kept false sck si wp latch hold stage in
      pulse_by (bench_at s) (bench_at s) (bench_at s) refl refl
      (unseen s s 3 selects told xs os (up s xs safe fits) refl refl)
      (unseen s s 2 selects told xs os (down s xs safe fits) refl refl)

  -- a level of SCK that is followed and not seen
  module _ (hold : Hold) (stage : Stage) (blind : (sck : Bool) → sound (chip_of part kept true sck si wp latch hold stage) ≡ true) where
    abbrev at : Bool → State
    at sck = chip_of part kept true sck si wp latch hold stage

    followed :
        sck_rise (figure_of part) (at false) ≡ silent (at true) → sck_fall (figure_of part) replay_serial xs (at true) ≡ silent (at false)
        → sees_rise (at false) 3 ≡ false → pulsed 1 (bench_at (at false)) ≡ bench_at (at false)
    unfolding step live is_open
    followed rises falls none =
        pulse_by (bench_at (at false)) (bench_at (at true)) (bench_at (at false)) refl refl
        (unseen (at false) (at true) 3 selects told xs os (up (at false) xs (blind false) fits ∙ rw rises) refl none)
        (unseen (at true) (at false) 2 selects told xs os (down (at true) xs (blind true) fits ∙ rw falls) refl (no_rise_lem (at true)))

  -- "While /HOLD is low, moves of SCK and /CS are not seen, only their levels kept"
  pub held_still : (hold : Hold) (stage : Stage) → hold_high hold ≡ false
      → ((sck : Bool) → sound (chip_of part kept true sck si wp latch hold stage) ≡ true)
      → pulsed 1 (bench_at (chip_of part kept true false si wp latch hold stage)) ≡ bench_at (chip_of part kept true false si wp latch hold stage)
  unfolding sck_rise sck_fall sees_rise
  held_still High stage low safe = cc
  held_still LowCsLow stage low safe = followed LowCsLow stage safe refl refl refl
  held_still LowCsHigh stage low safe = followed LowCsHigh stage safe refl refl refl

  -- no select is open
  pub closed_still : (stage : Stage) → is_closed stage ≡ true
      → ((sck : Bool) → sound (chip_of part kept true sck si wp latch High stage) ≡ true)
      → pulsed 1 (bench_at (chip_of part kept true false si wp latch High stage)) ≡ bench_at (chip_of part kept true false si wp latch High stage)
  unfolding sck_rise sck_fall sees_rise is_open rise fall
  closed_still Closed shut safe = followed High Closed safe refl refl refl
  closed_still Asleep shut safe = followed High Asleep safe refl refl refl
  closed_still (Code wp' shift) shut safe = cc
  closed_still (Upper purpose shift) shut safe = cc
  closed_still (Lower purpose shift page) shut safe = cc
  closed_still (Dummy shift at) shut safe = cc
  closed_still (Ready what at) shut safe = cc
  closed_still (ArrayOut level bit at) shut safe = cc
  closed_still (StatusOut level bit) shut safe = cc
  closed_still (IdentOut level bit at) shut safe = cc
  closed_still (SerialOut level bit at) shut safe = cc
  closed_still (Writing came shift last at) shut safe = cc
  closed_still (Keeping wp' shift) shut safe = cc
  closed_still (Over end) shut safe = cc

-- ---- an open select, whatever its stage

module _ (part kept : ℕ) (si wp : Line) (latch : Bool) (named : is_part part ≡ true) (masked : in_mask part kept ≡ true) (selects : ℕ) where
  -- with power on and /HOLD high
  abbrev open_chip : Bool → Stage → State
  open_chip sck stage = chip_of part kept true sck si wp latch High stage

  abbrev pub sees : Seen
  sees = record { latch = latch; kept = kept; wp = is_up wp; si = is_up si }

  abbrev pub open_bench : Stage → Record → List ℕ → List ℕ → Bench
  open_bench stage told xs os = standing (stand_of (open_chip false stage) selects told) xs os

  sound_at : (sck : Bool) (stage : Stage) → sound_stage (figure_of part) stage ≡ true → sound (open_chip sck stage) ≡ true
  sound_at sck stage h = good_sound (open_chip sck stage) refl (record { part = named; kept = masked; stage = h })

  module _ (stage next last : Stage) (note : Note) (told : Record) (xs os : List ℕ)
      (safe : sound_stage (figure_of part) stage ≡ true) (fits : fits_part part (length xs) ≡ true)
      (rises : rise (figure_of part) sees stage ≡ record { stage = next; latch = latch; kept = kept; note = note })
      (falls : fall (figure_of part) replay_serial (written note xs) (status_byte (figure_of part) kept latch) next ≡ last)
      (open1 : is_closed stage ≡ false) (open2 : is_closed next ≡ false) (open3 : is_closed last ≡ false) where
    next_safe : sound_stage (figure_of part) next ≡ true
    next_safe =
        ap (λ (r : Risen). sound_stage (figure_of part) r.stage) (sym rises)
        ∙ rise_sound (figure_of part) (fair part named) sees stage safe

    raised : event replay_serial xs (open_chip false stage) 3 ≡ answer_of (open_chip false stage) (Ok (record { state = open_chip true next; note = note }))
    unfolding step live sck_rise
    raised =
        up (open_chip false stage) xs (sound_at false stage safe) fits
        ∙ ap (λ (r : Risen). answer_of (open_chip false stage) (Ok (rose (open_chip false stage) r))) rises

    clocked : Record
    clocked = noted (risen told (is_up si) (stage_level stage)) note

    shows : List ℕ
    shows = shown_after os told (stage_level stage)

    first : after_event (open_bench stage told xs os) 3 ≡ standing (stand_of (open_chip true next) selects clocked) (written note xs) shows
    unfolding clocked shows after_event after clocked_by shown_by closes is_open sees_rise
    first = ap (after_answer (open_bench stage told xs os) 3) raised ∙ rw (open1, open2)

    second : after_event (standing (stand_of (open_chip true next) selects clocked) (written note xs) shows) 2
        ≡ open_bench last clocked (written note xs) shows
    unfolding step live sck_fall is_open
    second =
        unseen (open_chip true next) (open_chip false last) 2 selects clocked (written note xs) shows
        (down (open_chip true next) (written note xs) (sound_at true next next_safe) (rw (written_length note xs) fits)
        ∙ ap (λ (s : Stage). answer_of (open_chip true next) (Ok (silent (open_chip false s)))) falls)
        (rw (open2, open3)) (no_rise_lem (open_chip true next))

    -- a rise, what its note stores, a fall; the record takes SI and SO as they stood before
    pub pulse_open : pulsed 1 (open_bench stage told xs os)
        ≡ open_bench last (noted (risen told (is_up si) (stage_level stage)) note) (written note xs) (shown_after os told (stage_level stage))
    unfolding clocked shows
    pulse_open = pulse_by _ _ _ refl refl first second
