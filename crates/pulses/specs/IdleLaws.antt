-- Pulses that no select sees leave all as it was. Assumes nothing.
use Rattle.std.specs.Prelude.{ℕ, ◌≡◌, refl, Bool, true, false, not, ◌&&◌, ◌||◌, List, length}
use Rattle.laws.specs.TestLaws.{left, right}
use Rattle.parts.specs.Figures.{fits_part}
use Rattle.stages.specs.Close.{is_closed}
use Rattle.stages.specs.declared.stage.Stage.{Stage}
use Rattle.stages.specs.declared.stage.Line.{Line}
use Rattle.pins.specs.Levels.{hold_high}
use Rattle.pins.specs.Sound.{sound}
use Rattle.pins.specs.SoundLaws.{kept_on}
use Rattle.pins.specs.declared.hold.Hold.{Hold}
use Rattle.pins.specs.declared.hold.Hold.TheVariants.{High, LowCsLow, LowCsHigh}
use Rattle.pins.specs.declared.state.State.{State}
use Rattle.report.specs.declared.record.Record.{Record}
use Rattle.turns.specs.declared.stand.Stand.{Stand}
use Rattle.pulses.specs.Pulse.{pulsed, standing}
use Rattle.pulses.specs.PulseLaws.{pulsed_still, stand_of, chip_of, dark_still, held_still, closed_still}
use Rattle.pulses.specs.Sums.{steady, idle}

-- what a steady chip is
pub sck_low : (s : State) (len : ℕ) → steady s len ≡ true → s.sck ≡ false
unfolding steady
sck_low s len h = go s.sck (left (not s.sck) (sound s) (left (not s.sck && sound s) (fits_part s.part len) h))
  where
    go : (v : Bool) → not v ≡ true → v ≡ false
    go true e = cc
    go false e = refl

pub is_sound : (s : State) (len : ℕ) → steady s len ≡ true → sound s ≡ true
unfolding steady
is_sound s len h = right (not s.sck) (sound s) (left (not s.sck && sound s) (fits_part s.part len) h)

pub fits : (s : State) (len : ℕ) → steady s len ≡ true → fits_part s.part len ≡ true
unfolding steady
fits s len h = right (not s.sck && sound s) (fits_part s.part len) h

module _ (part kept : ℕ) (si wp : Line) (latch : Bool) (selects : ℕ) (told : Record) (xs os : List ℕ) (fit : fits_part part (length xs) ≡ true) where
  one : (power sck : Bool) (hold : Hold) (stage : Stage) → sck ≡ false
      → sound (chip_of part kept power sck si wp latch hold stage) ≡ true
      → (not power || not (hold_high hold) || is_closed stage) ≡ true
      → pulsed 1 (standing (stand_of (chip_of part kept power sck si wp latch hold stage) selects told) xs os)
      ≡ standing (stand_of (chip_of part kept power sck si wp latch hold stage) selects told) xs os
  one false sck hold stage low safe h = dark_still part kept si wp latch selects told xs os fit sck hold stage safe
  one true true hold stage low safe h = cc
  one true false High stage low safe h =
      closed_still part kept si wp latch selects told xs os fit stage h
      (λ sck. kept_on (chip_of part kept true false si wp latch High stage) safe refl _ refl refl refl refl)
  one true false LowCsLow stage low safe h =
      held_still part kept si wp latch selects told xs os fit LowCsLow stage refl
      (λ sck. kept_on (chip_of part kept true false si wp latch LowCsLow stage) safe refl _ refl refl refl refl)
  one true false LowCsHigh stage low safe h =
      held_still part kept si wp latch selects told xs os fit LowCsHigh stage refl
      (λ sck. kept_on (chip_of part kept true false si wp latch LowCsHigh stage) safe refl _ refl refl refl refl)

pub idle_stays : (stand : Stand) (xs os : List ℕ) (n : ℕ) → steady stand.chip (length xs) ≡ true → idle stand.chip ≡ true
    → pulsed n (standing stand xs os) ≡ standing stand xs os
unfolding idle
idle_stays stand xs os n safe h =
    let s = stand.chip in
    pulsed_still (standing stand xs os)
    (one s.part s.kept s.si s.wp s.latch stand.selects stand.told xs os (fits s (length xs) safe)
    s.power s.sck s.hold s.stage (sck_low s (length xs) safe) (is_sound s (length xs) safe) h)
    n
