-- An event by what its checks give. Assumes nothing.
use Rattle.std.specs.Prelude.{ℕ, ◌<◌, ◌≡◌, Bool, cond, not, List, length, leb, Option, Some, None, Ok, Err}
use Rattle.std.proofs.Math.Path.{refl, ap}
use Rattle.std.proofs.Common.{sym, ◌∙◌}
use Rattle.std.proofs.Math.Bool.{true, false}
use Rattle.std.proofs.Math.Dec.{eqb}
use Rattle.std.proofs.lemmas.Option.{none-some}
use borrow.Author.Tests.{eq-eqb, ne_eqb, leb-false}
use Rattle.laws.specs.TestLaws.{denied, granted}
use Rattle.parts.specs.Figures.{figure_of, fits_part, takes_serial, fits_serial}
use Rattle.parts.specs.declared.figures.Figure.{Figure}
use Rattle.pins.specs.Sound.{sound_by, sound}
use Rattle.pins.specs.SoundLaws.{sound_row}
use Rattle.pins.specs.declared.state.State.{State}
use Rattle.refusals.specs.declared.refusal.Refusal.{Refusal}
use Rattle.refusals.specs.declared.refusal.Refusal.TheVariants.{ArrayLength, Unsound, NoEvent, SerialLength}
use Rattle.step.specs.Step.{step}
use Rattle.supply.specs.Power.{checked}
use Rattle.chip.specs.Event.{first, unless_refused, lend_refusal, checks, tried, event, answer_of}

module _ (f : Figure) (serial xs : List ℕ) (s : State) (code : ℕ) where
  -- what an attempt comes to in either case
  pub tried_steps : checks s (length xs) (length serial) code ≡ None → tried f serial xs s code ≡ step f serial xs s code
  tried_steps e = rw e

  pub tried_stops : {why : Refusal} → checks s (length xs) (length serial) code ≡ Some why → tried f serial xs s code ≡ Err why
  tried_stops e = rw e

  -- where nothing is refused of the state and what is lent with it, the code alone decides
  pub tried_known : lend_refusal s (length xs) (length serial) ≡ None → leb 12 code ≡ false → tried f serial xs s code ≡ step f serial xs s code
  unfolding checks
  tried_known lent e = rw (lent, e)

  pub tried_unknown : lend_refusal s (length xs) (length serial) ≡ None → leb 12 code ≡ true → tried f serial xs s code ≡ Err NoEvent
  unfolding checks
  tried_unknown lent e = rw (lent, e)

module _ (serial xs : List ℕ) (s : State) (code : ℕ) where
  pub event_steps : checks s (length xs) (length serial) code ≡ None → event serial xs s code ≡ answer_of s (step (figure_of s.part) serial xs s code)
  unfolding event
  event_steps e = ap (answer_of s) (tried_steps (figure_of s.part) serial xs s code e)

  pub checks_none :
      sound s ≡ true → fits_part s.part (length xs) ≡ true → fits_serial s.part (length serial) ≡ true → leb 12 code ≡ false
      → checks s (length xs) (length serial) code ≡ None
  unfolding checks
  checks_none good fits own known = rw (good, fits, own, known)

  -- what is refused of the state and what is lent with it comes before 5, 6 and 7
  checks_first : {why : Refusal} → lend_refusal s (length xs) (length serial) ≡ Some why → checks s (length xs) (length serial) code ≡ Some why
  unfolding checks
  checks_first e = rw e

  pub event_lends : {why : Refusal} → lend_refusal s (length xs) (length serial) ≡ Some why → event serial xs s code ≡ answer_of s (Err why)
  unfolding event
  event_lends e = ap (answer_of s) (tried_stops (figure_of s.part) serial xs s code (checks_first e))

-- what the checks let through: the state is sound, the array and the serial number are the part's
abbrev pub Lends : State → ℕ → ℕ → Type 0
Lends s len serial = (sound s ≡ true) × (fits_part s.part len ≡ true) × (fits_serial s.part serial ≡ true)

pub lend_passed : (s : State) (len serial : ℕ) → lend_refusal s len serial ≡ None → Lends s len serial
lend_passed s len serial = go (sound s) (fits_part s.part len) (fits_serial s.part serial)
  where
    go :
        (a b d : Bool) → cond (not a) (Some Unsound) (cond (not b) (Some ArrayLength) (cond (not d) (Some SerialLength) None)) ≡ None
        → (a ≡ true) × (b ≡ true) × (d ≡ true)
    go false b d h = absurd (none-some Unsound (sym h))
    go true false d h = absurd (none-some ArrayLength (sym h))
    go true true false h = absurd (none-some SerialLength (sym h))
    go true true true h = (refl, refl, refl)

pub lend_none : (s : State) (len serial : ℕ) → Lends s len serial → lend_refusal s len serial ≡ None
lend_none s len serial lent = rw (lent.0, lent.1, lent.2)

-- the code that has the part's row tests by it
module _ (f : Figure) (s : State) (len serial : ℕ) (row : f ≡ figure_of s.part) {good : Bool} (told : good ≡ sound_by f s) where
  by_row : good ≡ sound s
  by_row = told ∙ sound_row s row

  by_size : {t : Bool} → eqb len f.size ≡ t → fits_part s.part len ≡ t
  by_size e = ap (λ (g : Figure). eqb len g.size) (sym row) ∙ e

  pub lend_unsound : not good ≡ true → Err Unsound ≡ checked (lend_refusal s len serial)
  lend_unsound h = rw (denied by_row h)

  pub lend_misfits : not good ≡ false → (len ≡ f.size → ⊥) → Err ArrayLength ≡ checked (lend_refusal s len serial)
  lend_misfits h e = rw (granted by_row h, by_size (ne_eqb _ _ e))

  module _ {own : Bool} (taken : own ≡ takes_serial f serial) (h : not good ≡ false) (e : len ≡ f.size) where
    by_own : own ≡ fits_serial s.part serial
    by_own = taken ∙ ap (λ (g : Figure). takes_serial g serial) row

    pub lend_unnumbered : not own ≡ true → Err SerialLength ≡ checked (lend_refusal s len serial)
    lend_unnumbered n = rw (granted by_row h, by_size (eq-eqb _ _ e), denied by_own n)

    pub lend_fine : not own ≡ false → Ok tt ≡ checked (lend_refusal s len serial)
    lend_fine n = rw (granted by_row h, by_size (eq-eqb _ _ e), granted by_own n)

-- and the code is a pin and a level
pub checks_passed : (s : State) (len serial code : ℕ) → checks s len serial code ≡ None → Lends s len serial × (code < 12)
unfolding checks
checks_passed s len serial code = go (lend_refusal s len serial) (leb 12 code) refl refl
  where
    go : (given : Option Refusal) (past : Bool) → lend_refusal s len serial ≡ given → leb 12 code ≡ past
        → first given (cond past (Some NoEvent) None) ≡ None → Lends s len serial × (code < 12)
    go None true p e h = absurd (none-some NoEvent (sym h))
    go None false p e h = (lend_passed s len serial p, leb-false 12 code e)
    go (Some why) past p e h = absurd (none-some why (sym h))

-- an accepted event passed the checks, and is a step
module _ (serial xs : List ℕ) (s : State) (code : ℕ) (fine : (event serial xs s code).refusal ≡ None) where
  pub accepted_passed : checks s (length xs) (length serial) code ≡ None
  unfolding event
  accepted_passed = go (checks s (length xs) (length serial) code) fine
    where
      go : (given : Option Refusal)
          → (answer_of s (unless_refused given (step (figure_of s.part) serial xs s code))).refusal ≡ None → given ≡ None
      go None h = refl
      go (Some why) h = h

  pub accepted_steps : event serial xs s code ≡ answer_of s (step (figure_of s.part) serial xs s code)
  accepted_steps = event_steps serial xs s code accepted_passed
