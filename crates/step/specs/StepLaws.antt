-- A code is a pin and a level; what an event writes keeps the array's length. Assumes nothing.
use Rattle.std.specs.Prelude.{ℕ, ◌+◌, ◌*◌, ◌/◌, ◌%◌, ◌<◌, ◌≤◌, ◌≡◌, refl, Bool, true, false, List, length, eqb}
use Rattle.std.proofs.Common.{arith, length-set, eqb-true, eq-eqb, ne_eqb}
use Rattle.std.proofs.lemmas.Bool.{eqb-false}
use Rattle.step.specs.Step.{written}
use Rattle.select.specs.declared.notes.Note.{Note}
use Rattle.select.specs.declared.notes.Note.TheVariants.{Nothing, Latch, Stored, HeldBack, KeptSet, KeptHeldBack, PowerLost}

-- "its code is twice the pin number plus the level"
module _ (code pin : ℕ) where
  pub pin_of_lem : pin * 2 ≤ code → code < pin * 2 + 2 → code / 2 ≡ pin
  pin_of_lem low high = omega (arith, low, high)

  pub level_of_lem : pin * 2 ≤ code → code < pin * 2 + 2 → eqb (code % 2) 1 ≡ eqb code (pin * 2 + 1)
  level_of_lem low high = go (eqb code (pin * 2 + 1)) refl
    where
      go : (t : Bool) → eqb code (pin * 2 + 1) ≡ t → eqb (code % 2) 1 ≡ t
      go true e = let h = eqb-true code (pin * 2 + 1) e in eq-eqb (code % 2) 1 (omega (arith, h))
      go false e = let h = eqb-false code (pin * 2 + 1) e in ne_eqb (code % 2) 1 (λ odd. h (omega (arith, odd, low, high)))

  pub pin_past : pin * 2 + 2 ≤ code → eqb (code / 2) pin ≡ false
  pin_past past = ne_eqb (code / 2) pin (λ e. omega (arith, e, past))

-- what an event writes keeps the array's length
pub written_length : (note : Note) (xs : List ℕ) → length (written note xs) ≡ length xs
unfolding written
written_length Nothing xs = refl
written_length (Latch level) xs = refl
written_length (Stored at byte) xs = length-set xs at byte
written_length (HeldBack at reason) xs = refl
written_length (KeptSet kept) xs = refl
written_length (KeptHeldBack reason) xs = refl
written_length PowerLost xs = refl
