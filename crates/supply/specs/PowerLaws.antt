-- What an accepted power-up says: its numbers pass their tests, and so both fit a byte; it gives the power-up state.
-- Accepted or refused, its state is sound. Assumes nothing.
use Rattle.std.specs.Prelude.{ℕ, ◌<◌, ◌≡◌, Bool, cond, not, List, length, Option, Some, None, is_none}
use Rattle.std.proofs.Math.Path.{refl}
use Rattle.std.proofs.Math.Bool.{true, false}
use Rattle.std.proofs.lemmas.Option.{none-some}
use Rattle.std.proofs.Common.{sym, lt_of_le_of_lt, lt_trans, lit<}
use borrow.Author.Tests.{eqb-true}
use Rattle.std.specs.Int.Bits.{bit_and}
use Rattle.std.proofs.lemmas.Nat.{and_le_r}
use Rattle.parts.specs.Figures.{figure_of, is_part, in_mask, fits_part}
use Rattle.parts.specs.FigureLaws.{fair, below_count}
use Rattle.refusals.specs.declared.refusal.Refusal.{Refusal}
use Rattle.refusals.specs.declared.refusal.Refusal.TheVariants.{NoPart, ArrayLength, KeptBits}
use Rattle.supply.specs.Power.{fill_refusal, power_refusal, power_up}
use Rattle.supply.specs.declared.power.Powered.{Powered}
use Rattle.pins.specs.Levels.{at_rest}
use Rattle.pins.specs.Sound.{sound}
use Rattle.pins.specs.SoundLaws.{rest_sound}

both_passed :
    (a b : Bool) → cond (not a) (Some NoPart) (cond (not b) (Some ArrayLength) None) ≡ None → (a ≡ true) × (b ≡ true)
both_passed false b h = absurd (none-some NoPart (sym h))
both_passed true false h = absurd (none-some ArrayLength (sym h))
both_passed true true h = (refl, refl)

all_passed :
    (d : Bool) (given : Option Refusal) → cond (is_none given) (cond d None (Some KeptBits)) given ≡ None
    → (given ≡ None) × (d ≡ true)
all_passed true None h = (refl, refl)
all_passed false None h = absurd (none-some KeptBits (sym h))
all_passed d (Some why) h = absurd (none-some why (sym h))

module _ (part kept len : ℕ) (fine : power_refusal part kept len ≡ None) where
  pub fill_and_mask : (fill_refusal part len ≡ None) × (in_mask part kept ≡ true)
  unfolding power_refusal
  fill_and_mask = all_passed (in_mask part kept) (fill_refusal part len) fine

  pub part_and_size : (is_part part ≡ true) × (fits_part part len ≡ true)
  unfolding fill_refusal
  part_and_size = both_passed (is_part part) (fits_part part len) fill_and_mask.0

  pub power_part : part < 256
  power_part = lt_trans (below_count part part_and_size.0) (lit< tt)

  pub power_kept : kept < 256
  power_kept =
      lt_of_le_of_lt
      (rw (eqb-true (bit_and kept (figure_of part).kept) kept fill_and_mask.1) at (and_le_r kept (figure_of part).kept))
      (fair part part_and_size.0).mask

-- an accepted power-up: no refusal, all three tests passed, the power-up state
module _ (part kept : ℕ) (xs : List ℕ) (accepted : (power_up part kept xs).refusal ≡ None) where
  fine : power_refusal part kept (length xs) ≡ None
  unfolding power_up
  fine = go (power_refusal part kept (length xs)) accepted
    where
      go : (given : Option Refusal)
          → (cond {A = Powered} (is_none given) (record { refusal = None; state = at_rest part kept true }) (record { refusal = given; state = at_rest 1 0 false })).refusal ≡ None
          → given ≡ None
      go None h = refl
      go (Some why) h = h

  pub power_one : is_part part ≡ true
  power_one = (part_and_size part kept (length xs) fine).0

  pub power_fits : length xs ≡ (figure_of part).size
  power_fits = eqb-true _ _ (part_and_size part kept (length xs) fine).1

  pub power_masked : in_mask part kept ≡ true
  power_masked = (fill_and_mask part kept (length xs) fine).1

  pub power_state : (power_up part kept xs).state ≡ at_rest part kept true
  unfolding power_up
  power_state = rw fine

off_sound : sound (at_rest 1 0 false) ≡ true
unfolding figure_of
off_sound = rest_sound 1 0 false refl refl

-- accepted or refused, a power-up leads to a sound state
pub power_sound : (part kept : ℕ) (xs : List ℕ) → sound (power_up part kept xs).state ≡ true
unfolding power_up
power_sound part kept xs = go (power_refusal part kept (length xs)) refl
  where
    go : (given : Option Refusal) → power_refusal part kept (length xs) ≡ given
        → sound (cond {A = Powered} (is_none given) (record { refusal = None; state = at_rest part kept true }) (record { refusal = given; state = at_rest 1 0 false })).state ≡ true
    go None none =
        rest_sound part kept true (part_and_size part kept (length xs) none).0 (fill_and_mask part kept (length xs) none).1
    go (Some why) e = off_sound
