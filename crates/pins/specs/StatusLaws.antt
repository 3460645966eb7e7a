-- "Status byte: bit 7 WPEN (part 3; 0 on parts 1 and 2), bits 3 and 2 BP1 and BP0, bit 1 the latch, the rest 0." So it is of
-- every sound state: computed for each part of the table and each value of a byte that its mask lets pass. Assumes nothing.
use Rattle.std.specs.Prelude.{ℕ, zero, suc, ◌+◌, ◌*◌, ◌<◌, ◌≡◌, refl, Bool, true, false, cond, not, ◌&&◌, ◌||◌, eqb, leb, length}
use Rattle.std.proofs.Common.{arith, lt_of_le_of_lt, sym, subst, eqb-true}
use Rattle.std.proofs.lemmas.Bool.{eqb-false}
use Rattle.std.specs.Int.Bits.{bit_and}
use Rattle.std.proofs.lemmas.Nat.{and_le_r}
use Rattle.laws.specs.Bits.{bit_at}
use Rattle.parts.specs.FigureLaws.{fair, below_count}
use Rattle.parts.specs.Figures.{parts, figure_of, is_part, in_mask}
use Rattle.laws.specs.TestLaws.{both, left, right}
use Rattle.stages.specs.Bits.{low_bit}
use Rattle.select.specs.Fall.{status_byte}
use Rattle.pins.specs.Sound.{sound}
use Rattle.pins.specs.SoundLaws.{good}
use Rattle.pins.specs.declared.state.State.{State}

-- the byte, bit by bit
abbrev pub status_bits : ℕ → ℕ → Bool → ℕ
status_bits part kept latch =
    cond (leb 3 part) (bit_at kept 7) 0 * 128 + bit_at kept 3 * 8 + bit_at kept 2 * 4 + low_bit latch * 2

-- every number below a bound passes a test
all_below : (ℕ → Bool) → ℕ → Bool
all_below test zero = true
all_below test (suc n) = test n && all_below test n

one_below : (test : ℕ → Bool) (n k : ℕ) → all_below test n ≡ true → k < n → test k ≡ true
unfolding all_below
one_below test zero k h l = absurd (omega arith)
one_below test (suc n) k h l = go (eqb k n) refl (one_below test n k (right (test n) (all_below test n) h))
  where
    less : (k ≡ n → ⊥) → k < suc n → k < n
    less differs l = omega arith

    go : (t : Bool) → eqb k n ≡ t → (k < n → test k ≡ true) → test k ≡ true
    go true e below = subst (λ (j : ℕ). test j ≡ true) (sym (eqb-true k n e)) (left (test n) (all_below test n) h)
    go false e below = below (less (eqb-false k n e) l)

abbrev same : ℕ → Bool → ℕ → Bool
same part latch kept = not (is_part part && in_mask part kept) || eqb (status_byte (figure_of part) kept latch) (status_bits part kept latch)

all_same : (latch : Bool) → all_below (λ part. all_below (same part latch) 256) (length parts) ≡ true
unfolding all_below figure_of
all_same true = refl
all_same false = refl

passed : (a b : Bool) → a ≡ true → (not a || b) ≡ true → b ≡ true
passed true b e h = h
passed false b e h = absurd (eqb-false 0 1 refl cc)

module _ (s : State) (h : sound s ≡ true) where
  kept_byte : s.kept < 256
  kept_byte =
      lt_of_le_of_lt
      (rw (eqb-true (bit_and s.kept (figure_of s.part).kept) s.kept (good s h).kept) at (and_le_r s.kept (figure_of s.part).kept))
      (fair s.part (good s h).part).mask

  pub status_byte_lem : status_byte (figure_of s.part) s.kept s.latch ≡ status_bits s.part s.kept s.latch
  status_byte_lem =
      eqb-true _ _
      (passed (is_part s.part && in_mask s.part s.kept)
      (eqb (status_byte (figure_of s.part) s.kept s.latch) (status_bits s.part s.kept s.latch))
      (both (good s h).part (good s h).kept)
      (one_below (same s.part s.latch) 256 s.kept
      (one_below (λ part. all_below (same part s.latch) 256) (length parts) s.part (all_same s.latch) (below_count s.part (good s h).part))
      kept_byte))
