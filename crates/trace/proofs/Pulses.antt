-- Event k of a byte's pulses: of each three, the first puts SI to the bit that is due, the second raises SCK, the third
-- lowers it. And event k of an item. Assumes nothing.
use mathlib.Core.Path.{◌≡◌, refl, sym, ap, ◌∙◌}
use Prim.Native.Nat.{ℕ, zero, suc, ◌+◌, ◌-◌, ◌*◌, ◌/◌, ◌%◌, ◌^◌, ◌<◌, ◌≤◌}
use native.Mathlib.Nat.{add-mod_right, add-div_right}
use native.Mathlib.Omega.{arith}
use borrow.Author.Tests.{lt-ltb, le-ltb, ne_eqb}
use lib.Bits.{bit_and, and_mask}
use lib.Dec.{eqb}
use lib.ListN.{length, get_or, get_or-eq_default}
use mathlib.Core.Bool.{cond}
use Rattle.trace.specs.Figures.{first_byte, byte_events}
use Rattle.trace.specs.Items.{short_events, pulses, clocked}
use Rattle.laws.specs.Bits.{bit_at}

-- the event at a place of a pulse, and the bit that is due
abbrev pub beat : ℕ → ℕ → ℕ → ℕ
beat byte place i = cond (eqb place 0) (4 + bit_at byte i) (cond (eqb place 1) 3 2)

three : (k : ℕ) → suc (suc (suc k)) ≡ k + 3
three k = omega arith

-- three events later the bit is the next lower one
later : (byte i k : ℕ) → beat byte (suc (suc (suc k)) % 3) (suc i - 1 - suc (suc (suc k)) / 3) ≡ beat byte (k % 3) (i - 1 - k / 3)
later byte i k = rw (three k, add-mod_right k 3, due)
  where
    fewer : (q : ℕ) → suc i - 1 - (q + 1) ≡ i - 1 - q
    fewer q = omega arith

    due : suc i - 1 - (k + 3) / 3 ≡ i - 1 - k / 3
    due = rw (add-div_right k {k = 3} (omega arith)) (fewer (k / 3))

first : (i : ℕ) → i ≡ suc i - 1 - 0
first i = omega arith

pulse_at : (i byte k : ℕ) → k < 3 * i → get_or (pulses i byte) k 0 ≡ beat byte (k % 3) (i - 1 - k / 3)
pulse_at zero byte k h = absurd (omega arith)
pulse_at (suc i) byte zero h = ap (λ (j : ℕ). 4 + bit_at byte j) (first i)
pulse_at (suc i) byte (suc zero) h = refl
pulse_at (suc i) byte (suc (suc zero)) h = refl
pulse_at (suc i) byte (suc (suc (suc k))) h = pulse_at i byte k (omega arith) ∙ sym (later byte i k)

module _ (byte k : ℕ) (h : k < byte_events) where
  pub si_beat : k % 3 ≡ 0 → 4 + bit_and (byte / 2 ^ (7 - k / 3)) 1 ≡ get_or (clocked byte) k 0
  unfolding clocked
  si_beat e = ap (λ (m : ℕ). 4 + m) (and_mask (byte / 2 ^ (7 - k / 3)) 1) ∙ sym (pulse_at 8 byte k h ∙ rw e)

  pub up_beat : k % 3 ≡ 1 → 3 ≡ get_or (clocked byte) k 0
  unfolding clocked
  up_beat e = sym (pulse_at 8 byte k h ∙ rw e)

  pub down_beat : (k % 3 ≡ 0 → ⊥) → (k % 3 ≡ 1 → ⊥) → 2 ≡ get_or (clocked byte) k 0
  unfolding clocked
  down_beat n m = sym (pulse_at 8 byte k h ∙ rw (ne_eqb (k % 3) 0 n, ne_eqb (k % 3) 1 m))

-- event k of an item that has m
module _ (n k m : ℕ) (size : m ≡ length (short_events n)) where
  pub past : m ≤ k → 0 ≡ get_or (short_events n) k 0
  past h = sym (get_or-eq_default (short_events n) 0 (rw size at h))

  -- an event has itself alone
  pub sole : n < first_byte → k < m → n ≡ get_or (short_events n) k 0
  sole h l =
      let one : k < 1 = simp (lt-ltb n first_byte h) at (rw size at l) in
      let none : k ≡ 0 = omega arith in
      rw (lt-ltb n first_byte h, none)

  pub within : first_byte ≤ n → k < m → k < byte_events
  unfolding clocked
  within h l = simp (le-ltb n first_byte h) at (rw size at l)

-- event k of a data byte
pub of_byte : (n k r : ℕ) → first_byte ≤ n → r ≡ get_or (clocked (n - first_byte)) k 0 → r ≡ get_or (short_events n) k 0
of_byte n k r h is = rw (le-ltb n first_byte h) is
