-- Bits of a byte beyond the eighth are clear, and a bool read as a number is its level's bit. Assumes nothing.
use mathlib.Core.Path.{◌≡◌, refl}
use mathlib.Core.Bool.{Bool, true, false}
use Prim.Native.Nat.{ℕ, ◌≤◌, ◌<◌, ◌/◌, ◌^◌}
use native.Mathlib.Nat.{div-eq_of_lt, lt_of_lt_of_le}
use lib.Pow.{pow_mono}
use mir.Val.{bool_byte}
use Rattle.stages.specs.Bits.{low_bit}

pub beyond : {byte bit : ℕ} → byte < 2 ^ 8 → 8 ≤ bit → byte / 2 ^ bit ≡ 0
beyond h l = div-eq_of_lt (lt_of_lt_of_le h (pow_mono l))

pub low_is : (b : Bool) → low_bit b ≡ bool_byte b
low_is false = refl
low_is true = refl
