-- What a skip in a WRITE leaves. Assumes nothing.
use Prim.Native.Nat.{ℕ, zero, suc, ◌+◌, ◌-◌, ◌*◌, ◌/◌, ◌%◌, ◌<◌, ◌≤◌, zero-le}
use Rattle.std.specs.Prelude.{◌≡◌, Bool, true, false, cond, not, ◌&&◌, List, length}
use Rattle.std.proofs.Math.Path.{sym, ap}
use Rattle.std.proofs.Common.{◌∙◌, mod-eq_of_lt, sub-le, ltb-true}
use native.Mathlib.Omega.{arith}
use Rattle.laws.specs.TestLaws.{left}
use Rattle.parts.specs.Figures.{figure_of}
use Rattle.parts.specs.FigureLaws.{fair}
use Rattle.parts.specs.Guards.{first_protected}
use Rattle.parts.specs.declared.figures.Figure.{Figure}
use Rattle.stages.specs.Bits.{no_bits}
use Rattle.stages.specs.Sound.{sound_shift, sound_wp, sound_last, sound_stage}
use Rattle.stages.specs.Wp.{is_up, came_up}
use Rattle.stages.specs.declared.stage.Came.{Came}
use Rattle.stages.specs.declared.stage.Came.TheVariants.{Bytes}
use Rattle.stages.specs.declared.stage.Stage.{Stage}
use Rattle.stages.specs.declared.stage.Stage.TheVariants.{Writing}
use Rattle.pins.specs.declared.state.State.{State}
use Rattle.report.specs.declared.record.Record.{Record}
use Rattle.turns.specs.declared.stand.Stand.{Stand}
use Rattle.pulses.specs.Pulse.{pulsed, standing, skipped, Skips}
use Rattle.pulses.specs.Sums.{counts_on, steady, idle, more, still_byte, allowed, store_limit, fill_bytes, stores, least, before, in_stage, stored_in, last_in, last_stored, write_on, array_on}
use Rattle.pulses.specs.PulseLaws.{pulsed_add}
use Rattle.pulses.specs.IdleLaws.{fits}
use Rattle.pulses.specs.FillLaws.{stored_in_lem, last_stored_lem, fill_least}
use Rattle.pulses.specs.WriteLaws.{first_in, bytes_in}
use Rattle.pulses.specs.SkipLaws.{counts, named, masked, in_open, stands, stood, long, staged}

-- no address outside the array may be stored to
limit_fits : (f : Figure) (latch : Bool) (kept : ℕ) (wp : Bool) → allowed f latch kept wp ≤ f.size
unfolding allowed first_protected
limit_fits f false kept wp = zero-le
limit_fits f true kept wp = go (f.guards_array && not wp)
  where
    go : (v : Bool) → cond v 0 (first_protected f kept) ≤ f.size
    go true = zero-le
    go false = sub-le _ _

-- bytes up to a round of the array are all that change it
pub round_is : (s : State) (xs : List ℕ) (at n limit byte m : ℕ) (ys : List ℕ) → at < length xs → limit ≡ store_limit s → byte ≡ still_byte (is_up s.si)
    → m ≡ least (length xs) n → ys ≡ fill_bytes (length xs) limit byte m at xs → ys ≡ array_on s xs at n
unfolding array_on
round_is s xs at n limit byte m ys h bound value count is =
    is
    ∙ (λ i. fill_bytes (length xs) (bound i) (value i) (count i) at xs)
    ∙ fill_least (length xs) (store_limit s) (still_byte (is_up s.si)) n at xs h

-- the stand after a WRITE, from what its parts are
pub write_is : (stand : Stand) (size last at n limit upto from came : ℕ) (told : Record) → limit ≡ store_limit stand.chip
    → upto ≡ before size limit (at + n) → from ≡ before size limit at → came ≡ last_stored limit (upto - from) ((at + n) % size) last
    → told ≡ more stand.told (n * 8) 0 (upto - from)
    → in_stage stand (Writing Bytes no_bits came ((at + n) % size)) told ≡ write_on stand size last at n
unfolding write_on
write_is stand size last at n limit upto from came told bound to start is sums = search

module _ (stand : Stand) (xs : List ℕ) (safe : steady stand.chip (length xs) ≡ true) (sees : idle stand.chip ≡ false) where
  -- the address of a WRITE lies in the array
  pub write_inside : (came : Came) (shift last at : ℕ) → stand.chip.stage ≡ Writing came shift last at → at < length xs
  unfolding sound_stage
  write_inside came shift last at is =
      let sure = left _ (sound_last (figure_of stand.chip.part) came last) (staged stand xs safe sees (Writing came shift last at) is) in
      rw (long stand xs safe sees) (ltb-true at _ (left _ (sound_shift shift) (left _ (sound_wp (came_up came) shift) sure)))

  -- the sizes that its sums ask
  pub write_short : length xs ≤ 0xFFFFFFFF
  write_short = rw (long stand xs safe sees) (fair stand.chip.part (named stand xs safe sees)).short

  pub write_below : store_limit stand.chip ≤ length xs
  write_below = rw (long stand xs safe sees) (limit_fits (figure_of stand.chip.part) stand.chip.latch stand.chip.kept (is_up stand.chip.wp))

  -- whole bytes
  skip_write : (n m : ℕ) (came : Came) (last at : ℕ) → counts_on stand.told n ≡ true → stand.chip.stage ≡ Writing came no_bits last at
      → 0 < m → m * 8 ≤ n → Skips stand xs n (skipped (write_on stand (length xs) last at m) (n - m * 8)) (array_on stand.chip xs at m)
  unfolding write_on array_on
  skip_write n zero came last at room is some fit os = absurd (omega arith)
  skip_write n (suc k) came last at room is some fit os =
      ap (pulsed (n - suc k * 8)) (stands stand xs safe sees after told ys os ∙ sym whole)
      ∙ sym (pulsed_add (suc k * 8) (n - suc k * 8) (standing stand xs os))
      ∙ ap (λ (j : ℕ). pulsed j (standing stand xs os)) (total n (suc k * 8) fit)
    where
      total : (n m : ℕ) → m ≤ n → m + (n - m) ≡ n
      total n m h = omega arith

      size : ℕ
      size = (figure_of stand.chip.part).size

      limit : ℕ
      limit = store_limit stand.chip

      byte : ℕ
      byte = still_byte (is_up stand.chip.si)

      inside : at < size
      inside = rw (← long stand xs safe sees) (write_inside came no_bits last at is)

      below : limit ≤ size
      below = limit_fits (figure_of stand.chip.part) stand.chip.latch stand.chip.kept (is_up stand.chip.wp)

      stored : ℕ
      stored = stored_in (length xs) limit at (suc k)

      after : Stage
      after = Writing Bytes no_bits (last_stored limit stored ((at + suc k) % length xs) last) ((at + suc k) % length xs)

      told : Record
      told = more stand.told (suc k * 8) 0 stored

      ys : List ℕ
      ys = fill_bytes (length xs) limit byte (suc k) at xs

      sum : stores size limit (suc k) at ≡ stored
      sum =
          sym (stored_in_lem size limit (omega (arith, inside)) below (suc k) at)
          ∙ ap (λ (j : ℕ). stored_in j limit at (suc k)) (sym (long stand xs safe sees))

      written : pulsed (suc k * 8) (in_open stand xs safe sees (Writing came no_bits last (at % size)) stand.told xs os)
          ≡ in_open stand xs safe sees (Writing Bytes no_bits (last_in size limit (suc k) at last) ((at + suc k) % size))
          (more stand.told (suc k * 8) 0 (stores size limit (suc k) at)) (fill_bytes size limit byte (suc k) at xs) os
      written =
          let s = stand.chip in
          let c = counts stand.told n room in
          let some : 0 < size = omega (arith, inside) in
          first_in s.part s.kept s.si s.wp s.latch (named stand xs safe sees) (masked stand xs safe sees) stand.selects os
          k came last at stand.told xs (fits s (length xs) safe) some
          (rw (mod-eq_of_lt inside) (staged stand xs safe sees (Writing came no_bits last at) is)) c.0 (omega (arith, c.1)) (omega (arith, c.3))
          (λ l t zs. λ f w p b r. bytes_in s.part s.kept s.si s.wp s.latch (named stand xs safe sees) (masked stand xs safe sees) stand.selects os
          k l (suc at) t zs f some w p b r)

      whole : pulsed (suc k * 8) (standing stand xs os) ≡ in_open stand xs safe sees after told ys os
      whole =
          let size_is = sym (long stand xs safe sees) in
          ap (pulsed (suc k * 8)) (stood stand xs safe sees (Writing came no_bits last at) is os)
          ∙ ap (λ (j : ℕ). pulsed (suc k * 8) (in_open stand xs safe sees (Writing came no_bits last j) stand.told xs os)) (sym (mod-eq_of_lt inside))
          ∙ written
          ∙ ap (λ (l : ℕ). in_open stand xs safe sees (Writing Bytes no_bits l ((at + suc k) % size))
          (more stand.told (suc k * 8) 0 (stores size limit (suc k) at)) (fill_bytes size limit byte (suc k) at xs) os)
          (last_stored_lem size limit (omega (arith, inside)) below (suc k) at last)
          ∙ (λ i. in_open stand xs safe sees (Writing Bytes no_bits (last_stored limit (sum i) ((at + suc k) % size_is i) last) ((at + suc k) % size_is i))
          (more stand.told (suc k * 8) 0 (sum i)) (fill_bytes (size_is i) limit byte (suc k) at xs) os)

  pub write_out : (n m : ℕ) (came : Came) (shift last at : ℕ) (r : Stand) (ys : List ℕ) → counts_on stand.told n ≡ true
      → stand.chip.stage ≡ Writing came shift last at → shift ≡ no_bits → (m ≡ 0 → ⊥) → m ≡ n / 8
      → r ≡ write_on stand (length xs) last at m → ys ≡ array_on stand.chip xs at m → (n - m * 8 ≤ n) × Skips stand xs n (skipped r (n - m * 8)) ys
  write_out n m came shift last at r ys room is none some eighth goes stores = (
    omega arith,
    λ os. (λ i. pulsed (n - m * 8) (standing (goes i) (stores i) os))
        ∙ skip_write n m came last at room (is ∙ ap (λ (b : ℕ). Writing came b last at) none) (omega arith) (omega arith) os,
  )
