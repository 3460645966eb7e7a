-- A WRITE by whole bytes: SI stands, so eight pulses write the byte 00 or FF at the address and step it. Assumes nothing.
use Prim.Native.Nat.{ℕ, zero, suc, ◌+◌, ◌*◌, ◌%◌, ◌<◌, ◌≤◌, zero-le}
use Rattle.std.specs.Prelude.{◌≡◌, Bool, cond, not, ◌&&◌, ◌||◌, List, eqb, leb, ltb, length, set, Result, Ok, Err}
use Rattle.std.proofs.Math.Path.{refl, ap}
use Rattle.std.proofs.Common.{sym, ◌∙◌, add-zero, mod-lt, add-one}
use Rattle.std.proofs.Math.Bool.{true, false}
use Rattle.std.proofs.Math.Nat.{mod-add-mod}
use native.Mathlib.Omega.{arith}
use borrow.Author.Tests.{lt-ltb, le-leb, le-ltb, leb-true, leb-false, eqb-true}
use Rattle.laws.specs.TestLaws.{left, right}
use Rattle.parts.specs.Figures.{figure_of, is_part, in_mask, fits_part}
use Rattle.parts.specs.FigureLaws.{fair}
use Rattle.parts.specs.Guards.{first_protected, may_store}
use Rattle.parts.specs.declared.figures.Figure.{Figure}
use Rattle.parts.specs.declared.guards.Reason.{Reason}
use Rattle.parts.specs.declared.guards.Reason.TheVariants.{LatchOff, Protect, Block}
use Rattle.stages.specs.Address.{next_address}
use Rattle.stages.specs.Bits.{no_bits, low_bit, take_bit}
use Rattle.stages.specs.Last.{last_by}
use Rattle.stages.specs.Sound.{sound_shift, sound_wp, sound_last, sound_stage}
use Rattle.stages.specs.Wp.{is_up, came_up, came_with, byte_came}
use Rattle.stages.specs.declared.bits.Taken.{Taken}
use Rattle.stages.specs.declared.bits.Taken.TheVariants.{Part, Whole}
use Rattle.stages.specs.declared.stage.Came.{Came}
use Rattle.stages.specs.declared.stage.Line.{Line}
use Rattle.stages.specs.declared.stage.Came.TheVariants.{NoByte, NoByteLow, Bytes, BytesLow}
use Rattle.stages.specs.declared.stage.Stage.{Stage}
use Rattle.stages.specs.declared.stage.Stage.TheVariants.{Writing}
use Rattle.select.specs.Fall.{fall}
use Rattle.select.specs.Rise.{store_note, write_rise, rise}
use Rattle.select.specs.SoundLaws.{rise_sound}
use Rattle.select.specs.declared.notes.Level.TheVariants.{Released}
use Rattle.select.specs.declared.notes.Note.{Note}
use Rattle.select.specs.declared.notes.Note.TheVariants.{Nothing}
use Rattle.step.specs.Step.{written}
use Rattle.report.specs.Record.{code_clocks, sampled, risen, shown_after, noted}
use Rattle.report.specs.RecordLaws.{counted_exact}
use Rattle.report.specs.declared.record.Record.{Record}
use Rattle.turns.specs.Bench.{Bench}
use Rattle.pulses.specs.Pulse.{pulsed}
use Rattle.pulses.specs.Sums.{most, more, still_byte, allowed, put, one, fill_bytes, stores, last_put, last_in}
use Rattle.pulses.specs.PulseLaws.{sees, open_bench, pulse_open, pulsed_suc, pulsed_add}
use Rattle.pulses.specs.OverLaws.{silent_rise, none_more, more_more}
use Rattle.pulses.specs.ReadLaws.{next_is}
use Rattle.pulses.specs.FillLaws.{put_length}

-- ---- who may write, as one bound

abbrev why : Figure → Bool → Bool → Reason
why f latch wp = cond (not latch) LatchOff (cond (f.guards_array && not wp) Protect Block)

abbrev judged : Bool → Reason → Result (Unit {0}) Reason
judged v reason = cond v (Ok tt) (Err reason)

verdict_is : (f : Figure) (latch : Bool) (kept : ℕ) (wp : Bool) (at : ℕ) → may_store f latch kept wp at ≡ judged (ltb at (allowed f latch kept wp)) (why f latch wp)
unfolding may_store allowed
verdict_is f latch kept wp at = go (not latch) (f.guards_array && not wp) (leb (first_protected f kept) at) refl
  where
    go : (a b c : Bool) → leb (first_protected f kept) at ≡ c
        → cond a (Err LatchOff) (cond b (Err Protect)
        (cond c (Err Block) (Ok tt)))
        ≡ judged (ltb at (cond a 0 (cond b 0 (first_protected f kept)))) (cond a LatchOff (cond b Protect Block))
    go true b c e = rw (le-ltb at 0 zero-le)
    go false true c e = rw (le-ltb at 0 zero-le)
    go false false true e = rw (le-ltb at (first_protected f kept) (leb-true _ _ e))
    go false false false e = rw (lt-ltb at (first_protected f kept) (leb-false (first_protected f kept) at e))

puts : (v : Bool) (at byte : ℕ) (reason : Reason) (xs : List ℕ)
    → written (store_note at byte (judged v reason)) xs ≡ cond v (set xs at byte) xs
unfolding written
puts true at byte reason xs = refl
puts false at byte reason xs = refl

tells : (v : Bool) (at byte : ℕ) (reason : Reason) (told : Record) → told.stored < most
    → noted told (store_note at byte (judged v reason)) ≡ more told 0 0 (cond v 1 0)
unfolding noted
tells true at byte reason told room = rw (counted_exact told.stored room, add-zero told.clocks, add-zero told.shown)
tells false at byte reason told room = none_more told

marks : (v : Bool) (last at : ℕ) (reason : Reason) → at < 0xFFFFFFFF → last_by last at (judged v reason) ≡ cond v (at + 1) last
marks true last at reason short = rw (lt-ltb at 0xFFFFFFFF short)
marks false last at reason short = refl

-- ---- the bits of a byte, while SI stands: k of them, then the last

Fills : Bool → ℕ → ℕ → Type 0
Fills si zero shift = take_bit shift si ≡ Whole (still_byte si)
Fills si (suc k) shift =
    (take_bit shift si ≡ Part (shift * 2 + low_bit si)) × ((eqb (shift * 2 + low_bit si) no_bits ≡ false) × Fills si k (shift * 2 + low_bit si))

-- the same as a test, which is computed
abbrev part_is : Taken → ℕ → Bool
part_is (Part bits) n = eqb bits n
part_is (Whole byte) n = false

abbrev whole_is : Taken → ℕ → Bool
whole_is (Part bits) n = false
whole_is (Whole byte) n = eqb byte n

abbrev goes_on : Taken → ℕ → Bool → Bool
goes_on taken next others = part_is taken next && (not (eqb next no_bits) && others)

fills_in : Bool → ℕ → ℕ → Bool
fills_in si zero shift = whole_is (take_bit shift si) (still_byte si)
fills_in si (suc k) shift = goes_on (take_bit shift si) (shift * 2 + low_bit si) (fills_in si k (shift * 2 + low_bit si))

part_is_lem : (t : Taken) (n : ℕ) → part_is t n ≡ true → t ≡ Part n
part_is_lem (Part bits) n h = ap Part (eqb-true bits n h)
part_is_lem (Whole byte) n h = cc

whole_is_lem : (t : Taken) (n : ℕ) → whole_is t n ≡ true → t ≡ Whole n
whole_is_lem (Part bits) n h = cc
whole_is_lem (Whole byte) n h = ap Whole (eqb-true byte n h)

is_not : (v : Bool) → not v ≡ true → v ≡ false
is_not true h = cc
is_not false h = refl

fills_by : (si : Bool) (k shift : ℕ) → fills_in si k shift ≡ true → Fills si k shift
unfolding Fills fills_in
fills_by si zero shift h = whole_is_lem (take_bit shift si) (still_byte si) h
fills_by si (suc k) shift h = go (take_bit shift si) (shift * 2 + low_bit si) (fills_in si k (shift * 2 + low_bit si)) h (fills_by si k (shift * 2 + low_bit si))
  where
    go : (t : Taken) (n : ℕ) (others : Bool) → goes_on t n others ≡ true → (others ≡ true → Fills si k n)
        → (t ≡ Part n) × ((eqb n no_bits ≡ false) × Fills si k n)
    go t n others h rest =
        let more = right (part_is t n) _ h in (
          part_is_lem t n (left (part_is t n) _ h),
          (is_not (eqb n no_bits) (left (not (eqb n no_bits)) others more), rest (right (not (eqb n no_bits)) others more)),
        )

fills : (si : Bool) → Fills si 7 no_bits
unfolding fills_in take_bit
fills false = fills_by false 7 no_bits refl
fills true = fills_by true 7 no_bits refl

-- /WP as it stands is the byte's own
with_up : (came : Came) (wp : Bool) → came_up (came_with came wp) ≡ wp
with_up NoByte true = refl
with_up NoByte false = refl
with_up NoByteLow true = refl
with_up NoByteLow false = refl
with_up Bytes true = refl
with_up Bytes false = refl
with_up BytesLow true = refl
with_up BytesLow false = refl

-- ---- the stage

module _ (part kept : ℕ) (si wp : Line) (latch : Bool) (named : is_part part ≡ true) (masked : in_mask part kept ≡ true) (selects : ℕ) (os : List ℕ) where
  abbrev write_bench : Came → ℕ → ℕ → ℕ → Record → List ℕ → Bench
  write_bench came shift last at told xs = open_bench part kept si wp latch named masked selects (Writing came shift last at) told xs os

  abbrev pub limit : ℕ
  limit = allowed (figure_of part) latch kept (is_up wp)

  abbrev pub SoundAt : Came → ℕ → ℕ → ℕ → Type 0
  SoundAt came shift last at = sound_stage (figure_of part) (Writing came shift last at) ≡ true

  part_in : (came next : Came) (shift bits last at : ℕ) (told : Record) (xs : List ℕ) → fits_part part (length xs) ≡ true
      → SoundAt came shift last at → take_bit shift (is_up si) ≡ Part bits → byte_came came shift (is_up wp) ≡ next
      → code_clocks ≤ told.clocks → told.clocks < most
      → pulsed 1 (write_bench came shift last at told xs) ≡ write_bench next bits last at (more told 1 0 0) xs
  unfolding rise write_rise fall written shown_after sampled noted
  part_in came next shift bits last at told xs fits safe taken level past below =
      pulse_open part kept si wp latch named masked selects (Writing came shift last at) (Writing next bits last at) (Writing next bits last at) Nothing told
      xs os safe fits (rw (level, taken)) refl refl refl refl
      ∙ ap (λ (t : Record). write_bench next bits last at t xs) (silent_rise told (is_up si) past below)

  part_sound : (came next : Came) (shift bits last at : ℕ) → SoundAt came shift last at → take_bit shift (is_up si) ≡ Part bits
      → byte_came came shift (is_up wp) ≡ next → SoundAt next bits last at
  unfolding rise write_rise
  part_sound came next shift bits last at safe taken level =
      rw (level, taken) at (rise_sound (figure_of part) (fair part named) (sees part kept si wp latch named masked selects) (Writing came shift last at) safe)

  last_in_lem : (came : Came) (shift last at : ℕ) (told : Record) (xs : List ℕ) → fits_part part (length xs) ≡ true → at < (figure_of part).size
      → SoundAt came shift last at → take_bit shift (is_up si) ≡ Whole (still_byte (is_up si)) → byte_came came shift (is_up wp) ≡ came
      → came_up came ≡ is_up wp → code_clocks ≤ told.clocks → told.clocks < most → told.stored < most
      → pulsed 1 (write_bench came shift last at told xs)
      ≡ write_bench Bytes no_bits (last_put limit last at) (next_address (figure_of part) at) (more told 1 0 (one limit at)) (put limit (still_byte (is_up si)) xs at)
  unfolding rise write_rise fall shown_after sampled
  last_in_lem came shift last at told xs fits h safe taken same level past below room =
      pulse_open part kept si wp latch named masked selects (Writing came shift last at) after after note told xs os safe fits rises refl refl refl refl
      ∙ (λ i. write_bench Bytes no_bits (last_put limit last at) (next_address (figure_of part) at) (record_is i)
      (puts (ltb at limit) at (still_byte (is_up si)) reason xs i))
    where
      reason : Reason
      reason = why (figure_of part) latch (is_up wp)

      note : Note
      note = store_note at (still_byte (is_up si)) (judged (ltb at limit) reason)

      after : Stage
      after = Writing Bytes no_bits (last_put limit last at) (next_address (figure_of part) at)

      rises : rise (figure_of part) (record { latch = latch; kept = kept; wp = is_up wp; si = is_up si }) (Writing came shift last at)
          ≡ record { stage = after; latch = latch; kept = kept; note = note }
      rises =
          rw (same, taken, level, verdict_is (figure_of part) latch kept (is_up wp) at, marks (ltb at limit) last at reason (omega (arith, h, (fair part named).short)))

      record_is : noted (risen told (is_up si) Released) note ≡ more told 1 0 (one limit at)
      record_is =
          ap (λ (t : Record). noted t note) (silent_rise told (is_up si) past below)
          ∙ tells (ltb at limit) at (still_byte (is_up si)) reason (more told 1 0 0) (omega (arith, room))
          ∙ more_more told 1 0 0 0 0 (one limit at)
          ∙ ap (more told 1 0) (zero_plus (one limit at))
        where
          zero_plus : (n : ℕ) → 0 + n ≡ n
          zero_plus n = omega arith

  -- past a byte's first bit the level of /WP is the remembered one
  stays : (came : Came) (shift : ℕ) → eqb shift no_bits ≡ false → byte_came came shift (is_up wp) ≡ came
  unfolding byte_came
  stays came shift e = rw e

  -- the bits that are left of a byte
  rest_in : (k : ℕ) (came : Came) (shift last at : ℕ) (told : Record) (xs : List ℕ) → fits_part part (length xs) ≡ true → at < (figure_of part).size
      → SoundAt came shift last at → Fills (is_up si) k shift → eqb shift no_bits ≡ false → came_up came ≡ is_up wp
      → code_clocks ≤ told.clocks → told.clocks + suc k ≤ most → told.stored < most
      → pulsed (suc k) (write_bench came shift last at told xs)
      ≡ write_bench Bytes no_bits (last_put limit last at) (next_address (figure_of part) at) (more told (suc k) 0 (one limit at)) (put limit (still_byte (is_up si)) xs at)
  unfolding Fills
  rest_in zero came shift last at told xs fits h safe whole e level past below room =
      last_in_lem came shift last at told xs fits h safe whole (stays came shift e) level past (omega arith) room
  rest_in (suc k) came shift last at told xs fits h safe more-bits e level past below room =
      let bits = shift * 2 + low_bit (is_up si) in
      pulsed_suc (suc k) (write_bench came shift last at told xs)
      ∙ ap (pulsed (suc k)) (part_in came came shift bits last at told xs fits safe more-bits.0 (stays came shift e) past (omega arith))
      ∙ rest_in k came bits last at (more told 1 0 0) xs fits h (part_sound came came shift bits last at safe more-bits.0 (stays came shift e))
      more-bits.1.1 more-bits.1.0 level (omega arith) (omega arith) (omega (arith, room))
      ∙ ap (λ (t : Record). write_bench Bytes no_bits (last_put limit last at) (next_address (figure_of part) at) t (put limit (still_byte (is_up si)) xs at)) (sums (one limit at))
    where
      plus_one : (n : ℕ) → 1 + n ≡ suc n
      plus_one n = omega arith

      zero_plus : (n : ℕ) → 0 + n ≡ n
      zero_plus n = omega arith

      sums : (n : ℕ) → more (more told 1 0 0) (suc k) 0 n ≡ more told (suc (suc k)) 0 n
      sums n = more_more told 1 0 0 (suc k) 0 n ∙ (λ i. more told (plus_one (suc k) i) 0 (zero_plus n i))

  -- a whole byte
  byte_in : (came : Came) (last at : ℕ) (told : Record) (xs : List ℕ) → fits_part part (length xs) ≡ true → at < (figure_of part).size
      → SoundAt came no_bits last at → code_clocks ≤ told.clocks → told.clocks + 8 ≤ most → told.stored < most
      → pulsed 8 (write_bench came no_bits last at told xs)
      ≡ write_bench Bytes no_bits (last_put limit last at) ((at + 1) % (figure_of part).size) (more told 8 0 (one limit at)) (put limit (still_byte (is_up si)) xs at)
  unfolding Fills byte_came
  byte_in came last at told xs fits h safe past below room =
      let bits = fills (is_up si) in
      let next = came_with came (is_up wp) in
      let first = 2 + low_bit (is_up si) in
      pulsed_suc 7 (write_bench came no_bits last at told xs)
      ∙ ap (pulsed 7) (part_in came next no_bits first last at told xs fits safe bits.0 refl past (omega arith))
      ∙ rest_in 6 next first last at (more told 1 0 0) xs fits h (part_sound came next no_bits first last at safe bits.0 refl)
      bits.1.1 bits.1.0 (with_up came (is_up wp)) (omega arith) (omega arith) (omega (arith, room))
      ∙ (λ i. write_bench Bytes no_bits (last_put limit last at) (next_is (figure_of part) at h i) (sums (one limit at) i) (put limit (still_byte (is_up si)) xs at))
    where
      zero_plus : (n : ℕ) → 0 + n ≡ n
      zero_plus n = omega arith

      sums : (n : ℕ) → more (more told 1 0 0) 7 0 n ≡ more told 8 0 n
      sums n = more_more told 1 0 0 7 0 n ∙ ap (more told 8 0) (zero_plus n)

  byte_sound : (came : Came) (last at next : ℕ) → at < (figure_of part).size → next < (figure_of part).size → SoundAt came no_bits last at
      → SoundAt Bytes no_bits (last_put limit last at) next
  unfolding sound_stage
  byte_sound came last at next h l safe =
      rw (lt-ltb next (figure_of part).size l, le-leb (last_put limit last at) (figure_of part).size (inside (ltb at limit)))
      (either (eqb (last_put limit last at) 0))
    where
      either : (t : Bool) → (t || true) ≡ true
      either true = refl
      either false = refl

      tests : Bool
      tests = ltb at (figure_of part).size && sound_shift no_bits && sound_wp (came_up came) no_bits

      inside : (v : Bool) → cond v (at + 1) last ≤ (figure_of part).size
      inside true = omega (arith, h)
      inside false = leb-true last (figure_of part).size (left _ _ (right tests (sound_last (figure_of part) came last) safe))

  -- what whole bytes come to, from a place that is counted on past the array's size
  abbrev pub Writes : ℕ → Came → ℕ → ℕ → Record → List ℕ → Type 0
  Writes n came last x told xs =
      let size = (figure_of part).size in
      pulsed (n * 8) (write_bench came no_bits last (x % size) told xs)
      ≡ write_bench Bytes no_bits (last_in size limit n x last) ((x + n) % size) (more told (n * 8) 0 (stores size limit n x))
      (fill_bytes size limit (still_byte (is_up si)) n x xs)

  one_few : (v : Bool) → cond v 1 0 ≤ 1
  one_few true = omega arith
  one_few false = omega arith

  -- the first, whatever came before it, and the others
  pub first_in : (n : ℕ) (came : Came) (last x : ℕ) (told : Record) (xs : List ℕ) → fits_part part (length xs) ≡ true → 0 < (figure_of part).size
      → SoundAt came no_bits last (x % (figure_of part).size)
      → code_clocks ≤ told.clocks → told.clocks + suc n * 8 ≤ most → told.stored + suc n ≤ most
      → ((l : ℕ) (t : Record) (ys : List ℕ) → fits_part part (length ys) ≡ true → SoundAt Bytes no_bits l (suc x % (figure_of part).size)
      → code_clocks ≤ t.clocks → t.clocks + n * 8 ≤ most → t.stored + n ≤ most → Writes n Bytes l (suc x) t ys)
      → Writes (suc n) came last x told xs
  first_in n came last x told xs fits some safe past below room others =
      ap (λ (k : ℕ). pulsed k (write_bench came no_bits last at told xs)) (eight n)
      ∙ pulsed_add 8 (n * 8) (write_bench came no_bits last at told xs)
      ∙ ap (pulsed (n * 8))
      (byte_in came last at told xs fits (mod-lt x some) safe past (omega arith) (omega arith)
      ∙ ap (λ (k : ℕ). write_bench Bytes no_bits (last_put limit last at) k (more told 8 0 (one limit at)) (put limit (still_byte (is_up si)) xs at)) next)
      ∙ others (last_put limit last at) (more told 8 0 (one limit at)) (put limit (still_byte (is_up si)) xs at) (rw (put_length limit (still_byte (is_up si)) xs at) fits)
      (byte_sound came last at (suc x % (figure_of part).size) (mod-lt x some) (mod-lt (suc x) some) safe)
      (omega arith) (omega arith) (omega (arith, one_few (ltb at limit)))
      ∙ (λ i. write_bench Bytes no_bits (last_in (figure_of part).size limit (suc n) x last) (later x n i % (figure_of part).size) (sums i)
      (fill_bytes (figure_of part).size limit (still_byte (is_up si)) (suc n) x xs))
    where
      at : ℕ
      at = x % (figure_of part).size

      eight : (n : ℕ) → suc n * 8 ≡ 8 + n * 8
      eight n = omega arith

      later : (x n : ℕ) → suc x + n ≡ x + suc n
      later x n = omega arith

      next : (at + 1) % (figure_of part).size ≡ suc x % (figure_of part).size
      next = mod-add-mod x (figure_of part).size 1 ∙ ap (λ (k : ℕ). k % (figure_of part).size) (add-one x)

      sums : more (more told 8 0 (one limit at)) (n * 8) 0 (stores (figure_of part).size limit n (suc x))
          ≡ more told (suc n * 8) 0 (stores (figure_of part).size limit (suc n) x)
      sums =
          more_more told 8 0 (one limit at) (n * 8) 0 (stores (figure_of part).size limit n (suc x))
          ∙ ap (λ (k : ℕ). more told k 0 (stores (figure_of part).size limit (suc n) x)) (sym (eight n))

  pub bytes_in : (n last x : ℕ) (told : Record) (xs : List ℕ) → fits_part part (length xs) ≡ true → 0 < (figure_of part).size
      → SoundAt Bytes no_bits last (x % (figure_of part).size)
      → code_clocks ≤ told.clocks → told.clocks + n * 8 ≤ most → told.stored + n ≤ most → Writes n Bytes last x told xs
  unfolding pulsed
  bytes_in zero last x told xs fits some safe past below room =
      (λ i. write_bench Bytes no_bits last (sym (add-zero x) i % (figure_of part).size) (none_more told i) xs)
  bytes_in (suc n) last x told xs fits some safe past below room =
      first_in n Bytes last x told xs fits some safe past below room
      (λ l t ys. λ f s p b r. bytes_in n l (suc x) t ys f some s p b r)
