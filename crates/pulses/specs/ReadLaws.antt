-- A READ by whole bytes: eight pulses show a byte's bits and step the address; past the 64 bytes that are told, the record
-- counts it. Assumes nothing.
use Prim.Native.Nat.{ℕ, zero, suc, ◌+◌, ◌-◌, ◌*◌, ◌%◌, ◌<◌, ◌≤◌}
use Rattle.std.specs.Prelude.{◌≡◌, Bool, true, false, ◌&&◌, List, leb, ltb, length, get_or}
use Rattle.std.proofs.Math.Path.{refl, ap}
use Rattle.std.proofs.Common.{sym, ◌∙◌, mod-eq_of_lt, mod-lt}
use Rattle.std.proofs.Math.Bool.{cond}
use Rattle.std.proofs.Math.Nat.{add-zero, mod_self, mod-add-mod}
use native.Mathlib.Omega.{arith}
use borrow.Author.Tests.{le-leb, lt-ltb, le-ltb, ltb-true, leb-true, leb-false, ne_eqb}
use Rattle.laws.specs.TestLaws.{both, left, right}
use Rattle.parts.specs.Figures.{figure_of, is_part, in_mask, fits_part}
use Rattle.parts.specs.declared.figures.Figure.{Figure}
use Rattle.stages.specs.Address.{next_address}
use Rattle.stages.specs.Bits.{no_bits, low_bit, take_bit, bit_of}
use Rattle.stages.specs.Sound.{sound_stage}
use Rattle.stages.specs.SoundLaws.{shifted_is}
use Rattle.stages.specs.Wp.{is_up}
use Rattle.stages.specs.declared.bits.Taken.TheVariants.{Part, Whole}
use Rattle.stages.specs.declared.stage.Line.{Line}
use Rattle.stages.specs.declared.stage.Line.TheVariants.{Down, Up}
use Rattle.stages.specs.declared.stage.Stage.TheVariants.{ArrayOut}
use Rattle.select.specs.Fall.{fall, show_array, line_level}
use Rattle.select.specs.Rise.{rise}
use Rattle.select.specs.declared.notes.Note.TheVariants.{Nothing}
use Rattle.step.specs.Step.{written}
use Rattle.report.specs.Record.{code_clocks, most_shown, code_after, sampled, risen, shown_after, noted}
use Rattle.report.specs.RecordLaws.{counted_exact}
use Rattle.report.specs.declared.record.Record.{Record}
use Rattle.turns.specs.Bench.{Bench}
use Rattle.pulses.specs.Pulse.{pulsed}
use Rattle.pulses.specs.PulseLaws.{open_bench, pulse_open, pulsed_suc, pulsed_add}
use Rattle.pulses.specs.Sums.{most}

-- ---- the address

pub next_is : (f : Figure) (at : ℕ) → at < f.size → next_address f at ≡ (at + 1) % f.size
unfolding next_address
next_is f at h = go (leb f.size (at + 1)) refl
  where
    ends : (size at : ℕ) → at < size → size ≤ at + 1 → at + 1 ≡ size
    ends size at h l = omega arith

    go : (t : Bool) → leb f.size (at + 1) ≡ t → cond t 0 (at + 1) ≡ (at + 1) % f.size
    go true e = sym (ap (λ (k : ℕ). k % f.size) (ends f.size at h (leb-true _ _ e)) ∙ mod_self f.size)
    go false e = sym (mod-eq_of_lt (leb-false f.size (at + 1) e))

step_on : (size at n : ℕ) → ((at + 1) % size + n) % size ≡ (at + suc n) % size
step_on size at n = mod-add-mod (at + 1) size n ∙ ap (λ (k : ℕ). k % size) (plus at n)
  where
    plus : (at n : ℕ) → at + 1 + n ≡ at + suc n
    plus at n = omega arith

-- ---- the sample of SO: with k bits to come after this one it has its 1 in the right place

begun : ℕ → ℕ → Bool
begun zero s = leb 128 s && ltb s 256
begun (suc k) s = ltb (s * 2 + 1) 256 && (begun k (s * 2 + 0) && begun k (s * 2 + 1))

from_none : begun 7 no_bits ≡ true
unfolding begun
from_none = refl

level_sampled : (sample : ℕ) (level : Line) → sampled sample (line_level level) ≡ take_bit sample (is_up level)
unfolding sampled
level_sampled sample Down = refl
level_sampled sample Up = refl

small : (s : ℕ) → s * 2 + 1 < 256 → s < 256
small s h = omega arith

low_bits : (s : ℕ) (v : Bool) → s * 2 + 1 < 256 → s * 2 + low_bit v < 256
low_bits s true h = h
low_bits s false h = omega arith

high_bits : (s : ℕ) (v : Bool) → 128 ≤ s → 256 ≤ s * 2 + low_bit v
high_bits s true h = omega arith
high_bits s false h = omega arith

module _ (s : ℕ) (v : Bool) where
  part_taken : s * 2 + 1 < 256 → take_bit s v ≡ Part (s * 2 + low_bit v)
  unfolding take_bit
  part_taken h =
      ap (λ (n : ℕ). cond (ltb n 256) (Part n) (Whole (n % 256))) (shifted_is s v (small s h))
      ∙ ap (λ (t : Bool). cond t (Part (s * 2 + low_bit v)) (Whole ((s * 2 + low_bit v) % 256))) (lt-ltb (s * 2 + low_bit v) 256 (low_bits s v h))

  whole_taken : 128 ≤ s → s < 256 → take_bit s v ≡ Whole ((s * 2 + low_bit v) % 256)
  unfolding take_bit
  whole_taken h l =
      ap (λ (n : ℕ). cond (ltb n 256) (Part n) (Whole (n % 256))) (shifted_is s v l)
      ∙ ap (λ (t : Bool). cond t (Part (s * 2 + low_bit v)) (Whole ((s * 2 + low_bit v) % 256))) (le-ltb (s * 2 + low_bit v) 256 (high_bits s v h))

-- ---- the record

-- so many more clocks and bytes of SO, and this sample
abbrev pub shows_on : Record → ℕ → ℕ → ℕ → Record
shows_on told clocks sample shown =
    record {
      ignored = told.ignored;
      clocks = told.clocks + clocks;
      code = told.code;
      sample = sample;
      shown = told.shown + shown;
      stored = told.stored;
    }

shows_shows : (told : Record) (a s b d t e : ℕ) → shows_on (shows_on told a s b) d t e ≡ shows_on told (a + d) t (b + e)
shows_shows told a s b d t e =
    λ i. record {
      ignored = told.ignored;
      clocks = plus told.clocks a d i;
      code = told.code;
      sample = t;
      shown = plus told.shown b e i;
      stored = told.stored;
    }
  where
    plus : (x y z : ℕ) → x + y + z ≡ x + (y + z)
    plus x y z = omega arith

module _ (told : Record) (si : Bool) (level : Line) (past : code_clocks ≤ told.clocks) (below : told.clocks < most) where
  part_rise : told.sample * 2 + 1 < 256 → risen told si (line_level level) ≡ shows_on told 1 (told.sample * 2 + low_bit (is_up level)) 0
  unfolding risen code_after
  part_rise h =
      rw (
        level_sampled told.sample level,
        part_taken told.sample (is_up level) h,
        le-leb code_clocks told.clocks past,
        counted_exact told.clocks below,
        add-zero told.shown,
      )

  whole_rise : 128 ≤ told.sample → told.sample < 256 → told.shown < most → risen told si (line_level level) ≡ shows_on told 1 no_bits 1
  unfolding risen code_after
  whole_rise h l room =
      rw (
        level_sampled told.sample level,
        whole_taken told.sample (is_up level) h l,
        le-leb code_clocks told.clocks past,
        counted_exact told.clocks below,
        counted_exact told.shown room,
      )

module _ (os : List ℕ) (told : Record) (level : Line) where
  part_shown : told.sample * 2 + 1 < 256 → shown_after os told (line_level level) ≡ os
  unfolding shown_after
  part_shown h = rw (level_sampled told.sample level, part_taken told.sample (is_up level) h)

  whole_shown : 128 ≤ told.sample → told.sample < 256 → most_shown ≤ told.shown → shown_after os told (line_level level) ≡ os
  unfolding shown_after
  whole_shown h l many =
      rw (level_sampled told.sample level, whole_taken told.sample (is_up level) h l, le-ltb told.shown most_shown many)

-- ---- the stage

module _ (part kept : ℕ) (si wp : Line) (latch : Bool) (named : is_part part ≡ true) (masked : in_mask part kept ≡ true) (selects : ℕ)
    (xs os : List ℕ) (fits : fits_part part (length xs) ≡ true) where
  abbrev read_bench : Line → ℕ → ℕ → Record → Bench
  read_bench level bit at told = open_bench part kept si wp latch named masked selects (ArrayOut level bit at) told xs os

  -- bit 7 of the byte at an address
  abbrev first_bit : ℕ → Record → Bench
  first_bit at told = read_bench (bit_of (get_or xs at 0) 7) 7 at told

  in_array : (level : Line) (bit at : ℕ) → at < (figure_of part).size → bit < 8 → sound_stage (figure_of part) (ArrayOut level bit at) ≡ true
  unfolding sound_stage
  in_array level bit at h l = both (lt-ltb at (figure_of part).size h) (lt-ltb bit 8 l)

  -- a bit with others after it
  bit_out : (level : Line) (j at : ℕ) (told : Record) → at < (figure_of part).size → j < 7 → told.sample * 2 + 1 < 256
      → code_clocks ≤ told.clocks → told.clocks < most
      → pulsed 1 (read_bench level (suc j) at told)
      ≡ read_bench (bit_of (get_or xs at 0) j) j at (shows_on told 1 (told.sample * 2 + low_bit (is_up level)) 0)
  unfolding rise fall show_array written noted
  bit_out level j at told h l part_of past below =
      pulse_open part kept si wp latch named masked selects (ArrayOut level (suc j) at) (ArrayOut level (suc j) at)
      (ArrayOut (bit_of (get_or xs at 0) j) j at) Nothing told xs os (in_array level (suc j) at h (omega arith)) fits refl
      (rw (ne_eqb (suc j) 0 (λ e. omega arith), less j)) refl refl refl
      ∙ (λ i. open_bench part kept si wp latch named masked selects (ArrayOut (bit_of (get_or xs at 0) j) j at)
      (part_rise told (is_up si) level past below part_of i) xs (part_shown os told level part_of i))
    where
      less : (j : ℕ) → suc j - 1 ≡ j
      less j = omega arith

  -- the last bit of a byte
  last_out : (level : Line) (at : ℕ) (told : Record) → at < (figure_of part).size → 128 ≤ told.sample → told.sample < 256
      → code_clocks ≤ told.clocks → told.clocks < most → most_shown ≤ told.shown → told.shown < most
      → pulsed 1 (read_bench level 0 at told) ≡ first_bit ((at + 1) % (figure_of part).size) (shows_on told 1 no_bits 1)
  unfolding rise fall show_array written noted
  last_out level at told h lo hi past below many room =
      pulse_open part kept si wp latch named masked selects (ArrayOut level 0 at) (ArrayOut level 0 at)
      (ArrayOut (bit_of (get_or xs (next_address (figure_of part) at) 0) 7) 7 (next_address (figure_of part) at)) Nothing told xs os
      (in_array level 0 at h (omega arith)) fits refl refl refl refl refl
      ∙ (λ i. open_bench part kept si wp latch named masked selects
      (ArrayOut (bit_of (get_or xs (next_is (figure_of part) at h i) 0) 7) 7 (next_is (figure_of part) at h i))
      (whole_rise told (is_up si) level past below lo hi room i) xs (whole_shown os told level lo hi many i))

  -- the bits that are left of a byte
  byte_out : (k : ℕ) (level : Line) (at : ℕ) (told : Record) → at < (figure_of part).size → k < 8 → begun k told.sample ≡ true
      → code_clocks ≤ told.clocks → told.clocks + suc k ≤ most → most_shown ≤ told.shown → told.shown < most
      → pulsed (suc k) (read_bench level k at told) ≡ first_bit ((at + 1) % (figure_of part).size) (shows_on told (suc k) no_bits 1)
  unfolding begun
  byte_out zero level at told h l b past below many room =
      last_out level at told h (leb-true 128 told.sample (left _ _ b)) (ltb-true told.sample 256 (right (leb 128 told.sample) _ b))
      past (omega arith) many room
  byte_out (suc k) level at told h l b past below many room =
      pulsed_suc (suc k) (read_bench level (suc k) at told)
      ∙ ap (pulsed (suc k)) (bit_out level k at told h (omega arith) (ltb-true _ 256 first) past (omega arith))
      ∙ byte_out k (bit_of (get_or xs at 0) k) at (shows_on told 1 (told.sample * 2 + low_bit (is_up level)) 0) h (omega arith)
      (either (is_up level)) (omega arith) (omega arith) (omega arith) (omega arith)
      ∙ ap (first_bit ((at + 1) % (figure_of part).size)) (shows_shows told 1 (told.sample * 2 + low_bit (is_up level)) 0 (suc k) no_bits 1 ∙ ap (λ (n : ℕ). shows_on told n no_bits 1) (plus_one (suc k)))
    where
      plus_one : (n : ℕ) → 1 + n ≡ suc n
      plus_one n = omega arith

      first : ltb (told.sample * 2 + 1) 256 ≡ true
      first = left _ (begun k (told.sample * 2 + 0) && begun k (told.sample * 2 + 1)) b

      others : (begun k (told.sample * 2 + 0) && begun k (told.sample * 2 + 1)) ≡ true
      others = right (ltb (told.sample * 2 + 1) 256) _ b

      either : (v : Bool) → begun k (told.sample * 2 + low_bit v) ≡ true
      either false = left (begun k (told.sample * 2 + 0)) _ others
      either true = right (begun k (told.sample * 2 + 0)) _ others

  -- whole bytes, one at least
  pub bytes_out : (m : ℕ) (level : Line) (at : ℕ) (told : Record) → at < (figure_of part).size → told.sample ≡ no_bits
      → code_clocks ≤ told.clocks → told.clocks + suc m * 8 ≤ most → most_shown ≤ told.shown → told.shown + suc m ≤ most
      → pulsed (suc m * 8) (read_bench level 7 at told)
      ≡ first_bit ((at + suc m) % (figure_of part).size) (shows_on told (suc m * 8) no_bits (suc m))
  bytes_out zero level at told h none past below many room =
      byte_out 7 level at told h (omega arith) (ap (begun 7) none ∙ from_none) past (omega arith) many (omega arith)
  bytes_out (suc m) level at told h none past below many room =
      ap (λ (n : ℕ). pulsed n (read_bench level 7 at told)) (first_eight m)
      ∙ pulsed_add 8 (suc m * 8) (read_bench level 7 at told)
      ∙ ap (pulsed (suc m * 8)) (byte_out 7 level at told h (omega arith) (ap (begun 7) none ∙ from_none) past (omega arith) many (omega arith))
      ∙ bytes_out m _ ((at + 1) % (figure_of part).size) (shows_on told 8 no_bits 1) (mod-lt (at + 1) (omega arith)) refl (omega arith) (omega arith)
      (omega arith) (omega arith)
      ∙ (λ i. first_bit (step_on (figure_of part).size at (suc m) i) (sums i))
    where
      first_eight : (m : ℕ) → suc (suc m) * 8 ≡ 8 + suc m * 8
      first_eight m = omega arith

      sums : shows_on (shows_on told 8 no_bits 1) (suc m * 8) no_bits (suc m) ≡ shows_on told (suc (suc m) * 8) no_bits (suc (suc m))
      sums =
          shows_shows told 8 no_bits 1 (suc m * 8) no_bits (suc m)
          ∙ (λ i. shows_on told (sym (first_eight m) i) no_bits (plus_one (suc m) i))
        where
          plus_one : (n : ℕ) → 1 + n ≡ suc n
          plus_one n = omega arith
