-- A select that is over counts its clocks and does nothing else. Assumes nothing.
use Prim.Native.Nat.{ℕ, zero, suc, ◌+◌, ◌≤◌, ◌<◌}
use Rattle.std.specs.Prelude.{◌≡◌, Bool, true, List, length}
use Rattle.std.proofs.Math.Path.{refl, ap}
use Rattle.std.proofs.Common.{◌∙◌, add-zero, le-leb}
use native.Mathlib.Omega.{arith}
use Rattle.parts.specs.Figures.{is_part, in_mask, fits_part}
use Rattle.stages.specs.Sound.{sound_stage}
use Rattle.stages.specs.Wp.{is_up}
use Rattle.stages.specs.declared.stage.End.{End}
use Rattle.stages.specs.declared.stage.Line.{Line}
use Rattle.stages.specs.declared.stage.Stage.TheVariants.{Over}
use Rattle.select.specs.Fall.{fall}
use Rattle.select.specs.Rise.{rise}
use Rattle.select.specs.declared.notes.Level.TheVariants.{Released}
use Rattle.select.specs.declared.notes.Note.TheVariants.{Nothing}
use Rattle.step.specs.Step.{written}
use Rattle.report.specs.Record.{code_clocks, code_after, sampled, risen, shown_after, noted}
use Rattle.report.specs.RecordLaws.{counted_exact}
use Rattle.report.specs.declared.record.Record.{Record}
use Rattle.turns.specs.Bench.{Bench}
use Rattle.pulses.specs.Pulse.{pulsed}
use Rattle.pulses.specs.PulseLaws.{open_bench, pulse_open}
use Rattle.pulses.specs.Sums.{most, more}

-- a seen rise with SO released, past the op-code
pub silent_rise : (told : Record) (si : Bool) → code_clocks ≤ told.clocks → told.clocks < most → risen told si Released ≡ more told 1 0 0
unfolding risen code_after sampled
silent_rise told si past below =
    rw (le-leb code_clocks told.clocks past, counted_exact told.clocks below, add-zero told.shown, add-zero told.stored)

pub none_more : (told : Record) → told ≡ more told 0 0 0
none_more told = rw (add-zero told.clocks, add-zero told.shown, add-zero told.stored)

pub more_more : (told : Record) (a b c d e f : ℕ) → more (more told a b c) d e f ≡ more told (a + d) (b + e) (c + f)
more_more told a b c d e f =
    λ i. record {
      ignored = told.ignored;
      clocks = plus told.clocks a d i;
      code = told.code;
      sample = told.sample;
      shown = plus told.shown b e i;
      stored = plus told.stored c f i;
    }
  where
    plus : (x y z : ℕ) → x + y + z ≡ x + (y + z)
    plus x y z = omega arith

module _ (part kept : ℕ) (si wp : Line) (latch : Bool) (named : is_part part ≡ true) (masked : in_mask part kept ≡ true) (selects : ℕ)
    (xs os : List ℕ) (fits : fits_part part (length xs) ≡ true) (end : End) where
  abbrev over_bench : Record → Bench
  over_bench told = open_bench part kept si wp latch named masked selects (Over end) told xs os

  one : (told : Record) → code_clocks ≤ told.clocks → told.clocks < most → pulsed 1 (over_bench told) ≡ over_bench (more told 1 0 0)
  unfolding rise fall written shown_after sampled noted sound_stage
  one told past below =
      pulse_open part kept si wp latch named masked selects (Over end) (Over end) (Over end) Nothing told xs os refl fits refl refl refl refl refl
      ∙ ap over_bench (silent_rise told (is_up si) past below)

  pub over_counts : (n : ℕ) (told : Record) → code_clocks ≤ told.clocks → told.clocks + n ≤ most
      → pulsed n (over_bench told) ≡ over_bench (more told n 0 0)
  unfolding pulsed
  over_counts zero told past fit = ap over_bench (none_more told)
  over_counts (suc n) told past fit =
      ap (pulsed n) (one told past (omega arith))
      ∙ over_counts n (more told 1 0 0) (omega arith) (omega arith)
      ∙ ap over_bench (more_more told 1 0 0 n 0 0 ∙ ap (λ (k : ℕ). more told k 0 0) (plus_one n))
    where
      plus_one : (n : ℕ) → 1 + n ≡ suc n
      plus_one n = omega arith
