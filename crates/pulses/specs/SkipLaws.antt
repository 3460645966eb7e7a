-- What a skip leaves, for each way that it has. Assumes nothing.
use Prim.Native.Nat.{ℕ, zero, suc, ◌+◌, ◌-◌, ◌*◌, ◌/◌, ◌%◌, ◌<◌, ◌≤◌, zero-le}
use Rattle.std.specs.Prelude.{◌≡◌, refl, Bool, true, false, not, ◌&&◌, ◌||◌, leb, ltb, get_or}
use Rattle.std.proofs.Math.Path.{sym, ap}
use Rattle.std.proofs.Common.{◌∙◌, add-zero, le_refl, leb-true, ltb-true, eqb-true}
use mathlib.Core.List.{List}
use native.Mathlib.Omega.{arith}
use Rattle.std.proofs.Math.ListN.{length}
use Rattle.laws.specs.TestLaws.{left, right, granted}
use Rattle.parts.specs.Figures.{figure_of, is_part, in_mask}
use Rattle.parts.specs.FigureLaws.{largest}
use Rattle.parts.specs.declared.figures.Figure.{Figure}
use Rattle.stages.specs.Bits.{no_bits, bit_of}
use Rattle.stages.specs.Sound.{sound_stage}
use Rattle.stages.specs.declared.stage.Line.{Line}
use Rattle.stages.specs.Close.{is_closed}
use Rattle.stages.specs.declared.stage.End.{End}
use Rattle.stages.specs.declared.stage.Stage.{Stage}
use Rattle.stages.specs.declared.stage.Stage.TheVariants.{Ready, ArrayOut, Over}
use Rattle.stages.specs.declared.stage.What.TheVariants.{Array}
use Rattle.select.specs.Fall.{fall, show_array}
use Rattle.pins.specs.Levels.{hold_high}
use Rattle.pins.specs.SoundLaws.{good}
use Rattle.pins.specs.declared.hold.Hold.{Hold}
use Rattle.pins.specs.declared.hold.Hold.TheVariants.{High, LowCsLow, LowCsHigh}
use Rattle.pins.specs.declared.state.State.{State}
use Rattle.report.specs.Record.{code_clocks, most_shown}
use Rattle.report.specs.declared.record.Record.{Record}
use Rattle.turns.specs.Bench.{Bench}
use Rattle.turns.specs.declared.stand.Stand.{Stand}
use Rattle.pulses.specs.Pulse.{pulsed, standing, skipped, Skips}
use Rattle.pulses.specs.Sums.{most, room, counts_on, steady, idle, more, in_stage, read_on}
use Rattle.pulses.specs.PulseLaws.{stand_of, chip_of, open_bench, pulsed_add}
use Rattle.pulses.specs.IdleLaws.{idle_stays, sck_low, is_sound, fits}
use Rattle.pulses.specs.OverLaws.{over_counts}
use Rattle.pulses.specs.ReadLaws.{shows_on, bytes_out}
use Rattle.pulses.specs.declared.sums.Skipped.{Skipped}

-- the op-code is whole, and the counts have room
pub counts : (told : Record) (n : ℕ) → counts_on told n ≡ true
    → (code_clocks ≤ told.clocks) × (told.clocks + n ≤ most) × (told.shown + n ≤ most) × (told.stored + n ≤ most)
unfolding counts_on
counts told n h = (leb-true _ _ (left a b ab), leb-true _ _ (right a b ab), leb-true _ _ (right (a && b) d abd), leb-true _ _ (right (a && b && d) e h))
  where
    a : Bool
    a = leb code_clocks told.clocks

    b : Bool
    b = room told.clocks n

    d : Bool
    d = room told.shown n

    e : Bool
    e = room told.stored n

    abd : (a && b && d) ≡ true
    abd = left (a && b && d) e h

    ab : (a && b) ≡ true
    ab = left (a && b) d abd

-- nothing is skipped
pub skip_none : (stand : Stand) (xs : List ℕ) (n : ℕ) (r : Skipped) → r ≡ skipped stand n → (r.left ≤ n) × Skips stand xs n r xs
skip_none stand xs n r is = (rw is (le_refl n), λ os. ap (λ (x : Skipped). pulsed x.left (standing x.stand xs os)) is)

-- no select sees the pulses
pub skip_idle : (stand : Stand) (xs : List ℕ) (n : ℕ) (s i : Bool) → s ≡ steady stand.chip (length xs) → not s ≡ false
    → i ≡ idle stand.chip → i ≡ true → (0 ≤ n) × Skips stand xs n (skipped stand 0) xs
unfolding pulsed
skip_idle stand xs n s i told safe seen none = (zero-le, λ os. sym (idle_stays stand xs os n (sym told ∙ yes s safe) (sym seen ∙ none)))
  where
    yes : (v : Bool) → not v ≡ false → v ≡ true
    yes true e = refl
    yes false e = cc

-- ---- in an open select

power_on : (power : Bool) (hold : Hold) (stage : Stage) → (not power || not (hold_high hold) || is_closed stage) ≡ false → power ≡ true
power_on true hold stage h = refl
power_on false hold stage h = cc

hold_high_lem : (power : Bool) (hold : Hold) (stage : Stage) → (not power || not (hold_high hold) || is_closed stage) ≡ false → hold ≡ High
hold_high_lem power High stage h = refl
hold_high_lem true LowCsLow stage h = cc
hold_high_lem false LowCsLow stage h = cc
hold_high_lem true LowCsHigh stage h = cc
hold_high_lem false LowCsHigh stage h = cc

-- what whole bytes from a place on ask: the place is in the array, and no count stops within them
pub record Asked (stand : Stand) (xs : List ℕ) (at m : ℕ) : Type 0 where
  pub inside : at < length xs
  pub place : at + m ≤ most
  pub clocks : stand.told.clocks + m * 8 ≤ most
  pub shown : stand.told.shown + m ≤ most
  pub stored : stand.told.stored + m ≤ most

module _ (stand : Stand) (xs : List ℕ) (safe : steady stand.chip (length xs) ≡ true) (sees : idle stand.chip ≡ false) where
  s : State
  s = stand.chip

  pub named : is_part stand.chip.part ≡ true
  named = (good stand.chip (is_sound stand.chip (length xs) safe)).part

  pub masked : in_mask stand.chip.part stand.chip.kept ≡ true
  masked = (good stand.chip (is_sound stand.chip (length xs) safe)).kept

  abbrev pub in_open : Stage → Record → List ℕ → List ℕ → Bench
  in_open stage told ys os =
      open_bench stand.chip.part stand.chip.kept stand.chip.si stand.chip.wp stand.chip.latch named masked stand.selects
      stage told ys os

  pub stands : (stage : Stage) (told : Record) (ys os : List ℕ)
      → standing (in_stage stand stage told) ys os ≡ in_open stage told ys os
  unfolding idle
  stands stage told ys os =
      λ i. standing
      (stand_of
      (chip_of stand.chip.part stand.chip.kept (power_on stand.chip.power stand.chip.hold stand.chip.stage sees i)
      (sck_low stand.chip (length xs) safe i) stand.chip.si stand.chip.wp stand.chip.latch
      (hold_high_lem stand.chip.power stand.chip.hold stand.chip.stage sees i) stage)
      stand.selects told)
      ys os

  -- as it stands
  pub stood : (stage : Stage) → stand.chip.stage ≡ stage → (os : List ℕ) → standing stand xs os ≡ in_open stage stand.told xs os
  stood stage is os =
      ap (λ (g : Stage). standing (in_stage stand g stand.told) xs os) is ∙ stands stage stand.told xs os

  -- the select is over
  pub skip_over : (n : ℕ) (told : Record) (end : End) → counts_on stand.told n ≡ true → stand.chip.stage ≡ Over end → told ≡ more stand.told n 0 0
      → (0 ≤ n) × Skips stand xs n (skipped (stand_of stand.chip stand.selects told) 0) xs
  unfolding pulsed
  skip_over n told end room is sums = (zero-le, λ os. now os ∙ sym (before os))
    where
      before : (os : List ℕ) → pulsed n (standing stand xs os) ≡ in_open (Over end) (more stand.told n 0 0) xs os
      before os =
          ap (pulsed n) (stood (Over end) is os)
          ∙ over_counts stand.chip.part stand.chip.kept stand.chip.si stand.chip.wp stand.chip.latch named masked
          stand.selects xs os (fits stand.chip (length xs) safe) end n stand.told (counts stand.told n room).0 (counts stand.told n room).1

      now : (os : List ℕ) → standing (stand_of stand.chip stand.selects told) xs os ≡ in_open (Over end) (more stand.told n 0 0) xs os
      now os =
          ap (λ (g : Stage). standing (in_stage stand g told) xs os) is
          ∙ stands (Over end) told xs os
          ∙ ap (λ (t : Record). in_open (Over end) t xs os) sums

  -- the array is the part's
  pub long : length xs ≡ (figure_of stand.chip.part).size
  long = eqb-true _ _ (fits stand.chip (length xs) safe)

  pub staged : (stage : Stage) → stand.chip.stage ≡ stage → sound_stage (figure_of stand.chip.part) stage ≡ true
  staged stage is =
      ap (sound_stage (figure_of stand.chip.part)) (sym is) ∙ (good stand.chip (is_sound stand.chip (length xs) safe)).stage

  -- the address of a READ lies in the array
  pub read_inside : (level : Line) (bit at : ℕ) → stand.chip.stage ≡ ArrayOut level bit at → at < length xs
  unfolding sound_stage
  read_inside level bit at is = rw long (ltb-true at _ (left _ (ltb bit 8) (staged (ArrayOut level bit at) is)))

  -- whole bytes of a READ, past those that are told
  skip_read : (n m : ℕ) (level : Line) (at : ℕ) → counts_on stand.told n ≡ true → stand.chip.stage ≡ ArrayOut level 7 at
      → stand.told.sample ≡ no_bits → most_shown ≤ stand.told.shown → 0 < m → m * 8 ≤ n
      → Skips stand xs n (skipped (read_on stand xs at m) (n - m * 8)) xs
  unfolding read_on show_array
  skip_read n zero level at room is none many some fit os = absurd (omega arith)
  skip_read n (suc k) level at room is none many some fit os =
      ap (pulsed (n - suc k * 8)) (stands (ArrayOut (bit_of (get_or xs ((at + suc k) % length xs) 0) 7) 7 ((at + suc k) % length xs)) (more stand.told (suc k * 8) (suc k) 0) xs os ∙ sym whole)
      ∙ sym (pulsed_add (suc k * 8) (n - suc k * 8) (standing stand xs os))
      ∙ ap (λ (j : ℕ). pulsed j (standing stand xs os)) (total n (suc k * 8) fit)
    where
      total : (n m : ℕ) → m ≤ n → m + (n - m) ≡ n
      total n m h = omega arith

      sums : shows_on stand.told (suc k * 8) no_bits (suc k) ≡ more stand.told (suc k * 8) (suc k) 0
      sums = λ i. record {
        ignored = stand.told.ignored;
        clocks = stand.told.clocks + suc k * 8;
        code = stand.told.code;
        sample = sym none i;
        shown = stand.told.shown + suc k;
        stored = sym (add-zero stand.told.stored) i;
      }

      whole : pulsed (suc k * 8) (standing stand xs os)
          ≡ in_open (ArrayOut (bit_of (get_or xs ((at + suc k) % length xs) 0) 7) 7 ((at + suc k) % length xs)) (more stand.told (suc k * 8) (suc k) 0) xs os
      whole =
          ap (pulsed (suc k * 8)) (stood (ArrayOut level 7 at) is os)
          ∙ bytes_out stand.chip.part stand.chip.kept stand.chip.si stand.chip.wp stand.chip.latch named masked
          stand.selects xs os (fits stand.chip (length xs) safe) k level at stand.told (rw (← long) (read_inside level 7 at is)) none (counts stand.told n room).0
          (omega (arith, (counts stand.told n room).1)) many (omega (arith, (counts stand.told n room).2))
          ∙ (λ i. in_open (ArrayOut (bit_of (get_or xs ((at + suc k) % sym long i) 0) 7) 7 ((at + suc k) % sym long i)) (sums i) xs os)

  -- what whole bytes ask
  pub asks : (n at : ℕ) → counts_on stand.told n ≡ true → at < length xs → Asked stand xs at (n / 8)
  asks n at room inside =
      let c = counts stand.told n room in
      let size = largest stand.chip.part in
      record {
        inside = inside;
        place = omega (arith, inside, long, size, c.1);
        clocks = omega (arith, c.1);
        shown = omega (arith, c.2);
        stored = omega (arith, c.3);
      }

  pub read_out : (n m : ℕ) (level : Line) (bit at : ℕ) (r : Stand) → counts_on stand.told n ≡ true → stand.chip.stage ≡ ArrayOut level bit at
      → bit ≡ 7 → stand.told.sample ≡ no_bits → most_shown ≤ stand.told.shown → (m ≡ 0 → ⊥) → m ≡ n / 8 → r ≡ read_on stand xs at m
      → (n - m * 8 ≤ n) × Skips stand xs n (skipped r (n - m * 8)) xs
  read_out n m level bit at r room is seven none many some eighth shows = (
    omega arith,
    λ os. ap (λ (t : Stand). pulsed (n - m * 8) (standing t xs os)) shows
        ∙ skip_read n m level at room (is ∙ ap (λ (b : ℕ). ArrayOut level b at) seven) none many (omega arith) (omega arith) os,
  )

-- what the clocks of a select that is over ask of its counts
pub over_room : (told : Record) (n : ℕ) → counts_on told n ≡ true → (told.clocks + n ≤ most) × ((told.shown + 0 ≤ most) × (told.stored + 0 ≤ most))
over_room told n h = let c = counts told n h in (c.1, (omega (arith, c.2), omega (arith, c.3)))

-- what an open select is asked for
pub open_asks : (chip : State) (told : Record) (len n : ℕ) (s i c : Bool) → s ≡ steady chip len → not s ≡ false → i ≡ idle chip → i ≡ false
    → c ≡ counts_on told n → not c ≡ false
    → (steady chip len ≡ true) × ((idle chip ≡ false) × (counts_on told n ≡ true))
open_asks chip told len n s i c a p b q d r = (granted a p, (sym b ∙ q, granted d r))

-- where a READ goes on: as at the fall that shows its first bit
pub read_is : (stand : Stand) (serial xs : List ℕ) (at m status : ℕ) (f : Figure) (stage : Stage) (told : Record)
    → stage ≡ fall f serial xs status (Ready Array ((at + m) % length xs)) → told ≡ more stand.told (m * 8) m 0
    → in_stage stand stage told ≡ read_on stand xs at m
unfolding read_on fall
read_is stand serial xs at m status f stage told is sums = λ i. in_stage stand (is i) (sums i)
