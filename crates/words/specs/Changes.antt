-- What is plain from the bench before and after: a select opens, its op-code is whole, it ends, the part sleeps, power is
-- back. Assumes nothing.
use Rattle.std.specs.Prelude.{ℕ, Bool, cond, not, ◌&&◌, ◌||◌, List, [], ◌++◌, eqb, leb, ltb}
use Rattle.stages.specs.Close.{is_asleep}
use Rattle.stages.specs.declared.bits.Taken.{Taken}
use Rattle.stages.specs.declared.bits.Taken.TheVariants.{Part}
use Rattle.pins.specs.Levels.{so_level}
use Rattle.pins.specs.Watch.{sees_rise}
use Rattle.pins.specs.declared.state.State.{State}
use Rattle.report.specs.Record.{code_clocks, sampled}
use Rattle.report.specs.Text.{ascii}
use Rattle.report.specs.declared.record.Record.{Record}
use Rattle.turns.specs.Stand.{opens, closes}
use Rattle.turns.specs.declared.stand.Stand.{Stand}
use Rattle.words.specs.Lines.{said, open_line, code_line, close_line, latch_line, kept_line}

-- the eighth clock of a select that is not ignored
unfoldable pub code_comes : Record → Record → Bool
code_comes before after = ltb before.clocks code_clocks && leb code_clocks after.clocks && not after.ignored

-- "SLEEP B9h takes effect at the rise of /S"
unfoldable pub falls_asleep : State → State → Bool
falls_asleep before after = is_asleep after.stage && not (is_asleep before.stage)

unfoldable pub power_back : State → State → Bool
power_back before after = not before.power && after.power

unfoldable pub changes : ℕ → Stand → Stand → List ℕ
changes place before after =
    cond (power_back before.chip after.chip) (said place (ascii "power back")) []
    ++ cond (opens before.chip after.chip) (open_line place after) []
    ++ cond (code_comes before.told after.told) (code_line place after.chip.part after.told.code) []
    ++ cond (closes before.chip after.chip) (close_line place after) []
    ++ cond (falls_asleep before.chip after.chip) (said place (ascii "the part sleeps")) []

-- one of two levels is not the other
abbrev pub flips : Bool → Bool → Bool
flips before after = before && not after || not before && after

-- in a run of pulses no note is told: the latch and the kept bits, where they are others after it
unfoldable pub turned : ℕ → State → State → List ℕ
turned place before after =
    cond (flips before.latch after.latch) (latch_line place after.latch) []
    ++ cond (eqb before.kept after.kept) [] (kept_line place after.kept)

-- "SO sampled before each seen rise while driven": the byte that an event makes whole
unfoldable pub sampled_by : Stand → ℕ → Taken
sampled_by s code = cond (sees_rise s.chip code) (sampled s.told.sample (so_level s.chip)) (Part s.told.sample)
