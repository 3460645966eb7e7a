-- A select's record, event by event. `RecordLaws` says what is claimed of its counts. Assumes nothing.
use Rattle.std.specs.Prelude.{ℕ, ◌+◌, ◌*◌, ◌%◌, Bool, true, false, cond, List, leb, ltb, set}
use Rattle.std.specs.Int.Bits.{bit_or}
use Rattle.stages.specs.Bits.{low_bit, take_bit, no_bits}
use Rattle.stages.specs.declared.bits.Taken.{Taken}
use Rattle.stages.specs.declared.bits.Taken.TheVariants.{Part, Whole}
use Rattle.select.specs.declared.notes.Level.{Level}
use Rattle.select.specs.declared.notes.Level.TheVariants.{Low, High, Released}
use Rattle.select.specs.declared.notes.Note.{Note}
use Rattle.select.specs.declared.notes.Note.TheVariants.{Nothing, Latch, Stored, HeldBack, KeptSet, KeptHeldBack, PowerLost}
use Rattle.report.specs.declared.record.Record.{Record}

-- one more, up to the largest number that a count can hold
unfoldable pub counted : ℕ → ℕ
counted n = cond (ltb n 0xFFFFFFFFFFFFFFFF) (n + 1) n

-- a select that no rise was seen in
abbrev pub no_rise : Bool → Record
no_rise ignored = record { ignored = ignored; clocks = 0; code = 0; sample = no_bits; shown = 0; stored = 0 }

-- "The first eight bits are the op-code": the clocks that it takes
abbrev pub code_clocks : ℕ
code_clocks = 8

-- "op-code .. or "--" under eight clocks"
unfoldable pub code_after : ℕ → ℕ → Bool → ℕ
code_after clocks code si = cond (leb code_clocks clocks) code (bit_or (code * 2 % 256) (low_bit si))

-- "SO sampled before each seen rise while driven"
unfoldable pub sampled : ℕ → Level → Taken
sampled bits Low = take_bit bits false
sampled bits High = take_bit bits true
sampled bits Released = Part bits

-- "whole bytes of SO"
abbrev pub with_sample : Record → ℕ → ℕ → Taken → Record
with_sample r clocks code (Part bits) =
    record { ignored = r.ignored; clocks = clocks; code = code; sample = bits; shown = r.shown; stored = r.stored }
with_sample r clocks code (Whole byte) =
    record { ignored = r.ignored; clocks = clocks; code = code; sample = no_bits; shown = counted r.shown; stored = r.stored }

-- "seen rises": the record after one, with SI and SO as they stood before it
unfoldable pub risen : Record → Bool → Level → Record
risen r si so =
    with_sample r (counted r.clocks) (code_after r.clocks r.code si) (sampled r.sample so)

-- "at most the first 64"
abbrev pub most_shown : ℕ
most_shown = 64

abbrev pub kept_at : List ℕ → ℕ → ℕ → List ℕ
kept_at xs at byte = cond (ltb at most_shown) (set xs at byte) xs

abbrev pub with_byte : List ℕ → ℕ → Taken → List ℕ
with_byte xs at (Part bits) = xs
with_byte xs at (Whole byte) = kept_at xs at byte

unfoldable pub shown_after : List ℕ → Record → Level → List ℕ
shown_after xs r so = with_byte xs r.shown (sampled r.sample so)

-- "stored notes"
unfoldable pub noted : Record → Note → Record
noted r Nothing = r
noted r (Latch on) = r
noted r (Stored at byte) =
    record { ignored = r.ignored; clocks = r.clocks; code = r.code; sample = r.sample; shown = r.shown; stored = counted r.stored }
noted r (HeldBack at reason) = r
noted r (KeptSet kept) = r
noted r (KeptHeldBack reason) = r
noted r PowerLost = r
