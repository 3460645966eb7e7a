-- The counting call's refusals in their order: 4, 1, 2, 15, 16, 5, 6, 7. Nothing that is lent changes at any. Assumes nothing.
use Rattle.std.specs.Prelude.{ℕ, Bool, true, false, ◌&&◌, List, [], ◌∷◌, eqb, replicate}
use Rattle.stages.specs.Bits.{no_bits}
use Rattle.stages.specs.declared.stage.Line.TheVariants.{Down, Up}
use Rattle.stages.specs.declared.stage.Stage.TheVariants.{ArrayOut, Code}
use Rattle.select.specs.Notes.{level_number, note_numbers}
use Rattle.pins.specs.Edges.{with_hold, with_sck, with_stage}
use Rattle.pins.specs.Levels.{at_rest}
use Rattle.pins.specs.declared.hold.Hold.TheVariants.{LowCsHigh}
use Rattle.pins.specs.declared.state.State.{State}
use Rattle.step.specs.Step.{written}
use Rattle.refusals.specs.Refusals.{number_or_0}
use Rattle.chip.specs.Examples.Run.{same, state_numbers}
use Rattle.wear.specs.Count.{counted, counters_after}

-- a counted event over an array, a serial number and counters of so many: refused with this number; 0: accepted, and nothing comes of
-- it
pub record Refused : Type 0 where
  pub state : State
  pub len : ℕ
  pub serial : ℕ
  pub counters : ℕ
  pub code : ℕ
  pub number : ℕ

abbrev refuses : State → ℕ → ℕ → ℕ → ℕ → ℕ → Refused
refuses state len serial counters code number =
    record { state = state; len = len; serial = serial; counters = counters; code = code; number = number }

-- "Any other refusal returns its number with the state given; SO reads released, the note is nothing. Lent memory stays at every
--  refusal."
abbrev stays : Refused → List ℕ → List ℕ → List ℕ → Bool
stays c serial xs counters =
    let a = counted serial xs counters c.state c.code in
    eqb (number_or_0 a.refusal) c.number
    && same (state_numbers a.state) (state_numbers c.state)
    && eqb (level_number a.so) 2
    && eqb (note_numbers a.note).kind 0
    && same (written a.note xs) xs
    && same (counters_after serial xs counters c.state c.code) counters

abbrev pub all_refused : List Refused → Bool
all_refused [] = true
all_refused (c ∷ cs) = stays c (replicate c.serial 0) (replicate c.len 0xEE) (replicate c.counters 7) && all_refused cs

-- part 3 in mid READ, SCK high
abbrev reading : State
reading = with_sck (with_stage (at_rest 3 0 true) false (ArrayOut Down 0 3)) true

-- part 3 in hold, a select open, /CS moved
abbrev moved : State
moved = with_hold (with_stage (at_rest 3 0 true) false (Code Up no_bits)) LowCsHigh

unfoldable pub refusals : List Refused
refusals =
    -- 4 before 1, on part 1 and where there is no part
    refuses (at_rest 1 0x01 true) 512 8 128 11 4 ∷ refuses (at_rest 6 0 true) 512 8 128 11 4
    -- "1 for parts 1 and 2", with power off too; 1 before 2, 16 and 5
    ∷ refuses (at_rest 1 0 true) 512 8 128 11 1 ∷ refuses (at_rest 2 0 true) 512 8 64 11 1 ∷ refuses (at_rest 1 0 false) 512 8 0 11 1
    ∷ refuses (at_rest 1 0 true) 511 8 128 11 1 ∷ refuses (at_rest 2 0 true) 513 8 0 12 1
    -- 4 before 2; 2 before 15, 16 and 5
    ∷ refuses (at_rest 3 0x01 true) 2047 8 512 11 4 ∷ refuses (at_rest 3 0 true) 2047 8 511 11 2 ∷ refuses (at_rest 5 0 true) 16383 7 2048 11 2
    ∷ refuses (at_rest 4 0 true) 2048 8 512 12 2
    -- 15 before 16 and 5; of part 5 only
    ∷ refuses (at_rest 5 0 true) 16384 7 2047 11 15 ∷ refuses (at_rest 5 0 true) 16384 7 2048 12 15 ∷ refuses (at_rest 4 0 true) 16384 7 2048 11 0
    -- "16, counter slice not one per row", with power off too; "right before 5", and before 6
    ∷ refuses (at_rest 3 0 true) 2048 8 511 11 16 ∷ refuses (at_rest 3 0 true) 2048 8 513 11 16 ∷ refuses (at_rest 3 0 true) 2048 8 512 11 0
    ∷ refuses (at_rest 3 0 true) 2048 8 0 11 16 ∷ refuses (at_rest 3 0 false) 2048 8 511 0 16 ∷ refuses (at_rest 4 0 true) 16384 8 4096 11 16
    ∷ refuses (at_rest 5 0 true) 16384 8 512 11 16 ∷ refuses (at_rest 3 0 true) 2048 8 511 12 16 ∷ refuses (at_rest 3 0 true) 2048 8 513 12 16
    ∷ refuses reading 2048 8 511 6 16
    -- 5, 6, 7
    ∷ refuses (at_rest 3 0 true) 2048 8 512 12 5 ∷ refuses reading 2048 8 512 12 5 ∷ refuses reading 2048 8 512 6 6 ∷ refuses moved 2048 8 512 7 7
    ∷ []
