-- How an example is run and what is told of it: every answer counts, and the whole state at the end. Computed from the
-- definitions that the calls' promises cite. Assumes nothing.
use Rattle.std.specs.Prelude.{ℕ, ◌*◌, Bool, true, false, cond, ◌&&◌, List, [], ◌∷◌, ◌++◌, map, set, take, replicate, eqb, Option, Some, None, is_none}
use Rattle.trace.specs.Items.{clocked}
use Rattle.laws.specs.Bits.{bit_at}
use Rattle.parts.specs.Figures.{figure_of}
use Rattle.stages.specs.Bits.{low_bit}
use Rattle.stages.specs.declared.stage.Came.{Came}
use Rattle.stages.specs.declared.stage.Came.TheVariants.{NoByte, NoByteLow, Bytes, BytesLow}
use Rattle.stages.specs.declared.stage.End.TheVariants.{Quiet, Drops, Sleeps}
use Rattle.stages.specs.declared.stage.Line.{Line}
use Rattle.stages.specs.declared.stage.Line.TheVariants.{Down, Up}
use Rattle.stages.specs.declared.stage.Purpose.{Purpose}
use Rattle.stages.specs.declared.stage.Purpose.TheVariants.{ToRead, ToReadFast, ToWrite}
use Rattle.stages.specs.declared.stage.Stage.{Stage}
use Rattle.stages.specs.declared.stage.Stage.TheVariants.{Closed, Code, Upper, Lower, Ready, ArrayOut, StatusOut, Writing, Keeping, Over, Dummy, IdentOut, SerialOut, Asleep}
use Rattle.stages.specs.declared.stage.What.{What}
use Rattle.stages.specs.declared.stage.What.TheVariants.{Array, Status, Ident, Serial}
use Rattle.select.specs.Notes.{NoteNumbers, level_number, note_numbers}
use Rattle.select.specs.declared.notes.Note.{Note}
use Rattle.pins.specs.Edges.{with_si, with_wp, with_stage}
use Rattle.pins.specs.Levels.{at_rest}
use Rattle.pins.specs.Watch.{sees_rise}
use Rattle.pins.specs.declared.hold.Hold.{Hold}
use Rattle.pins.specs.declared.hold.Hold.TheVariants.{High, LowCsLow, LowCsHigh}
use Rattle.pins.specs.declared.state.State.{State}
use Rattle.refusals.specs.Refusals.{number_of}
use Rattle.refusals.specs.declared.refusal.Refusal.{Refusal}
use Rattle.chip.specs.Event.{event}
use Rattle.supply.specs.Power.{fill_refusal, fresh, filled, power_up}
use Rattle.chip.specs.declared.event.Answer.{Answer}
use Rattle.chip.specs.Run.{Chip, answered, from_power_up}

-- what is sent

abbrev pub clock_all : List ℕ → List ℕ
clock_all [] = []
clock_all (byte ∷ bytes) = clocked byte ++ clock_all bytes

-- a select that is left open
abbrev pub begins : List ℕ → List ℕ
begins bytes = 0 ∷ clock_all bytes

-- "each transfer is one select"
abbrev pub transfer : List ℕ → List ℕ
transfer bytes = begins bytes ++ (1 ∷ [])

-- the first n clocks of a byte
abbrev pub clocks : ℕ → ℕ → List ℕ
clocks n byte = take (3 * n) (clocked byte)

abbrev pub wren : List ℕ
wren = transfer (0x06 ∷ [])

-- an example: the part, its kept bits at power-up and what is sent; then what it should give: the number of each refusal,
-- each note that is not nothing, each byte that SO showed, SO in the last answer, and the whole state at the end
pub record Example : Type 0 where
  pub part : ℕ
  pub kept : ℕ
  pub events : List ℕ
  pub refusals : List ℕ
  pub notes : List Note
  pub shown : List ℕ
  pub so : ℕ
  pub state : State

-- every event is accepted, and SO is released at the end
abbrev pub accepts : ℕ → ℕ → List ℕ → List Note → List ℕ → State → Example
accepts part kept events notes shown state =
    record { part = part; kept = kept; events = events; refusals = []; notes = notes; shown = shown; so = 2; state = state }

-- nothing is shown
abbrev pub writes : ℕ → ℕ → List ℕ → List Note → State → Example
writes part kept events notes state = accepts part kept events notes [] state

-- the state with no select open, SCK low, /HOLD and /WP high: the kept bits, the latch, and SI as the last bit left it
abbrev pub idle : ℕ → ℕ → Bool → Bool → State
idle part kept latch si = with_stage (with_si (at_rest part kept true) si) latch Closed

abbrev pub wp_low : State → State
wp_low s = with_wp s false

-- what comes of it

pub record Told : Type 0 where
  pub refusals : List ℕ
  pub notes : List ℕ
  -- SO in the answer before each seen rise
  pub levels : List ℕ
  pub so : ℕ
  pub chip : Chip

abbrev pub refusal_then : Option Refusal → List ℕ → List ℕ
refusal_then None more = more
refusal_then (Some why) more = number_of why ∷ more

abbrev pub note_then : NoteNumbers → List ℕ → List ℕ
note_then n more = cond (eqb n.kind 0) more (n.kind ∷ n.first ∷ n.second ∷ more)

abbrev pub answer_then : State → ℕ → ℕ → Answer → Told → Told
answer_then s so code a r =
    record {
      refusals = refusal_then a.refusal r.refusals;
      notes = note_then (note_numbers a.note) r.notes;
      levels = cond (sees_rise s code) (so ∷ r.levels) r.levels;
      so = r.so;
      chip = r.chip;
    }

-- the chip's run, with what each answer told
abbrev pub told_of : Chip → ℕ → List ℕ → Told
told_of c so [] = record { refusals = []; notes = []; levels = []; so = so; chip = c }
told_of c so (code ∷ codes) =
    let a = event c.serial c.array c.state code in
    answer_then c.state so code a (told_of (answered c a) (level_number a.so) codes)

-- how the two are compared

abbrev pub same : List ℕ → List ℕ → Bool
same [] [] = true
same [] (y ∷ ys) = false
same (x ∷ xs) [] = false
same (x ∷ xs) (y ∷ ys) = eqb x y && same xs ys

-- the levels that SO was driven to, eight a byte
abbrev pub driven : List ℕ → List ℕ
driven [] = []
driven (l ∷ ls) = cond (eqb l 2) (driven ls) (l ∷ driven ls)

abbrev pub bits : ℕ → List ℕ
bits byte = map (bit_at byte) (7 ∷ 6 ∷ 5 ∷ 4 ∷ 3 ∷ 2 ∷ 1 ∷ 0 ∷ [])

abbrev pub bits_of : List ℕ → List ℕ
bits_of [] = []
bits_of (byte ∷ bytes) = bits byte ++ bits_of bytes

abbrev pub numbers_of : List Note → List ℕ
numbers_of [] = []
numbers_of (note ∷ notes) = note_then (note_numbers note) (numbers_of notes)

abbrev pub what_number : What → ℕ
what_number Array = 0
what_number Status = 1
what_number Ident = 2
what_number Serial = 3

abbrev pub purpose_number : Purpose → ℕ
purpose_number ToRead = 0
purpose_number ToWrite = 1
purpose_number ToReadFast = 2

abbrev pub line_number : Line → ℕ
line_number Down = 0
line_number Up = 1

abbrev pub came_number : Came → ℕ
came_number NoByte = 0
came_number NoByteLow = 1
came_number Bytes = 2
came_number BytesLow = 3

abbrev pub stage_numbers : Stage → List ℕ
stage_numbers Closed = 0 ∷ []
stage_numbers (Code wp shift) = 1 ∷ line_number wp ∷ shift ∷ []
stage_numbers (Upper purpose shift) = 2 ∷ purpose_number purpose ∷ shift ∷ []
stage_numbers (Lower purpose shift page) = 3 ∷ purpose_number purpose ∷ shift ∷ page ∷ []
stage_numbers (Ready what at) = 4 ∷ what_number what ∷ at ∷ []
stage_numbers (ArrayOut level bit at) = 5 ∷ line_number level ∷ bit ∷ at ∷ []
stage_numbers (StatusOut level bit) = 6 ∷ line_number level ∷ bit ∷ []
stage_numbers (Writing came shift last at) = 7 ∷ came_number came ∷ shift ∷ last ∷ at ∷ []
stage_numbers (Keeping wp shift) = 8 ∷ line_number wp ∷ shift ∷ []
stage_numbers (Over Quiet) = 9 ∷ []
stage_numbers (Over Drops) = 10 ∷ []
stage_numbers (Over Sleeps) = 11 ∷ []
stage_numbers (Dummy shift at) = 12 ∷ shift ∷ at ∷ []
stage_numbers (IdentOut level bit at) = 13 ∷ line_number level ∷ bit ∷ at ∷ []
stage_numbers Asleep = 14 ∷ []
stage_numbers (SerialOut level bit at) = 15 ∷ line_number level ∷ bit ∷ at ∷ []

abbrev pub hold_number : Hold → ℕ
hold_number High = 0
hold_number LowCsLow = 1
hold_number LowCsHigh = 2

-- every field of a state
abbrev pub state_numbers : State → List ℕ
state_numbers s =
    s.part ∷ s.kept ∷ low_bit s.power ∷ low_bit s.sck ∷ line_number s.si ∷ line_number s.wp ∷ low_bit s.latch
    ∷ hold_number s.hold ∷ stage_numbers s.stage

-- "the fresh array is now FF, in .. document 01's examples too" (document 02, Wish 6)
abbrev pub blank : ℕ → List ℕ
blank part = replicate (figure_of part).size 0xFF

-- an array in which the bytes of the stored notes stand
abbrev pub with_stored : List ℕ → List Note → List ℕ
with_stored xs [] = xs
with_stored xs (note ∷ notes) =
    let n = note_numbers note in
    with_stored (cond (eqb n.kind 2) (set xs n.first n.second) xs) notes

abbrev pub ends : Example → Told → Bool
ends e r =
    same r.refusals e.refusals
    && same r.notes (numbers_of e.notes)
    && same (driven r.levels) (bits_of e.shown)
    && eqb r.so e.so
    && same (state_numbers r.chip.state) (state_numbers e.state)
    && same r.chip.array (with_stored (blank e.part) e.notes)

-- over a lent array that held EE
abbrev pub lent : ℕ → List ℕ
lent part = replicate (figure_of part).size 0xEE

-- the serial number that is lent in every example; parts 1 to 4 do not show it. Its last byte is the check byte of the others.
abbrev pub own_serial : List ℕ
own_serial = 0x12 ∷ 0x34 ∷ 0x9A ∷ 0x00 ∷ 0xFF ∷ 0x5A ∷ 0x81 ∷ 0x38 ∷ []

-- the old call's fill and the power-up are accepted, and the example ends as it should
abbrev pub holds : Example → Bool
holds e =
    let xs = filled e.part fresh (lent e.part) in
    is_none (fill_refusal e.part (figure_of e.part).size)
    && is_none (power_up e.part e.kept xs).refusal
    && ends e (told_of (from_power_up e.part e.kept xs own_serial) 2 e.events)

abbrev pub all_hold : List Example → Bool
all_hold [] = true
all_hold (e ∷ es) = holds e && all_hold es
