-- Refusals of single calls, "exactly when" and in their order: what the calls say of a part, an array's length, kept bits, a
-- state and a code, made up or not. Assumes nothing.
use Rattle.std.specs.Prelude.{ℕ, Bool, true, false, ◌&&◌, List, [], ◌∷◌, eqb, replicate}
use Rattle.stages.specs.declared.stage.Stage.{Stage}
use Rattle.stages.specs.declared.stage.Stage.TheVariants.{Asleep, Code, Upper, Lower, Dummy, Ready, ArrayOut, StatusOut, IdentOut, SerialOut, Writing, Keeping}
use Rattle.stages.specs.declared.stage.Came.TheVariants.{NoByte, NoByteLow, Bytes, BytesLow}
use Rattle.stages.specs.declared.stage.Line.TheVariants.{Down, Up}
use Rattle.stages.specs.declared.stage.Purpose.TheVariants.{ToRead, ToWrite}
use Rattle.stages.specs.declared.stage.What.TheVariants.{Array, Status, Ident, Serial}
use Rattle.stages.specs.Bits.{no_bits}
use Rattle.pins.specs.Edges.{with_sck, with_wp, with_si, with_hold, with_stage}
use Rattle.pins.specs.Levels.{at_rest}
use Rattle.pins.specs.declared.hold.Hold.TheVariants.{LowCsLow, LowCsHigh}
use Rattle.pins.specs.declared.state.State.{State}
use Rattle.select.specs.Notes.{level_number, note_numbers}
use Rattle.chip.specs.Event.{event}
use Rattle.refusals.specs.Refusals.{number_or_0}
use Rattle.chip.specs.Examples.Run.{same, state_numbers}
use Rattle.supply.specs.Power.{fill_refusal, fresh, filled, power_up}
use Rattle.chip.specs.declared.event.Answer.{Answer}
use Rattle.supply.specs.declared.power.Powered.{Powered}

-- "Any other refusal returns its number with the state given; SO reads released, the note is nothing."
abbrev pub stays : State → ℕ → Answer → Bool
stays s number a =
    eqb (number_or_0 a.refusal) number && same (state_numbers a.state) (state_numbers s)
    && eqb (level_number a.so) 2 && eqb (note_numbers a.note).kind 0

-- an event over an array and with a serial number of so many bytes: refused with this number; 0: accepted, and nothing comes of it
pub record Refused : Type 0 where
  pub state : State
  pub len : ℕ
  pub serial : ℕ
  pub code : ℕ
  pub number : ℕ

abbrev refuses_by : State → ℕ → ℕ → ℕ → ℕ → Refused
refuses_by state len serial code number = record { state = state; len = len; serial = serial; code = code; number = number }

-- with a serial number that is as long as part 5's
abbrev refuses : State → ℕ → ℕ → ℕ → Refused
refuses state len code number = refuses_by state len 8 code number

abbrev pub all_refused : List Refused → Bool
all_refused [] = true
all_refused (c ∷ cs) = stays c.state c.number (event (replicate c.serial 0) (replicate c.len 0) c.state c.code) && all_refused cs

-- part 1, 3, 4 or 5 with no kept bits, in a select's stage
abbrev in1 : Stage → State
in1 stage = with_stage (at_rest 1 0 true) false stage

abbrev in3 : Stage → State
in3 stage = with_stage (at_rest 3 0 true) false stage

abbrev in4 : Stage → State
in4 stage = with_stage (at_rest 4 0 true) false stage

abbrev in5 : Stage → State
in5 stage = with_stage (at_rest 5 0 true) false stage

-- "An event checks 4, 2, 5, 6, 7.", with 15 "after 2" (document 02, Wish 8)
unfoldable pub refused_events : List Refused
refused_events =
    -- 15. "Array of 511 or 513: 2. Event 11 and 12: accepted, 5."
    refuses (at_rest 1 0 true) 511 11 2 ∷ refuses (at_rest 1 0 true) 513 11 2 ∷ refuses (at_rest 1 0 true) 512 11 0
    ∷ refuses (at_rest 1 0 true) 512 12 5
    -- the part's own length, and no other's; with power off too
    ∷ refuses (at_rest 2 0 true) 2048 11 2 ∷ refuses (at_rest 3 0 true) 512 11 2 ∷ refuses (at_rest 3 0 true) 2048 11 0
    ∷ refuses (at_rest 1 0 false) 511 0 2 ∷ refuses (at_rest 1 0 false) 512 12 5 ∷ refuses (at_rest 1 0 false) 512 0 0
    -- 2 before 5, 4 before 2, 5 before 6
    ∷ refuses (at_rest 1 0 true) 511 12 2 ∷ refuses (at_rest 9 0 true) 511 12 4 ∷ refuses (with_sck (at_rest 1 0 true) true) 512 14 5
    -- "a part not 1 to 3", now 1 to 5, "kept bits outside the mask"
    ∷ refuses (at_rest 0 0 true) 0 11 4 ∷ refuses (at_rest 6 0 true) 512 11 4 ∷ refuses (at_rest 1 0x01 true) 512 11 4
    ∷ refuses (at_rest 2 0x80 true) 512 11 4 ∷ refuses (at_rest 3 0x8E true) 2048 11 4 ∷ refuses (at_rest 3 0x8C true) 2048 11 0
    -- "power off in another form than the off state", field by field
    ∷ refuses (with_sck (at_rest 1 0 false) true) 512 0 4 ∷ refuses (with_si (at_rest 1 0 false) true) 512 0 4
    ∷ refuses (with_wp (at_rest 1 0 false) false) 512 0 4 ∷ refuses (with_hold (at_rest 1 0 false) LowCsHigh) 512 0 4
    ∷ refuses (with_stage (at_rest 1 0 false) false (Code Up no_bits)) 512 0 4
    ∷ refuses (with_stage (at_rest 1 0 false) true (at_rest 1 0 false).stage) 512 0 4
    -- "an address not below the part's size"
    ∷ refuses (in1 (Writing NoByte no_bits 0 512)) 512 11 4 ∷ refuses (in1 (Writing NoByte no_bits 0 511)) 512 11 0
    ∷ refuses (in3 (Writing Bytes no_bits 0 2048)) 2048 11 4 ∷ refuses (in3 (Writing Bytes no_bits 0 2047)) 2048 11 0
    ∷ refuses (in3 (Writing Bytes no_bits 2049 0)) 2048 11 4 ∷ refuses (in3 (Writing Bytes no_bits 2048 0)) 2048 11 0
    ∷ refuses (in3 (Writing NoByte no_bits 1 0)) 2048 11 4 ∷ refuses (in3 (Writing BytesLow 2 1 0)) 2048 11 0
    ∷ refuses (in3 (Writing NoByteLow 2 1 0)) 2048 11 4
    ∷ refuses (in3 (Ready Array 2048)) 2048 11 4 ∷ refuses (in3 (Ready Array 2047)) 2048 11 0
    ∷ refuses (in1 (ArrayOut Down 0 512)) 512 11 4 ∷ refuses (in1 (Ready Status 1)) 512 11 4
    ∷ refuses (in1 (Lower ToWrite no_bits 2)) 512 11 4 ∷ refuses (in1 (Lower ToWrite no_bits 1)) 512 11 0
    ∷ refuses (in3 (Lower ToRead no_bits 8)) 2048 11 4 ∷ refuses (in3 (Lower ToRead no_bits 7)) 2048 11 0
    -- the level of /WP that a data byte began with: up before its first bit, free from then on
    ∷ refuses (in1 (Writing NoByteLow no_bits 0 0)) 512 11 4 ∷ refuses (in1 (Writing NoByteLow 2 0 0)) 512 11 0
    ∷ refuses (in3 (Keeping Down no_bits)) 2048 11 4 ∷ refuses (in3 (Keeping Down 3)) 2048 11 0
    -- "a partial byte or bit count that no number of clocks gives"
    ∷ refuses (in1 (Code Up 0)) 512 11 4 ∷ refuses (in1 (Code Up 255)) 512 11 0 ∷ refuses (in1 (Code Up 256)) 512 11 4
    ∷ refuses (in1 (Keeping Up 0)) 512 11 4 ∷ refuses (in1 (Keeping Up 256)) 512 11 4 ∷ refuses (in1 (Writing NoByte 256 0 0)) 512 11 4
    ∷ refuses (in1 (Lower ToRead 256 0)) 512 11 4 ∷ refuses (in3 (Upper ToRead 256)) 2048 11 4 ∷ refuses (in3 (Upper ToRead 255)) 2048 11 0
    ∷ refuses (in1 (Upper ToWrite no_bits)) 512 11 4 ∷ refuses (in1 (ArrayOut Down 8 0)) 512 11 4 ∷ refuses (in1 (StatusOut Down 8)) 512 11 4
    -- part 4: its length; it sleeps with power on only; a dummy byte where the part has FSTRD, with an address of its own; nine device
    -- bytes of eight bits; /WP from the fall of /CS where the part reads it there
    ∷ refuses (at_rest 4 0 true) 2048 11 2 ∷ refuses (in4 Asleep) 16384 11 0 ∷ refuses (with_stage (at_rest 4 0 false) false Asleep) 16384 0 4
    ∷ refuses (in3 (Dummy no_bits 0)) 2048 11 4 ∷ refuses (in4 (Dummy 255 16383)) 16384 11 0 ∷ refuses (in4 (Dummy no_bits 16384)) 16384 11 4
    ∷ refuses (in4 (Dummy 256 0)) 16384 11 4 ∷ refuses (in4 (Ready Ident 8)) 16384 11 0 ∷ refuses (in4 (Ready Ident 9)) 16384 11 4
    ∷ refuses (in4 (IdentOut Down 0 9)) 16384 11 4 ∷ refuses (in4 (IdentOut Down 8 0)) 16384 11 4
    ∷ refuses (in3 (Code Down no_bits)) 2048 11 4 ∷ refuses (in4 (Code Down no_bits)) 16384 11 0 ∷ refuses (in4 (Keeping Down no_bits)) 16384 11 0
    -- part 5: "serial not eight bytes long", with power off too; for other parts any length will do
    ∷ refuses_by (at_rest 5 0 true) 16384 8 11 0 ∷ refuses_by (at_rest 5 0 true) 16384 7 11 15 ∷ refuses_by (at_rest 5 0 true) 16384 9 11 15
    ∷ refuses_by (at_rest 5 0 true) 16384 0 11 15 ∷ refuses_by (at_rest 5 0 false) 16384 7 0 15 ∷ refuses_by (at_rest 5 0 false) 16384 7 11 15
    ∷ refuses_by (at_rest 4 0 true) 16384 7 11 0 ∷ refuses_by (at_rest 3 0 true) 2048 9 11 0 ∷ refuses_by (at_rest 1 0 true) 512 0 11 0
    -- 2 before 15, 4 before 15, 15 before 5 and before 6
    ∷ refuses_by (at_rest 5 0 true) 16383 7 11 2 ∷ refuses_by (at_rest 5 0x01 true) 16384 7 11 4
    ∷ refuses_by (at_rest 5 0 true) 16384 7 12 15 ∷ refuses_by (with_sck (at_rest 5 0 true) true) 16384 7 6 15
    -- eight serial bytes of eight bits, and none on a part without
    ∷ refuses (in5 (Ready Serial 7)) 16384 11 0 ∷ refuses (in5 (Ready Serial 8)) 16384 11 4 ∷ refuses (in4 (Ready Serial 0)) 16384 11 4
    ∷ refuses (with_hold (in5 (SerialOut Down 7 7)) LowCsLow) 16384 11 0 ∷ refuses (in5 (SerialOut Down 0 8)) 16384 11 4
    ∷ refuses (in5 (SerialOut Down 8 0)) 16384 11 4 ∷ refuses (in4 (SerialOut Down 0 0)) 16384 11 4
    ∷ []

-- a power-up over an array of so many bytes
pub record Powering : Type 0 where
  pub part : ℕ
  pub kept : ℕ
  pub len : ℕ
  pub number : ℕ
  pub state : State

-- "A refused power-up returns part 1 in the off state with kept bits 0."
abbrev fails : ℕ → ℕ → ℕ → ℕ → Powering
fails part kept len number = record { part = part; kept = kept; len = len; number = number; state = at_rest 1 0 false }

abbrev starts : ℕ → ℕ → ℕ → Powering
starts part kept len = record { part = part; kept = kept; len = len; number = 0; state = at_rest part kept true }

abbrev pub powers_up : Powering → Powered → Bool
powers_up c p = eqb (number_or_0 p.refusal) c.number && same (state_numbers p.state) (state_numbers c.state)

abbrev pub all_powered : List Powering → Bool
all_powered [] = true
all_powered (c ∷ cs) = powers_up c (power_up c.part c.kept (replicate c.len 0)) && all_powered cs

-- "Power-up checks 1, 2, 3."
unfoldable pub powerings : List Powering
powerings =
    fails 0 0 0 1 ∷ fails 6 0x01 511 1 ∷ fails 257 0 512 1
    ∷ fails 1 0x01 511 2 ∷ fails 1 0 513 2 ∷ fails 2 0 2048 2 ∷ fails 3 0 512 2
    ∷ fails 1 0x01 512 3 ∷ fails 1 0x80 512 3 ∷ fails 2 0x80 512 3 ∷ fails 3 0x8D 2048 3 ∷ fails 1 256 512 3 ∷ fails 1 0x10C 512 3
    ∷ starts 1 0x0C 512 ∷ starts 2 0x08 512 ∷ starts 3 0x8C 2048
    ∷ fails 5 0x01 2048 2 ∷ fails 5 0x01 16384 3 ∷ starts 5 0x8C 16384
    ∷ []

-- an array of EE filled with this byte: the refusal, or 0, and what every byte of it is then
pub record Filling : Type 0 where
  pub part : ℕ
  pub len : ℕ
  pub byte : ℕ
  pub number : ℕ
  pub left : ℕ

abbrev keeps_all : ℕ → ℕ → ℕ → ℕ → Filling
keeps_all part len byte number = record { part = part; len = len; byte = byte; number = number; left = 0xEE }

abbrev fills : ℕ → ℕ → ℕ → ℕ → Filling
fills part len byte left = record { part = part; len = len; byte = byte; number = 0; left = left }

abbrev pub all_filled : List Filling → Bool
all_filled [] = true
all_filled (c ∷ cs) =
    eqb (number_or_0 (fill_refusal c.part c.len)) c.number
    && same (filled c.part c.byte (replicate c.len 0xEE)) (replicate c.len c.left)
    && all_filled cs

-- "Filling a fresh array .. checks 1, 2." "Lent memory stays at every refusal."
unfoldable pub fillings : List Filling
fillings =
    keeps_all 0 0 fresh 1 ∷ keeps_all 6 511 fresh 1 ∷ keeps_all 1 511 fresh 2 ∷ keeps_all 2 513 fresh 2 ∷ keeps_all 3 512 fresh 2 ∷ keeps_all 5 2048 fresh 2
    ∷ keeps_all 6 512 0x00 1 ∷ keeps_all 1 513 0x00 2
    -- "the old call means FF"
    ∷ fills 1 512 fresh 0xFF ∷ fills 2 512 fresh 0xFF ∷ fills 3 2048 fresh 0xFF ∷ fills 4 16384 fresh 0xFF
    -- "A caller that wants 00 says so with a fill byte"; any other byte too
    ∷ fills 1 512 0x00 0x00 ∷ fills 3 2048 0x00 0x00 ∷ fills 2 512 0x5A 0x5A
    ∷ []
