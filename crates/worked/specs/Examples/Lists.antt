-- Lists of events at once (document 02, Wish 1): what a call leaves, told from each way in which its words could be misread.
-- Assumes nothing.
use Rattle.std.specs.Prelude.{ℕ, Bool, true, false, ◌&&◌, List, [], ◌∷◌, eqb, get_or, length, replicate}
use Rattle.stages.specs.Bits.{no_bits}
use Rattle.stages.specs.declared.stage.Came.TheVariants.{NoByte, Bytes}
use Rattle.stages.specs.declared.stage.Line.TheVariants.{Up}
use Rattle.stages.specs.declared.stage.Stage.TheVariants.{Code, ArrayOut, SerialOut, Writing}
use Rattle.pins.specs.Edges.{with_sck, with_si, with_stage}
use Rattle.pins.specs.Levels.{at_rest}
use Rattle.pins.specs.declared.state.State.{State}
use Rattle.refusals.specs.Refusals.{number_or_0}
use Rattle.chip.specs.List.{Course, listed}
use Rattle.chip.specs.Examples.Run.{same, state_numbers}

-- a call on an array and with a serial number of so many bytes, all 00, and what it leaves: refusal, count, state, answers, and
-- the byte at address 0
pub record Listing : Type 0 where
  pub state : State
  pub len : ℕ
  pub serial : ℕ
  pub codes : List ℕ
  pub levels : List ℕ
  pub refusal : ℕ
  pub count : ℕ
  pub made : State
  pub told : List ℕ
  pub first : ℕ

abbrev leaves : Listing → Course → Bool
leaves l c =
    eqb (number_or_0 c.refusal) l.refusal && eqb c.count l.count && same (state_numbers c.state) (state_numbers l.made)
    && same c.levels l.told && eqb (get_or c.array 0 0) l.first

abbrev pub all_listed : List Listing → Bool
all_listed [] = true
all_listed (l ∷ ls) = leaves l (listed (replicate l.serial 0) (replicate l.len 0) l.state l.codes l.levels) && all_listed ls

-- on an array of part 1's size, with no serial number
abbrev listing : State → List ℕ → List ℕ → ℕ → ℕ → State → List ℕ → ℕ → Listing
listing s codes levels refusal count made told first =
    record { state = s; len = 512; serial = 0; codes = codes; levels = levels; refusal = refusal; count = count; made = made; told = told; first = first }

-- a call that the first checks refuse, or an empty list: nothing is touched
abbrev untouched_by : State → ℕ → ℕ → List ℕ → List ℕ → ℕ → Listing
untouched_by s len serial codes levels refusal =
    record { state = s; len = len; serial = serial; codes = codes; levels = levels; refusal = refusal; count = 0; made = s; told = levels; first = 0 }

abbrev untouched : State → ℕ → List ℕ → List ℕ → ℕ → Listing
untouched s len codes levels refusal = untouched_by s len 0 codes levels refusal

abbrev up : State
up = at_rest 1 0 true

-- part 5
abbrev up5 : State
up5 = at_rest 5 0 true

-- on an array of its size, with a serial number of eight bytes
abbrev listing5 : State → List ℕ → List ℕ → State → List ℕ → Listing
listing5 s codes levels made told =
    record {
      state = s;
      len = 16384;
      serial = 8;
      codes = codes;
      levels = levels;
      refusal = 0;
      count = length codes;
      made = made;
      told = told;
      first = 0;
    }

abbrev risen : State
risen = with_sck up true

unfoldable pub listings : List Listing
listings =
    -- "It stops at the first refusal and gives its number, the count of events accepted and the state .. those made; later
    -- answer places stay": 6 with SCK high is refused, its own place stays, and 2 is not reached
    listing up (0 ∷ 3 ∷ 6 ∷ 2 ∷ []) (9 ∷ 9 ∷ 9 ∷ 9 ∷ 9 ∷ []) 6 2 (with_stage risen false (Code Up 2)) (2 ∷ 2 ∷ 9 ∷ 9 ∷ 9 ∷ []) 0
    -- .. "and memory": the byte 55h was whole at its eighth rise, before the 12
    ∷ listing (with_stage up true (Writing NoByte 0xAA 0 0)) (5 ∷ 3 ∷ 12 ∷ 2 ∷ []) (9 ∷ 9 ∷ 9 ∷ 9 ∷ []) 5 2
    (with_stage (with_si risen true) true (Writing Bytes no_bits 1 1)) (2 ∷ 2 ∷ 9 ∷ 9 ∷ []) 0x55
    -- "one SO level per event (0, 1, or 2 for released)": after the event, and bit 6 of 00 at the fall; the close releases SO
    ∷ listing (with_stage up false (ArrayOut Up 7 0)) (4 ∷ 3 ∷ 2 ∷ 1 ∷ []) (9 ∷ 9 ∷ 9 ∷ 9 ∷ []) 0 4 up (1 ∷ 1 ∷ 0 ∷ 2 ∷ []) 0
    -- spare places stay
    ∷ listing up (0 ∷ []) (9 ∷ 9 ∷ []) 0 1 (with_stage up false (Code Up no_bits)) (2 ∷ 9 ∷ []) 0
    -- 5 at the first event
    ∷ untouched up 512 (12 ∷ []) (7 ∷ []) 5
    -- "checked first even for an empty list: 4, 2, then 12, answer slice shorter than the event slice": before 5
    ∷ untouched up 512 [] (9 ∷ []) 0
    ∷ untouched up 511 [] (9 ∷ []) 2
    ∷ untouched up 512 (12 ∷ []) [] 12
    ∷ untouched up 511 (0 ∷ []) [] 2
    ∷ untouched (at_rest 9 0 true) 512 [] [] 4
    ∷ untouched (at_rest 1 0x01 true) 511 (0 ∷ []) [] 4
    -- 15 "after 2 and before 12"
    ∷ untouched_by up5 16384 7 [] (9 ∷ []) 15
    ∷ untouched_by up5 16384 7 (0 ∷ []) [] 15
    ∷ untouched_by up5 16384 7 (12 ∷ []) (9 ∷ []) 15
    ∷ untouched_by up5 16383 7 [] [] 2
    -- each bit of the serial number as lent at its fall, and kept from there on: a 1 of before, then a lent 00
    ∷ listing5 (with_stage up5 false (SerialOut Up 7 0)) (4 ∷ 3 ∷ 2 ∷ 1 ∷ []) (9 ∷ 9 ∷ 9 ∷ 9 ∷ []) up5 (1 ∷ 1 ∷ 0 ∷ 2 ∷ [])
    ∷ []
