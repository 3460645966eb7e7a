-- Single events on boards that are made up: the refusals in their order, the board's SO, the serials, and what moves. Assumes nothing.
use Rattle.std.specs.Prelude.{ℕ, ◌*◌, Bool, true, false, ◌&&◌, List, [], ◌∷◌, ◌++◌, eqb, length, drop, replicate}
use Rattle.stages.specs.Bits.{no_bits}
use Rattle.stages.specs.declared.stage.Line.{Line}
use Rattle.stages.specs.declared.stage.Line.TheVariants.{Down, Up}
use Rattle.stages.specs.declared.stage.Stage.TheVariants.{Code, Ready, ArrayOut, StatusOut, SerialOut}
use Rattle.stages.specs.declared.stage.What.TheVariants.{Serial}
use Rattle.pins.specs.Edges.{with_sck, with_si, with_wp, with_hold, with_stage}
use Rattle.pins.specs.Levels.{at_rest}
use Rattle.pins.specs.declared.hold.Hold.TheVariants.{LowCsLow, LowCsHigh}
use Rattle.pins.specs.declared.state.State.{State}
use Rattle.refusals.specs.Refusals.{number_or_0}
use Rattle.chip.specs.Examples.Run.{same, state_numbers}
use Rattle.board.specs.Event.{Outcome, event}
use Rattle.board.specs.Power.{spare}
use Rattle.board.specs.So.{so_number}
use Rattle.board.specs.declared.chips.Board.{Board}

-- a board of these chips, the other places as at a refused power-up
abbrev pub board_of : List State → Board
board_of ss = record { count = length ss; chips = ss ++ drop (length ss) spare }

abbrev pub counted : ℕ → List State → Board
counted n ss = record { count = n; chips = ss ++ drop (length ss) spare }

abbrev pub numbers_of : List State → List ℕ
numbers_of [] = []
numbers_of (s ∷ ss) = state_numbers s ++ numbers_of ss

-- an event on a slice of so many bytes 00, with these serials: its refusal, SO, and the board that it leaves; no byte changes
pub record Case : Type 0 where
  pub board : Board
  pub len : ℕ
  pub serials : List ℕ
  pub chip : ℕ
  pub code : ℕ
  pub number : ℕ
  pub so : ℕ
  pub after : Board

abbrev pub leaves : Case → Outcome → Bool
leaves c o =
    eqb (number_or_0 o.refusal) c.number && eqb (so_number o.so) c.so && eqb o.board.count c.after.count
    && same (numbers_of o.board.chips) (numbers_of c.after.chips) && same o.slice (replicate c.len 0)

abbrev pub all_leave : List Case → Bool
all_leave [] = true
all_leave (c ∷ cs) = leaves c (event c.serials (replicate c.len 0) c.board c.chip c.code) && all_leave cs

-- refused with this number; "a refused event changes no chip"
abbrev refuses_with : List ℕ → Board → ℕ → ℕ → ℕ → ℕ → Case
refuses_with serials b len chip code number =
    record { board = b; len = len; serials = serials; chip = chip; code = code; number = number; so = 2; after = b }

-- no part 5 chip, no serials
abbrev refuses : Board → ℕ → ℕ → ℕ → ℕ → Case
refuses b len chip code number = refuses_with [] b len chip code number

-- accepted, and nothing comes of it
abbrev passes_with : List ℕ → Board → ℕ → ℕ → ℕ → Case
passes_with serials b len chip code = refuses_with serials b len chip code 0

abbrev passes : Board → ℕ → ℕ → ℕ → Case
passes b len chip code = refuses b len chip code 0

-- accepted, to these chips, with this SO
abbrev shows : List ℕ → List State → ℕ → ℕ → ℕ → ℕ → List State → Case
shows serials ss len chip code so after =
    record { board = board_of ss; len = len; serials = serials; chip = chip; code = code; number = 0; so = so; after = board_of after }

-- and with SO released
abbrev moves : List State → ℕ → ℕ → ℕ → List State → Case
moves ss len chip code after = shows [] ss len chip code 2 after

-- chips: at rest, off, one that drives SO low or high, one that is not sound
abbrev rest : State
rest = at_rest 1 0 true

abbrev off : State
off = at_rest 1 0 false

abbrev low : State
low = with_stage rest false (ArrayOut Down 0 0)

abbrev high : State
high = with_stage rest false (StatusOut Up 3)

abbrev unsound : State
unsound = at_rest 1 0x01 true

-- SI low, over 512 bytes a chip: SO, and all stays
abbrev drives : List State → ℕ → Case
drives ss so = shows [] ss (512 * length ss) 0 4 so ss

-- "The board's SO is released, the one driver's level, or "fight" where two or more drive, even if they agree."
unfoldable pub lines : List Case
lines =
    drives (rest ∷ []) 2 ∷ drives (rest ∷ rest ∷ []) 2
    ∷ drives (low ∷ []) 0 ∷ drives (high ∷ []) 1 ∷ drives (rest ∷ high ∷ []) 1 ∷ drives (low ∷ rest ∷ rest ∷ []) 0
    -- two that agree, two that don't, three
    ∷ drives (high ∷ high ∷ []) 3 ∷ drives (low ∷ low ∷ []) 3 ∷ drives (low ∷ high ∷ []) 3 ∷ drives (high ∷ low ∷ []) 3
    ∷ drives (low ∷ rest ∷ low ∷ []) 3 ∷ drives (high ∷ low ∷ high ∷ []) 3 ∷ drives (low ∷ low ∷ low ∷ []) 3
    -- a chip in hold or with no power doesn't drive
    ∷ drives (with_hold high LowCsLow ∷ low ∷ []) 0 ∷ drives (off ∷ high ∷ []) 1
    ∷ []

-- "13, no chips or over eight; 14, no such chip, for an own line only; 4 for any chip; 2, slice not as long as all pieces
--  together; 5; then 6 and 7 of the chip moved"
unfoldable pub refusals : List Case
refusals =
    -- 13 before all others; eight are not over eight
    refuses (board_of []) 0 0 0 13 ∷ refuses (board_of []) 0 0 4 13 ∷ refuses (counted 9 (unsound ∷ [])) 1 9 12 13
    ∷ passes (board_of (replicate 8 rest)) 4096 7 1 ∷ refuses (board_of (replicate 8 rest)) 4096 8 1 14
    -- 14: chips count from 0; /CS and /HOLD, and no other line; 12 is no line
    ∷ refuses (board_of (rest ∷ [])) 512 1 0 14 ∷ refuses (board_of (rest ∷ [])) 512 1 1 14 ∷ refuses (board_of (rest ∷ [])) 512 1 6 14
    ∷ refuses (board_of (rest ∷ [])) 512 1 7 14 ∷ passes (board_of (rest ∷ [])) 512 0 1 ∷ passes (board_of (rest ∷ [])) 512 1 2
    ∷ passes (board_of (rest ∷ [])) 512 9 4 ∷ passes (board_of (rest ∷ [])) 512 9 9 ∷ passes (board_of (rest ∷ [])) 512 9 11
    ∷ refuses (board_of (rest ∷ [])) 512 9 12 5 ∷ refuses (board_of (rest ∷ [])) 512 0 12 5
    -- 14 before 4, 2
    ∷ refuses (board_of (unsound ∷ [])) 511 1 0 14
    -- 4 for any chip, and before 2; a place with no chip is not tested
    ∷ refuses (board_of (rest ∷ unsound ∷ [])) 1024 0 1 4 ∷ refuses (board_of (unsound ∷ rest ∷ [])) 1024 1 1 4
    ∷ refuses (board_of (unsound ∷ rest ∷ [])) 1023 0 4 4 ∷ passes (counted 1 (rest ∷ unsound ∷ [])) 512 0 4
    -- 2: all pieces together, each of its own length; before 5
    ∷ refuses (board_of (rest ∷ at_rest 3 0 true ∷ [])) 2559 0 4 2 ∷ refuses (board_of (rest ∷ at_rest 3 0 true ∷ [])) 2561 0 4 2
    ∷ passes (board_of (rest ∷ at_rest 3 0 true ∷ [])) 2560 0 4 ∷ refuses (board_of (rest ∷ at_rest 3 0 true ∷ [])) 1024 0 4 2
    ∷ refuses (board_of (rest ∷ rest ∷ [])) 512 0 4 2 ∷ refuses (counted 1 (rest ∷ rest ∷ [])) 1024 0 4 2
    ∷ refuses (board_of (rest ∷ [])) 511 0 12 2 ∷ refuses (board_of (off ∷ [])) 511 0 4 2
    -- 5 before 6; 6 and 7 of the chip moved, and of no other
    ∷ refuses (board_of (with_sck rest true ∷ [])) 512 0 14 5
    ∷ refuses (board_of (with_sck rest true ∷ rest ∷ [])) 1024 0 6 6 ∷ refuses (board_of (rest ∷ with_sck rest true ∷ [])) 1024 1 6 6
    ∷ refuses (board_of (with_hold rest LowCsLow ∷ rest ∷ [])) 1024 0 7 7 ∷ refuses (board_of (rest ∷ with_hold rest LowCsLow ∷ [])) 1024 1 7 7
    ∷ passes (board_of (with_hold rest LowCsLow ∷ rest ∷ [])) 1024 1 7 ∷ passes (board_of (with_sck rest true ∷ rest ∷ [])) 1024 1 7
    ∷ []

-- a part 5 chip at rest, and one with no power; two with another part between them, and their serial numbers, which differ in every
-- bit
abbrev five : State
five = at_rest 5 0 true

abbrev five_off : State
five_off = at_rest 5 0 false

abbrev two : Board
two = board_of (five ∷ rest ∷ five ∷ [])

abbrev numbers : List ℕ
numbers =
    0x00 ∷ 0x7F ∷ 0xA5 ∷ 0x0F ∷ 0xC3 ∷ 0x11 ∷ 0x22 ∷ 0x44
    ∷ 0xFF ∷ 0x80 ∷ 0x5A ∷ 0xF0 ∷ 0x3C ∷ 0xEE ∷ 0xDD ∷ 0xBB ∷ []

-- "slice not eight bytes per part 5 chip", "after 2 and before" 5: two part 5 chips have 16, over 16,384 + 512 + 16,384 bytes
unfoldable pub numbered : List Case
numbered =
    passes_with numbers two 33280 0 4 ∷ refuses_with (replicate 15 0) two 33280 0 4 15 ∷ refuses_with (replicate 17 0) two 33280 0 4 15
    ∷ refuses_with (replicate 8 0) two 33280 2 0 15 ∷ refuses_with (replicate 24 0) two 33280 0 4 15 ∷ refuses_with (replicate 15 0) two 33280 1 0 15
    -- where no chip is a part 5 there is no byte, part 4 or not; a place with no chip has none
    ∷ refuses_with (0 ∷ []) (board_of (rest ∷ [])) 512 0 4 15 ∷ refuses_with (replicate 8 0) (board_of (rest ∷ [])) 512 0 4 15
    ∷ passes_with [] (board_of (at_rest 4 0 true ∷ [])) 16384 0 4 ∷ refuses_with (replicate 8 0) (board_of (at_rest 4 0 true ∷ [])) 16384 0 4 15
    ∷ passes_with [] (counted 1 (rest ∷ five ∷ [])) 512 0 4 ∷ passes_with (replicate 8 0) (counted 1 (five ∷ five ∷ [])) 16384 0 4
    -- with power off too
    ∷ refuses_with [] (board_of (five_off ∷ [])) 16384 0 4 15 ∷ passes_with (replicate 8 0) (board_of (five_off ∷ [])) 16384 0 4
    -- 13, 14, 4 and 2 come before it, then 5, then 6
    ∷ refuses_with (0 ∷ []) (board_of []) 0 0 4 13 ∷ refuses_with (0 ∷ []) (board_of (rest ∷ [])) 512 1 0 14
    ∷ refuses_with (0 ∷ []) (board_of (unsound ∷ [])) 512 0 4 4 ∷ refuses_with (0 ∷ []) (board_of (rest ∷ [])) 511 0 4 2
    ∷ refuses_with (0 ∷ []) (board_of (rest ∷ [])) 512 0 12 15 ∷ refuses_with (0 ∷ []) (board_of (with_sck rest true ∷ [])) 512 0 6 15
    ∷ []

-- SNR open at bit 7 of a byte, SCK high: the fall to come shows it
abbrev showing : ℕ → State
showing at = with_stage (with_sck five true) false (Ready Serial at)

abbrev shown : Line → ℕ → State
shown level at = with_stage five false (SerialOut level 7 at)

-- "eight bytes for each part 5 chip in chip order": chip 2's are the second eight, whatever stands between the two. Bit 7 of FFh and
-- of 80h, beside chip 0's 00h and 7Fh; and both at once.
unfoldable pub in_order : List Case
in_order =
    shows numbers (with_sck five true ∷ with_sck rest true ∷ showing 0 ∷ []) 33280 0 2 1 (five ∷ rest ∷ shown Up 0 ∷ [])
    ∷ shows numbers (with_sck five true ∷ with_sck rest true ∷ showing 1 ∷ []) 33280 0 2 1 (five ∷ rest ∷ shown Up 1 ∷ [])
    ∷ shows numbers (showing 1 ∷ with_sck rest true ∷ with_sck five true ∷ []) 33280 0 2 0 (shown Down 1 ∷ rest ∷ five ∷ [])
    ∷ shows numbers (showing 0 ∷ with_sck rest true ∷ showing 7 ∷ []) 33280 0 2 3 (shown Down 0 ∷ rest ∷ shown Up 7 ∷ [])
    -- a part 1 chip before it takes none of the bytes
    ∷ shows (replicate 7 0 ++ (0x80 ∷ [])) (with_sck rest true ∷ showing 7 ∷ []) 16896 0 2 1 (rest ∷ shown Up 7 ∷ [])
    ∷ []

-- "A shared line moves every chip; an own line moves one chip and nothing of any other"
unfoldable pub moved : List Case
moved =
    -- SI, /WP and SCK move all, VDD too
    moves (rest ∷ rest ∷ []) 1024 0 5 (with_si rest true ∷ with_si rest true ∷ [])
    ∷ moves (rest ∷ at_rest 3 0 true ∷ rest ∷ []) 3072 1 8 (with_wp rest false ∷ with_wp (at_rest 3 0 true) false ∷ with_wp rest false ∷ [])
    ∷ moves (rest ∷ rest ∷ []) 1024 9 3 (with_sck rest true ∷ with_sck rest true ∷ [])
    ∷ moves (rest ∷ low ∷ off ∷ []) 1536 0 10 (off ∷ off ∷ off ∷ []) ∷ moves (off ∷ rest ∷ []) 1024 1 11 (rest ∷ rest ∷ [])
    -- /CS and /HOLD move the chip named
    ∷ moves (rest ∷ rest ∷ []) 1024 0 0 (with_stage rest false (Code Up no_bits) ∷ rest ∷ [])
    ∷ moves (rest ∷ rest ∷ []) 1024 1 0 (rest ∷ with_stage rest false (Code Up no_bits) ∷ [])
    ∷ moves (rest ∷ rest ∷ rest ∷ []) 1536 1 6 (rest ∷ with_hold rest LowCsHigh ∷ rest ∷ [])
    -- a chip with no power hears nothing but 11, the others do
    ∷ moves (off ∷ rest ∷ []) 1024 0 5 (off ∷ with_si rest true ∷ [])
    ∷ []
