-- Runs of boards from power-up: what each event gave, and every byte of the slice at the end. Assumes nothing.
use Rattle.std.specs.Prelude.{ℕ, ◌+◌, Bool, true, cond, ◌&&◌, List, [], ◌∷◌, ◌++◌, eqb, replicate, set, is_none}
use Rattle.trace.specs.Items.{clocked}
use Rattle.refusals.specs.Refusals.{number_or_0}
use Rattle.chip.specs.Examples.Run.{same}
use Rattle.board.specs.Event.{Outcome, event}
use Rattle.board.specs.Run.{Held, Sent, from_power_up}
use Rattle.board.specs.So.{so_number}
use Rattle.board.specs.declared.power.Plan.{Plan}

-- what is sent: own lines by chip and code, shared lines by code
abbrev own : ℕ → ℕ → List Sent
own chip code = record { chip = chip; code = code } ∷ []

abbrev shared : List ℕ → List Sent
shared [] = []
shared (code ∷ codes) = record { chip = 0; code = code } ∷ shared codes

abbrev byte : ℕ → List Sent
byte value = shared (clocked value)

-- what is told: SO where it is not released, and 100 more than each refusal
abbrev told : Outcome → List ℕ → List ℕ
told o more =
    cond (is_none o.refusal) (cond (eqb (so_number o.so) 2) more (so_number o.so ∷ more)) ((100 + number_or_0 o.refusal) ∷ more)

pub record Ran : Type 0 where
  pub told : List ℕ
  pub slice : List ℕ

abbrev ran : Held → List Sent → Ran
ran h [] = record { told = []; slice = h.slice }
ran h (e ∷ es) =
    let o = event h.serials h.slice h.board e.chip e.code in
    let r = ran (record { board = o.board; slice = o.slice; serials = h.serials }) es in
    record { told = told o r.told; slice = r.slice }

-- parts 1 and 3 with no kept bits, over a slice of 00; neither has a serial number
abbrev plan : Plan
plan = record { count = 2; chips = record { part = 1; kept = 0 } ∷ replicate 7 (record { part = 3; kept = 0 }) }

abbrev blank : List ℕ
blank = replicate 2560 0

pub record Case : Type 0 where
  pub events : List Sent
  pub told : List ℕ
  pub slice : List ℕ

abbrev holds : Case → Ran → Bool
holds c r = same r.told c.told && same r.slice c.slice

abbrev pub all_run : List Case → Bool
all_run [] = true
all_run (c ∷ cs) = holds c (ran (from_power_up plan blank []) c.events) && all_run cs

abbrev runs : List Sent → List ℕ → List ℕ → Case
runs events told slice = record { events = events; told = told; slice = slice }

abbrev both : ℕ → List Sent
both code = own 0 code ++ own 1 code

-- WREN to both, then one WRITE: part 1 has one address byte, part 3 two. Chip 1 is held in its address, so chip 0 takes 44h alone,
-- and 05h and 66h after it; for chip 1 the address is 005h, and 66h goes there. With SCK high /HOLD may not move, and there is no
-- chip 2; neither is heard by chip 0. A cut in mid-byte leaves the whole bytes.
unfoldable pub histories : List Case
histories =
    runs (both 0 ++ byte 0x06 ++ both 1 ++ both 0 ++ byte 0x02 ++ byte 0x00 ++ own 1 6 ++ byte 0x44 ++ own 1 7 ++ byte 0x05 ++ byte 0x66
    ++ shared (5 ∷ 3 ∷ []) ++ own 0 6 ++ own 2 6 ++ shared (10 ∷ 11 ∷ []))
    (106 ∷ 114 ∷ []) (set (set (set (set blank 0 0x44) 1 0x05) 2 0x66) 517 0x66)
    ∷ []
