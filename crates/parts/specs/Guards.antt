-- "Who may write" (document 01). Assumes nothing.
use Rattle.std.specs.Prelude.{ℕ, ◌-◌, ◌/◌, Bool, true, false, cond, not, ◌&&◌, eqb, leb, Result, Ok, Err}
use Rattle.std.specs.Int.Bits.{bit_and}
use Rattle.parts.specs.declared.figures.Figure.{Figure}
use Rattle.parts.specs.declared.guards.Reason.{Reason}
use Rattle.parts.specs.declared.guards.Reason.TheVariants.{LatchOff, Protect, Block}

-- "Reasons: 1 latch off, 2 /WP, 3 block"
abbrev pub reason_number : Reason → ℕ
reason_number LatchOff = 1
reason_number Protect = 2
reason_number Block = 3

-- a bit of the status byte is set
abbrev pub is_set : ℕ → ℕ → Bool
is_set kept bit = not (eqb (bit_and kept bit) 0)

-- "Blocks, by BP1 BP0: 00 none, 01 the upper quarter, 10 the upper half, 11 all." How many bytes they guard.
abbrev pub guarded : Bool → Bool → ℕ → ℕ
guarded false false size = 0
guarded false true size = size / 4
guarded true false size = size / 2
guarded true true size = size

-- "the first protected address is the size, less nothing, a quarter, a half or all of it" (document 02, Wish 4)
unfoldable pub first_protected : Figure → ℕ → ℕ
first_protected f kept = f.size - guarded (is_set kept f.bp1) (is_set kept f.bp0) f.size

-- "The latch must be set. Parts 1 and 2: /WP low holds back the array and the status byte." And the blocks; "the
--  lowest that applies is given".
unfoldable pub may_store : Figure → Bool → ℕ → Bool → ℕ → Result (Unit {0}) Reason
may_store f latch kept wp at =
    cond (not latch) (Err LatchOff)
    (cond (f.guards_array && not wp) (Err Protect)
    (cond (leb (first_protected f kept) at) (Err Block)
    (Ok tt)))

-- "The latch must be set. Parts 1 and 2: /WP low holds back .. the status byte. Part 3: /WP low with WPEN set holds back
--  the status byte only." On parts 1 and 2 the row names no such bit, and none need be set. "Blocks don't guard the
--  status byte."
unfoldable pub may_keep : Figure → Bool → ℕ → Bool → Result (Unit {0}) Reason
may_keep f latch kept wp =
    cond (not latch) (Err LatchOff)
    (cond (eqb (bit_and kept f.enable) f.enable && not wp) (Err Protect)
    (Ok tt))
