-- Part 4, the FM25V01 (document 02, Wish 3; source document 004): what it has and the others have not, told from the ways in
-- which it could be misread. Worked out from the documents by hand, over an array of FF. Assumes nothing.
use Rattle.std.specs.Prelude.{ℕ, true, false, List, [], ◌∷◌, ◌++◌}
use Rattle.trace.specs.Items.{clocked}
use Rattle.parts.specs.declared.guards.Reason.TheVariants.{Protect, Block}
use Rattle.stages.specs.declared.stage.End.TheVariants.{Quiet, Sleeps}
use Rattle.stages.specs.declared.stage.Line.TheVariants.{Down, Up}
use Rattle.stages.specs.declared.stage.Stage.{Stage}
use Rattle.stages.specs.declared.stage.Stage.TheVariants.{ArrayOut, IdentOut, Over, Asleep}
use Rattle.select.specs.declared.notes.Note.{Note}
use Rattle.select.specs.declared.notes.Note.TheVariants.{Latch, Stored, HeldBack, KeptSet, KeptHeldBack, PowerLost}
use Rattle.pins.specs.Edges.{with_sck, with_si, with_hold, with_stage}
use Rattle.pins.specs.Levels.{at_rest}
use Rattle.pins.specs.declared.hold.Hold.TheVariants.{LowCsLow, LowCsHigh}
use Rattle.pins.specs.declared.state.State.{State}
use Rattle.chip.specs.Examples.Run.{Example, accepts, writes, idle, wp_low, begins, transfer, clocks, wren}
use Rattle.worked.specs.Examples.Rules.{refuses, drives, two, status, low, rdsr, rolls}

-- "Manufacturer ID" and "Product ID", as 004's table of device bytes prints them
abbrev ident : List ℕ
ident = 0x7F ∷ 0x7F ∷ 0x7F ∷ 0x7F ∷ 0x7F ∷ 0x7F ∷ 0xC2 ∷ 0x21 ∷ 0x00 ∷ []

-- RDID up to the last of its 72 bits, but for that bit's clock
abbrev seventy_one : List ℕ
seventy_one = begins (0x9F ∷ 0 ∷ 0 ∷ 0 ∷ 0 ∷ 0 ∷ 0 ∷ 0 ∷ 0 ∷ []) ++ clocks 7 0

-- an open select with SI low
abbrev opened : Stage → State
opened stage = with_stage (at_rest 4 0 true) false stage

-- 0B 00 00 00 00 after a WRITE of 54
abbrev eleven : ℕ → List ℕ → ℕ → List ℕ → Example
eleven part write at shown =
    accepts part 0
    (wren ++ transfer (write ++ 0x54 ∷ []) ++ transfer (0x0B ∷ 0 ∷ 0 ∷ 0 ∷ 0 ∷ []))
    (Latch true ∷ Stored at 0x54 ∷ Latch false ∷ [])
    shown
    (idle part 0 false false)

-- "ten op-codes": those that the other parts lack
unfoldable pub of_fast : List Example
of_fast =
    -- "RDID 9Fh shows the device bytes that 004 prints, then releases SO": at the fall after the last bit's rise, and for good
    drives 0 (accepts 4 0 (seventy_one ++ 3 ∷ []) [] ident (with_sck (opened (IdentOut Down 0 8)) true))
    ∷ accepts 4 0 (seventy_one ++ 3 ∷ 2 ∷ []) [] ident (opened (Over Quiet))
    ∷ accepts 4 0 (seventy_one ++ clocks 2 0 ++ 1 ∷ []) [] ident (idle 4 0 false false)
    -- "FSTRD 0Bh takes a dummy byte after the address", of any bits; "two-byte address with the upper two bits ignored"; it rolls
    -- from 3FFFh to 0000h, as READ does
    ∷ rolls 4 (0x02 ∷ 0xFF ∷ 0xFF ∷ []) (0x0B ∷ 0x7F ∷ 0xFF ∷ 0xA5 ∷ []) 0x3FFF
    ∷ rolls 4 (0x02 ∷ 0x3F ∷ 0xFF ∷ []) (0x03 ∷ 0xBF ∷ 0xFF ∷ []) 0x3FFF
    -- SO is released through the dummy byte, and driven at its last fall: bit 7 of FF
    ∷ drives 1 (accepts 4 0 (begins (0x0B ∷ 0 ∷ 0 ∷ 0 ∷ [])) [] [] (opened (ArrayOut Up 7 0)))
    -- one op-code, three meanings: READ from 100h on, with fresh memory from 101h on; nothing; FSTRD from 0000h
    ∷ eleven 1 (0x0A ∷ 0x00 ∷ []) 0x100 (0x54 ∷ 0xFF ∷ 0xFF ∷ [])
    ∷ eleven 3 (0x02 ∷ 0x00 ∷ 0x00 ∷ []) 0x000 []
    ∷ eleven 4 (0x02 ∷ 0x00 ∷ 0x00 ∷ []) 0x0000 (0x54 ∷ [])
    -- "C3h does nothing here", nor does 0Ah
    ∷ writes 4 0 (wren ++ transfer (0xC3 ∷ 0 ∷ 0 ∷ []) ++ transfer (0x0A ∷ 0 ∷ 0 ∷ 0x54 ∷ [])) (Latch true ∷ []) (idle 4 0 true false)
    -- 9Fh and B9h do nothing on the others
    ∷ accepts 1 0x04 (transfer (0x9F ∷ 0 ∷ []) ++ transfer (0xB9 ∷ []) ++ rdsr) [] (0x04 ∷ []) (idle 1 0x04 false false)
    ∷ accepts 3 0x04 (transfer (0x9F ∷ 0 ∷ []) ++ transfer (0xB9 ∷ []) ++ rdsr) [] (0x04 ∷ []) (idle 3 0x04 false false)
    ∷ []

-- WREN and a WRSR of 0C, with WPEN set: /WP low between the fall of /CS and the data, or the other way round
abbrev moved : List ℕ → Note → State → Example
moved select note after = writes 4 0x80 (wren ++ select) (Latch true ∷ note ∷ Latch false ∷ []) after

-- "The status layout and the protected ranges are 004's. /W guards the status byte only, with WPEN set"
unfoldable pub of_guarded : List Example
of_guarded =
    two 4 0x04 (0x02 ∷ 0x2F ∷ 0xFF ∷ []) (Stored 0x2FFF 0x11) (HeldBack 0x3000 Block)
    ∷ two 4 0x08 (0x02 ∷ 0x1F ∷ 0xFF ∷ []) (Stored 0x1FFF 0x11) (HeldBack 0x2000 Block)
    ∷ two 4 0x0C (0x02 ∷ 0x3F ∷ 0xFF ∷ []) (HeldBack 0x3FFF Block) (HeldBack 0x0000 Block)
    ∷ low (two 4 0x80 (0x02 ∷ 0x3F ∷ 0xFF ∷ []) (Stored 0x3FFF 0x11) (Stored 0x0000 0x22))
    ∷ low (status 4 0 0xFE (KeptSet 0x8C) 0x8C)
    ∷ low (status 4 0x80 0x0C (KeptHeldBack Protect) 0x80)
    -- "its level at the fall of /S counts for the whole select": low from the fall on, or before the data
    ∷ moved (0 ∷ 8 ∷ clocked 0x01 ++ clocked 0x0C ++ 1 ∷ []) (KeptSet 0x0C) (wp_low (idle 4 0x0C false false))
    ∷ moved (begins (0x01 ∷ []) ++ 8 ∷ clocked 0x0C ++ 1 ∷ []) (KeptSet 0x0C) (wp_low (idle 4 0x0C false false))
    ∷ moved (8 ∷ 0 ∷ 9 ∷ clocked 0x01 ++ clocked 0x0C ++ 1 ∷ []) (KeptHeldBack Protect) (idle 4 0x80 false false)
    -- of that select: the next has its own; and a fall in hold is none
    ∷ moved (8 ∷ transfer [] ++ 9 ∷ transfer (0x01 ∷ 0x0C ∷ [])) (KeptSet 0x0C) (idle 4 0x0C false false)
    ∷ moved (begins (0x01 ∷ []) ++ 6 ∷ 8 ∷ 1 ∷ 0 ∷ 7 ∷ clocked 0x0C ++ 1 ∷ []) (KeptSet 0x0C) (wp_low (idle 4 0x0C false false))
    ∷ []

abbrev sleep : List ℕ
sleep = transfer (0xB9 ∷ [])

abbrev asleep : State → State
asleep s = with_stage s s.latch Asleep

-- kept 04h: some bytes of SO, and awake with no select open
abbrev wakes : List ℕ → List Note → List ℕ → Example
wakes events notes shown = accepts 4 0x04 events notes shown (idle 4 0x04 false false)

-- "SLEEP B9h takes effect at the rise of /S; the next fall of /S wakes the chip and the rest of that select is ignored"
unfoldable pub of_sleep : List Example
of_sleep =
    -- not at the eighth rise; at the rise of /S, whatever clocks came; under eight bits are no op-code
    writes 4 0 (begins (0xB9 ∷ [])) [] (with_si (opened (Over Sleeps)) true)
    ∷ writes 4 0 sleep [] (asleep (idle 4 0 false true))
    ∷ writes 4 0 (transfer (0xB9 ∷ 0x06 ∷ [])) [] (asleep (idle 4 0 false false))
    ∷ writes 4 0 (0 ∷ clocks 7 0xB9 ++ 1 ∷ []) [] (idle 4 0 false false)
    -- RDSR in the waking select shows nothing, the next one shows the byte
    ∷ writes 4 0x04 (sleep ++ rdsr) [] (idle 4 0x04 false false)
    ∷ wakes (sleep ++ rdsr ++ rdsr) [] (0x04 ∷ [])
    -- "no new sleep even if B9h is clocked in it"
    ∷ wakes (sleep ++ sleep ++ rdsr) [] (0x04 ∷ [])
    -- WREN in the waking select does nothing; a WRITE in it stores nothing, and its close drops no latch, which sleep leaves
    ∷ writes 4 0 (sleep ++ wren) [] (idle 4 0 false false)
    ∷ accepts 4 0 (wren ++ sleep ++ transfer (0x02 ∷ 0 ∷ 0 ∷ 0x54 ∷ []) ++ rdsr) (Latch true ∷ []) (0x02 ∷ []) (idle 4 0 true false)
    -- "a cut ends sleep", and before the rise of /S there is none to end; event 11 with power on does not wake
    ∷ wakes (sleep ++ 10 ∷ 11 ∷ rdsr) (PowerLost ∷ []) (0x04 ∷ [])
    ∷ wakes (begins (0xB9 ∷ []) ++ 10 ∷ 11 ∷ rdsr) (PowerLost ∷ []) (0x04 ∷ [])
    ∷ writes 4 0 (sleep ++ 11 ∷ []) [] (asleep (idle 4 0 false true))
    -- edges in hold neither wake nor put to sleep; 6 and 7 hold asleep too
    ∷ wakes (sleep ++ 6 ∷ 0 ∷ 1 ∷ 7 ∷ rdsr ++ rdsr) [] (0x04 ∷ [])
    ∷ writes 4 0 (begins (0xB9 ∷ []) ++ 6 ∷ 1 ∷ []) [] (with_hold (with_si (opened (Over Sleeps)) true) LowCsHigh)
    ∷ refuses (6 ∷ 7 ∷ []) (writes 4 0 (sleep ++ 3 ∷ 6 ∷ 2 ∷ 6 ∷ 0 ∷ 7 ∷ []) [] (with_hold (asleep (idle 4 0 false true)) LowCsLow))
    ∷ []

unfoldable pub part4 : List Example
part4 = of_fast ++ of_guarded ++ of_sleep
