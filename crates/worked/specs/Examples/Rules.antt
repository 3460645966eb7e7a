-- Each rule of document 01 told from the ways in which it could be misread: worked out from the document by hand, in its
-- order. Part 1 over an array of FF unless said. Assumes nothing.
use Rattle.std.specs.Prelude.{ℕ, true, false, List, [], ◌∷◌, ◌++◌}
use Rattle.trace.specs.Items.{clocked}
use Rattle.parts.specs.declared.guards.Reason.TheVariants.{LatchOff, Protect, Block}
use Rattle.stages.specs.declared.stage.End.TheVariants.{Quiet}
use Rattle.stages.specs.declared.stage.Line.TheVariants.{Down, Up}
use Rattle.stages.specs.declared.stage.Stage.{Stage}
use Rattle.stages.specs.declared.stage.Stage.TheVariants.{Ready, StatusOut, Over}
use Rattle.stages.specs.declared.stage.What.TheVariants.{Status}
use Rattle.select.specs.declared.notes.Note.{Note}
use Rattle.select.specs.declared.notes.Note.TheVariants.{Latch, Stored, HeldBack, KeptSet, KeptHeldBack, PowerLost}
use Rattle.pins.specs.Edges.{with_sck, with_si, with_hold, with_stage}
use Rattle.pins.specs.Levels.{at_rest}
use Rattle.pins.specs.declared.hold.Hold.TheVariants.{LowCsLow}
use Rattle.pins.specs.declared.state.State.{State}
use Rattle.chip.specs.Examples.Run.{Example, accepts, writes, idle, wp_low, begins, transfer, clocks, wren}

-- some event is refused, or SO is driven at the end
abbrev pub refuses : List ℕ → Example → Example
refuses refusals e =
    record { part = e.part; kept = e.kept; events = e.events; refusals = refusals; notes = e.notes; shown = e.shown; so = e.so; state = e.state }

abbrev pub drives : ℕ → Example → Example
drives so e =
    record { part = e.part; kept = e.kept; events = e.events; refusals = e.refusals; notes = e.notes; shown = e.shown; so = so; state = e.state }

-- WREN, then a WRITE of 11 22: what is noted of each byte
abbrev pub two : ℕ → ℕ → List ℕ → Note → Note → Example
two part kept header first second =
    writes part kept
    (wren ++ transfer (header ++ 0x11 ∷ 0x22 ∷ []))
    (Latch true ∷ first ∷ second ∷ Latch false ∷ [])
    (idle part kept false false)

-- WREN, then a WRSR of an even byte: what is noted of it, and the kept bits after
abbrev pub status : ℕ → ℕ → ℕ → Note → ℕ → Example
status part kept byte note after =
    writes part kept (wren ++ transfer (0x01 ∷ byte ∷ [])) (Latch true ∷ note ∷ Latch false ∷ []) (idle part after false false)

-- the same with /WP low from the start
abbrev pub low : Example → Example
low e =
    record { part = e.part; kept = e.kept; events = 8 ∷ e.events; refusals = e.refusals; notes = e.notes; shown = e.shown; so = e.so; state = wp_low e.state }

-- RDSR of one byte
abbrev pub rdsr : List ℕ
rdsr = transfer (0x05 ∷ 0x00 ∷ [])

-- "Setting a pin to the level it has is accepted and has no effect." The power; "the off state".
unfoldable pub of_lines : List Example
of_lines =
    -- /CS low, SCK high and SCK low a second time, inside WREN
    writes 1 0 (0 ∷ 4 ∷ 3 ∷ 3 ∷ 2 ∷ 2 ∷ 0 ∷ clocks 7 0x0C ++ 1 ∷ 1 ∷ []) (Latch true ∷ []) (idle 1 0 true false)
    -- event 11 with power on, inside WREN
    ∷ writes 1 0 (0 ∷ clocks 4 0x06 ++ 11 ∷ clocks 4 0x60 ++ 1 ∷ []) (Latch true ∷ []) (idle 1 0 true false)
    -- the levels don't move while power is off, and nothing is refused but 5
    ∷ refuses (5 ∷ []) (writes 1 0 (10 ∷ 8 ∷ 0 ∷ 5 ∷ 3 ∷ 6 ∷ 7 ∷ 12 ∷ 10 ∷ []) (PowerLost ∷ []) (at_rest 1 0 false))
    ∷ writes 1 0 (10 ∷ 8 ∷ 0 ∷ 5 ∷ 3 ∷ 11 ∷ []) (PowerLost ∷ []) (at_rest 1 0 true)
    -- "all else is as at power-up": a cut puts the lines back, in hold too
    ∷ writes 1 0 (8 ∷ 5 ∷ 0 ∷ 3 ∷ 10 ∷ 11 ∷ []) (PowerLost ∷ []) (at_rest 1 0 true)
    ∷ writes 1 0 (6 ∷ 0 ∷ 3 ∷ 10 ∷ 11 ∷ []) (PowerLost ∷ []) (at_rest 1 0 true)
    -- a cut with the latch on has one note; a closed WRITE's byte and the kept bits stay
    ∷ writes 3 0
    (wren ++ transfer (0x02 ∷ 0x00 ∷ 0x00 ∷ 0x54 ∷ []) ++ wren ++ transfer (0x01 ∷ 0x84 ∷ []) ++ wren ++ 10 ∷ [])
    (Latch true ∷ Stored 0x000 0x54 ∷ Latch false ∷ Latch true ∷ KeptSet 0x84 ∷ Latch false ∷ Latch true ∷ PowerLost ∷ [])
    (at_rest 3 0x84 false)
    -- 13. "Event 10 right after a data byte's eighth rise: that byte is stored."
    ∷ writes 1 0
    (wren ++ begins (0x02 ∷ 0x30 ∷ []) ++ clocks 7 0xA5 ++ 5 ∷ 3 ∷ 10 ∷ [])
    (Latch true ∷ Stored 0x030 0xA5 ∷ PowerLost ∷ [])
    (at_rest 1 0 false)
    -- 5, with power on: "12 or more", no code is cut to a byte
    ∷ refuses (5 ∷ 5 ∷ 5 ∷ []) (writes 1 0 (12 ∷ 13 ∷ 262 ∷ wren) (Latch true ∷ []) (idle 1 0 true false))
    ∷ []

abbrev others : ℕ → Example
others part =
    writes part 0
    (transfer (0x0E ∷ []) ++ wren ++ transfer (0x0C ∷ []) ++ transfer (0x0D ∷ 0x00 ∷ []) ++ transfer (0x09 ∷ 0x0C ∷ []))
    (Latch true ∷ [])
    (idle part 0 true false)

-- "The first eight bits are the op-code", "Other op-codes and later bits that no rule names do nothing"
unfoldable pub of_codes : List Example
of_codes =
    -- WREN at its eighth rise, with SCK still high; under eight clocks nothing
    writes 1 0 (0 ∷ clocks 7 0x06 ++ 4 ∷ 3 ∷ []) (Latch true ∷ []) (with_sck (with_stage (at_rest 1 0 true) true (Over Quiet)) true)
    ∷ writes 1 0 (0 ∷ clocks 7 0x06 ++ 1 ∷ []) [] (idle 1 0 false true)
    -- "Each gives the latch note, changed or not."
    ∷ writes 1 0 (transfer (0x04 ∷ []) ++ wren ++ wren ++ transfer (0x04 ∷ [])) (Latch false ∷ Latch true ∷ Latch true ∷ Latch false ∷ []) (idle 1 0 false false)
    -- "one op-code per select"
    ∷ writes 1 0 (transfer (0x06 ∷ 0x04 ∷ [])) (Latch true ∷ []) (idle 1 0 true false)
    -- a select closed in its header is over, and READ (of fresh memory, FF) and RDSR leave the latch
    ∷ accepts 1 0
    (wren ++ begins (0x02 ∷ []) ++ clocks 4 0x00 ++ 1 ∷ transfer (0x03 ∷ 0x00 ∷ 0x00 ∷ []) ++ rdsr)
    (Latch true ∷ [])
    (0xFF ∷ 0x02 ∷ [])
    (idle 1 0 true false)
    -- bit 3 on the other op-codes, on each part: 0Eh is no WREN, 0Ch no WRDI, 0Dh no RDSR, 09h no WRSR
    ∷ others 1 ∷ others 2 ∷ others 3
    -- 13h and 83h are no READ, 12h and 82h no WRITE
    ∷ writes 1 0
    (wren ++ transfer (0x13 ∷ 0x00 ∷ 0x00 ∷ []) ++ transfer (0x83 ∷ 0x00 ∷ 0x00 ∷ []) ++ transfer (0x12 ∷ 0x00 ∷ 0x54 ∷ []) ++ transfer (0x82 ∷ 0x00 ∷ 0x54 ∷ []))
    (Latch true ∷ [])
    (idle 1 0 true false)
    -- "Part 3: READ 03h, WRITE 02h": 0Ah and 0Bh do nothing there
    ∷ writes 3 0
    (wren ++ transfer (0x0A ∷ 0x00 ∷ 0x00 ∷ 0x54 ∷ []) ++ transfer (0x0B ∷ 0x00 ∷ 0x00 ∷ 0x00 ∷ []))
    (Latch true ∷ [])
    (idle 3 0 true false)
    ∷ []

-- part 3 in an open select, with kept 80h
abbrev shows : Stage → State
shows stage = with_stage (at_rest 3 0x80 true) false stage

-- RDSR up to the rise of its eighth bit
abbrev eighth : List ℕ
eighth = begins (0x05 ∷ []) ++ clocks 7 0x00 ++ 4 ∷ 3 ∷ []

-- 11 22 written over the end, and read back
abbrev pub rolls : ℕ → List ℕ → List ℕ → ℕ → Example
rolls part write read last =
    accepts part 0
    (wren ++ transfer (write ++ 0x11 ∷ 0x22 ∷ []) ++ transfer (read ++ 0x00 ∷ 0x00 ∷ []))
    (Latch true ∷ Stored last 0x11 ∷ Stored 0x000 0x22 ∷ Latch false ∷ [])
    (0x11 ∷ 0x22 ∷ [])
    (idle part 0 false false)

-- "Output moves on a seen fall of SCK once the header is whole"
unfoldable pub of_output : List Example
of_output =
    -- every status bit, on and off, with the latch and without
    accepts 3 0x80 (rdsr ++ wren ++ rdsr) (Latch true ∷ []) (0x80 ∷ 0x82 ∷ []) (idle 3 0x80 true false)
    ∷ accepts 3 0x8C (rdsr ++ wren ++ rdsr) (Latch true ∷ []) (0x8C ∷ 0x8E ∷ []) (idle 3 0x8C true false)
    ∷ accepts 1 0x04 (rdsr ++ wren ++ rdsr) (Latch true ∷ []) (0x04 ∷ 0x06 ∷ []) (idle 1 0x04 true false)
    ∷ accepts 2 0x08 (rdsr ++ wren ++ rdsr) (Latch true ∷ []) (0x08 ∷ 0x0A ∷ []) (idle 2 0x08 true false)
    -- the header's last rise shows nothing yet, its fall shows bit 7
    ∷ accepts 3 0x80 (0 ∷ clocks 7 0x05 ++ 5 ∷ 3 ∷ []) [] [] (with_sck (with_si (shows (Ready Status 0)) true) true)
    ∷ drives 1 (accepts 3 0x80 (begins (0x05 ∷ [])) [] [] (with_si (shows (StatusOut Up 7)) true))
    -- an event without effect leaves SO as it is
    ∷ drives 1 (accepts 3 0x80 (begins (0x05 ∷ []) ++ 2 ∷ 11 ∷ 8 ∷ 9 ∷ []) [] [] (with_si (shows (StatusOut Up 7)) true))
    -- "RDSR shows the status byte once; the fall after its eighth bit's rise releases SO": not that rise
    ∷ drives 0 (accepts 3 0x80 eighth [] (0x80 ∷ []) (with_sck (shows (StatusOut Down 0)) true))
    ∷ accepts 3 0x80 (eighth ++ 2 ∷ []) [] (0x80 ∷ []) (shows (Over Quiet))
    ∷ accepts 1 0x0C (transfer (0x05 ∷ 0x00 ∷ 0x00 ∷ [])) [] (0x0C ∷ []) (idle 1 0x0C false false)
    -- a refusal reads released, and the next answer has the level again
    ∷ refuses (6 ∷ []) (accepts 3 0x80 (eighth ++ 6 ∷ []) [] (0x80 ∷ []) (with_sck (shows (StatusOut Down 0)) true))
    ∷ drives 0 (refuses (6 ∷ []) (accepts 3 0x80 (eighth ++ 6 ∷ 3 ∷ []) [] (0x80 ∷ []) (with_sck (shows (StatusOut Down 0)) true)))
    -- "modes 0 and 3": SCK high at the fall of /CS, and its first fall comes before any bit
    ∷ accepts 1 0x0C (3 ∷ 0 ∷ 2 ∷ clocked 0x05 ++ clocked 0x00 ++ 1 ∷ []) [] (0x0C ∷ []) (idle 1 0x0C false false)
    -- "then the next address, rolling from the last to 0", on each size; bit 3 of READ is A8, and 03h reads the lower half
    ∷ rolls 1 (0x0A ∷ 0xFF ∷ []) (0x0B ∷ 0xFF ∷ []) 0x1FF
    ∷ rolls 2 (0x0A ∷ 0xFF ∷ []) (0x0B ∷ 0xFF ∷ []) 0x1FF
    ∷ rolls 3 (0x02 ∷ 0x07 ∷ 0xFF ∷ []) (0x03 ∷ 0x07 ∷ 0xFF ∷ []) 0x7FF
    ∷ accepts 1 0
    (wren ++ transfer (0x0A ∷ 0x10 ∷ 0x54 ∷ []) ++ transfer (0x03 ∷ 0x10 ∷ 0x00 ∷ []) ++ transfer (0x0B ∷ 0x10 ∷ 0x00 ∷ []))
    (Latch true ∷ Stored 0x110 0x54 ∷ Latch false ∷ [])
    (0xFF ∷ 0x54 ∷ [])
    (idle 1 0 false false)
    ∷ []

-- WRITE, WRSR and the close
unfoldable pub of_writing : List Example
of_writing =
    -- no data byte: the op-code alone, the address alone, on both widths of the address
    writes 1 0 (wren ++ transfer (0x02 ∷ []) ++ transfer (0x02 ∷ 0x00 ∷ [])) (Latch true ∷ []) (idle 1 0 true false)
    ∷ writes 3 0 (wren ++ transfer (0x02 ∷ 0x00 ∷ []) ++ transfer (0x02 ∷ 0x00 ∷ 0x00 ∷ [])) (Latch true ∷ []) (idle 3 0 true false)
    -- "upper five bits ignored", and no fewer
    ∷ two 3 0 (0x02 ∷ 0xF8 ∷ 0x00 ∷ []) (Stored 0x000 0x11) (Stored 0x001 0x22)
    ∷ two 3 0 (0x02 ∷ 0x04 ∷ 0xFF ∷ []) (Stored 0x4FF 0x11) (Stored 0x500 0x22)
    -- without bit 3 the address is below 100h, and goes on beyond it
    ∷ two 1 0 (0x02 ∷ 0xFF ∷ []) (Stored 0x0FF 0x11) (Stored 0x100 0x22)
    -- "at least one whole data byte": one and seven bits
    ∷ writes 1 0
    (wren ++ begins (0x02 ∷ 0x10 ∷ 0xA5 ∷ []) ++ clocks 7 0x54 ++ 1 ∷ [])
    (Latch true ∷ Stored 0x010 0xA5 ∷ Latch false ∷ [])
    (idle 1 0 false false)
    -- WRSR: seven bits are no byte; the first byte only, also where it was held back
    ∷ writes 1 0 (wren ++ begins (0x01 ∷ []) ++ clocks 7 0x0C ++ 1 ∷ []) (Latch true ∷ []) (idle 1 0 true false)
    ∷ writes 1 0 (wren ++ transfer (0x01 ∷ 0x04 ∷ 0x08 ∷ [])) (Latch true ∷ KeptSet 0x04 ∷ Latch false ∷ []) (idle 1 0x04 false false)
    ∷ writes 1 0
    (wren ++ 8 ∷ begins (0x01 ∷ 0x04 ∷ []) ++ 9 ∷ clocked 0x08 ++ 1 ∷ [])
    (Latch true ∷ KeptHeldBack Protect ∷ Latch false ∷ [])
    (idle 1 0 false false)
    -- "under the part's mask", on part 2 too; bits are cleared as well as set, WPEN among them
    ∷ status 2 0 0xFE (KeptSet 0x0C) 0x0C
    ∷ status 3 0x8C 0x00 (KeptSet 0x00) 0x00
    ∷ status 3 0x80 0x0C (KeptSet 0x0C) 0x0C
    -- "Blocks don't guard the status byte."
    ∷ status 1 0x0C 0x00 (KeptSet 0x00) 0x00
    ∷ []

-- "Who may write"
unfoldable pub of_guards : List Example
of_guards =
    -- "01 the upper quarter, 10 the upper half, 11 all", on each part at the last free and the first guarded address
    two 1 0x08 (0x02 ∷ 0xFF ∷ []) (Stored 0x0FF 0x11) (HeldBack 0x100 Block)
    ∷ two 1 0x0C (0x0A ∷ 0xFF ∷ []) (HeldBack 0x1FF Block) (HeldBack 0x000 Block)
    ∷ two 2 0x04 (0x0A ∷ 0x7F ∷ []) (Stored 0x17F 0x11) (HeldBack 0x180 Block)
    ∷ two 2 0x08 (0x02 ∷ 0xFF ∷ []) (Stored 0x0FF 0x11) (HeldBack 0x100 Block)
    ∷ two 2 0x0C (0x0A ∷ 0xFF ∷ []) (HeldBack 0x1FF Block) (HeldBack 0x000 Block)
    ∷ two 3 0x04 (0x02 ∷ 0x05 ∷ 0xFF ∷ []) (Stored 0x5FF 0x11) (HeldBack 0x600 Block)
    ∷ two 3 0x08 (0x02 ∷ 0x03 ∷ 0xFF ∷ []) (Stored 0x3FF 0x11) (HeldBack 0x400 Block)
    ∷ two 3 0x0C (0x02 ∷ 0x07 ∷ 0xFF ∷ []) (HeldBack 0x7FF Block) (HeldBack 0x000 Block)
    -- WPEN is no block; a byte held back steps the address, rolling over
    ∷ two 3 0x80 (0x02 ∷ 0x07 ∷ 0xFF ∷ []) (Stored 0x7FF 0x11) (Stored 0x000 0x22)
    ∷ two 1 0x04 (0x0A ∷ 0xFF ∷ []) (HeldBack 0x1FF Block) (Stored 0x000 0x22)
    -- "Parts 1 and 2: /WP low holds back the array and the status byte."
    ∷ low (two 1 0 (0x0A ∷ 0xFF ∷ []) (HeldBack 0x1FF Protect) (HeldBack 0x000 Protect))
    ∷ low (two 2 0 (0x0A ∷ 0xFF ∷ []) (HeldBack 0x1FF Protect) (HeldBack 0x000 Protect))
    ∷ low (status 1 0 0x0C (KeptHeldBack Protect) 0)
    ∷ low (status 2 0 0x0C (KeptHeldBack Protect) 0)
    -- "Part 3: /WP low with WPEN set holds back the status byte only": WPEN as it stood, and not the array
    ∷ low (status 3 0 0x8C (KeptSet 0x8C) 0x8C)
    ∷ low (two 3 0 (0x02 ∷ 0x07 ∷ 0xFF ∷ []) (Stored 0x7FF 0x11) (Stored 0x000 0x22))
    ∷ low (two 3 0x80 (0x02 ∷ 0x07 ∷ 0xFF ∷ []) (Stored 0x7FF 0x11) (Stored 0x000 0x22))
    -- "the lowest that applies is given"
    ∷ low (writes 1 0x0C (transfer (0x02 ∷ 0x00 ∷ 0x54 ∷ [])) (HeldBack 0x000 LatchOff ∷ []) (idle 1 0x0C false false))
    ∷ low (writes 3 0x8C (transfer (0x01 ∷ 0x00 ∷ [])) (KeptHeldBack LatchOff ∷ []) (idle 3 0x8C false false))
    ∷ low (two 1 0x0C (0x0A ∷ 0xFF ∷ []) (HeldBack 0x1FF Protect) (HeldBack 0x000 Protect))
    ∷ low (two 3 0x8C (0x02 ∷ 0x07 ∷ 0xFF ∷ []) (HeldBack 0x7FF Block) (HeldBack 0x000 Block))
    -- "it is read at the byte's first rise and remembered for that byte, a rise of /WP in mid-byte included" (document 02,
    -- Wish 2): low from the second bit on, low from the eighth on, low for the first alone
    ∷ writes 1 0
    (wren ++ begins (0x02 ∷ 0x00 ∷ []) ++ clocks 1 0x54 ++ 8 ∷ clocks 7 0xA8 ++ 1 ∷ [])
    (Latch true ∷ Stored 0x000 0x54 ∷ Latch false ∷ [])
    (wp_low (idle 1 0 false false))
    ∷ writes 1 0
    (wren ++ begins (0x02 ∷ 0x00 ∷ []) ++ clocks 7 0x54 ++ 8 ∷ 4 ∷ 3 ∷ 2 ∷ 1 ∷ [])
    (Latch true ∷ Stored 0x000 0x54 ∷ Latch false ∷ [])
    (wp_low (idle 1 0 false false))
    ∷ writes 1 0
    (wren ++ begins (0x02 ∷ 0x00 ∷ []) ++ 8 ∷ clocks 1 0x54 ++ 9 ∷ clocks 7 0xA8 ++ 1 ∷ [])
    (Latch true ∷ HeldBack 0x000 Protect ∷ Latch false ∷ [])
    (idle 1 0 false false)
    -- at the rise itself: low from after SI to before the fall, and high there
    ∷ writes 1 0
    (wren ++ begins (0x02 ∷ 0x00 ∷ []) ++ 4 ∷ 8 ∷ 3 ∷ 9 ∷ 2 ∷ clocks 7 0xA8 ++ 1 ∷ [])
    (Latch true ∷ HeldBack 0x000 Protect ∷ Latch false ∷ [])
    (idle 1 0 false false)
    ∷ writes 1 0
    (wren ++ begins (0x02 ∷ 0x00 ∷ []) ++ 8 ∷ 4 ∷ 9 ∷ 3 ∷ 8 ∷ 2 ∷ clocks 7 0xA8 ++ 1 ∷ [])
    (Latch true ∷ Stored 0x000 0x54 ∷ Latch false ∷ [])
    (wp_low (idle 1 0 false false))
    -- the next byte of the same transfer reads its own level
    ∷ writes 1 0
    (wren ++ begins (0x02 ∷ 0x00 ∷ []) ++ clocks 1 0x11 ++ 8 ∷ clocks 7 0x22 ++ clocked 0x22 ++ 1 ∷ [])
    (Latch true ∷ Stored 0x000 0x11 ∷ HeldBack 0x001 Protect ∷ Latch false ∷ [])
    (wp_low (idle 1 0 false false))
    ∷ writes 1 0
    (wren ++ begins (0x02 ∷ 0x00 ∷ []) ++ 8 ∷ clocks 1 0x11 ++ 9 ∷ clocks 7 0x22 ++ clocked 0x22 ++ 1 ∷ [])
    (Latch true ∷ HeldBack 0x000 Protect ∷ Stored 0x001 0x22 ∷ Latch false ∷ [])
    (idle 1 0 false false)
    -- the status byte too, on part 1 and with WPEN set on part 3
    ∷ writes 1 0
    (wren ++ begins (0x01 ∷ []) ++ clocks 1 0x0C ++ 8 ∷ clocks 7 0x18 ++ 1 ∷ [])
    (Latch true ∷ KeptSet 0x0C ∷ Latch false ∷ [])
    (wp_low (idle 1 0x0C false false))
    ∷ writes 1 0
    (wren ++ begins (0x01 ∷ []) ++ 8 ∷ clocks 1 0x0C ++ 9 ∷ clocks 7 0x18 ++ 1 ∷ [])
    (Latch true ∷ KeptHeldBack Protect ∷ Latch false ∷ [])
    (idle 1 0 false false)
    ∷ writes 3 0x80
    (wren ++ begins (0x01 ∷ []) ++ clocks 1 0x0C ++ 8 ∷ clocks 7 0x18 ++ 1 ∷ [])
    (Latch true ∷ KeptSet 0x0C ∷ Latch false ∷ [])
    (wp_low (idle 3 0x0C false false))
    ∷ writes 3 0x80
    (wren ++ begins (0x01 ∷ []) ++ 8 ∷ clocks 1 0x0C ++ 9 ∷ clocks 7 0x18 ++ 1 ∷ [])
    (Latch true ∷ KeptHeldBack Protect ∷ Latch false ∷ [])
    (idle 3 0x80 false false)
    -- a byte that was not whole leaves nothing of its level to the next transfer
    ∷ writes 1 0
    (wren ++ begins (0x02 ∷ 0x00 ∷ []) ++ 8 ∷ clocks 3 0x54 ++ 1 ∷ 9 ∷ transfer (0x02 ∷ 0x00 ∷ 0x54 ∷ []))
    (Latch true ∷ Stored 0x000 0x54 ∷ Latch false ∷ [])
    (idle 1 0 false false)
    -- moved in hold: in mid-byte it comes too late; around a clock that is not seen it comes to nothing
    ∷ writes 1 0
    (wren ++ begins (0x02 ∷ 0x00 ∷ []) ++ clocks 1 0x54 ++ 6 ∷ 8 ∷ 7 ∷ clocks 7 0xA8 ++ 1 ∷ [])
    (Latch true ∷ Stored 0x000 0x54 ∷ Latch false ∷ [])
    (wp_low (idle 1 0 false false))
    ∷ writes 1 0
    (wren ++ begins (0x02 ∷ 0x00 ∷ []) ++ 6 ∷ 8 ∷ 3 ∷ 2 ∷ 9 ∷ 7 ∷ clocked 0x54 ++ 1 ∷ [])
    (Latch true ∷ Stored 0x000 0x54 ∷ Latch false ∷ [])
    (idle 1 0 false false)
    -- "Its level is followed at all times with power on, during hold too."
    ∷ writes 1 0
    (wren ++ begins (0x02 ∷ 0x00 ∷ []) ++ 6 ∷ 8 ∷ 7 ∷ clocked 0x54 ++ 1 ∷ [])
    (Latch true ∷ HeldBack 0x000 Protect ∷ Latch false ∷ [])
    (wp_low (idle 1 0 false false))
    ∷ []

-- "Hold"
unfoldable pub of_hold : List Example
of_hold =
    -- moves of SCK are not seen: a bit in hold is none; SI is followed, and the last bit is taken as it then stands
    writes 1 0
    (wren ++ begins (0x02 ∷ 0x00 ∷ []) ++ clocks 4 0x54 ++ 6 ∷ 5 ∷ 3 ∷ 2 ∷ 7 ∷ clocks 4 0x40 ++ 1 ∷ [])
    (Latch true ∷ Stored 0x000 0x54 ∷ Latch false ∷ [])
    (idle 1 0 false false)
    ∷ writes 1 0 (0 ∷ clocks 7 0x06 ++ 6 ∷ 4 ∷ 7 ∷ 3 ∷ 2 ∷ 1 ∷ []) (Latch true ∷ []) (idle 1 0 true false)
    -- moves of /CS are not seen: none opens a select, none closes one
    ∷ writes 1 0 (6 ∷ 0 ∷ 1 ∷ 7 ∷ []) [] (at_rest 1 0 true)
    ∷ writes 1 0 (0 ∷ clocks 7 0x06 ++ 6 ∷ 1 ∷ 0 ∷ 7 ∷ 4 ∷ 3 ∷ 2 ∷ 1 ∷ []) (Latch true ∷ []) (idle 1 0 true false)
    -- "SO is released. When /HOLD rises, SO shows again what it showed before."
    ∷ accepts 3 0x80 (begins (0x05 ∷ []) ++ 6 ∷ 3 ∷ 2 ∷ []) [] [] (with_hold (with_si (shows (StatusOut Up 7)) true) LowCsLow)
    ∷ drives 1 (accepts 3 0x80 (begins (0x05 ∷ []) ++ 6 ∷ 3 ∷ 2 ∷ 7 ∷ []) [] [] (with_si (shows (StatusOut Up 7)) true))
    -- 14. "READ held after four data clocks, three pulses of SCK, released: the byte is whole."
    ∷ accepts 1 0
    (wren ++ transfer (0x02 ∷ 0x00 ∷ 0x54 ∷ []) ++ begins (0x03 ∷ 0x00 ∷ []) ++ clocks 4 0x00 ++ 6 ∷ 3 ∷ 2 ∷ 3 ∷ 2 ∷ 3 ∷ 2 ∷ 7 ∷ clocks 4 0x00 ++ 1 ∷ [])
    (Latch true ∷ Stored 0x000 0x54 ∷ Latch false ∷ [])
    (0x54 ∷ [])
    (idle 1 0 false false)
    -- 6, with a select or without, and only where /HOLD would move
    ∷ refuses (6 ∷ []) (writes 1 0 (3 ∷ 6 ∷ []) [] (with_sck (at_rest 1 0 true) true))
    ∷ refuses (6 ∷ []) (writes 1 0 (0 ∷ clocks 7 0x06 ++ 4 ∷ 3 ∷ 6 ∷ 2 ∷ 1 ∷ []) (Latch true ∷ []) (idle 1 0 true false))
    ∷ refuses (6 ∷ []) (writes 1 0 (6 ∷ 3 ∷ 7 ∷ 2 ∷ 7 ∷ []) [] (at_rest 1 0 true))
    ∷ writes 1 0 (3 ∷ 7 ∷ 2 ∷ 6 ∷ 3 ∷ 6 ∷ 2 ∷ 7 ∷ []) [] (at_rest 1 0 true)
    -- 7, from either level of /CS; /CS may come back; 6 before 7
    ∷ refuses (7 ∷ []) (writes 1 0 (6 ∷ 0 ∷ 7 ∷ []) [] (with_hold (at_rest 1 0 true) LowCsLow))
    ∷ refuses (7 ∷ []) (writes 1 0 (0 ∷ clocks 7 0x06 ++ 6 ∷ 1 ∷ 7 ∷ 0 ∷ 7 ∷ 4 ∷ 3 ∷ 2 ∷ 1 ∷ []) (Latch true ∷ []) (idle 1 0 true false))
    ∷ refuses (6 ∷ 7 ∷ []) (writes 1 0 (6 ∷ 0 ∷ 3 ∷ 7 ∷ 2 ∷ 7 ∷ 1 ∷ 7 ∷ []) [] (at_rest 1 0 true))
    ∷ []

unfoldable pub rules : List Example
rules = of_lines ++ of_codes ++ of_output ++ of_writing ++ of_guards ++ of_hold
