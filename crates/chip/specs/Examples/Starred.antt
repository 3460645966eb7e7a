-- Document 01's starred examples, over the fresh array of document 02's Wish 6. Assumes nothing.
use Rattle.std.specs.Prelude.{true, false, List, [], ◌∷◌, ◌++◌}
use Rattle.parts.specs.declared.guards.Reason.TheVariants.{LatchOff, Protect, Block}
use Rattle.select.specs.declared.notes.Note.TheVariants.{Latch, Stored, HeldBack, KeptSet, KeptHeldBack, PowerLost}
use Rattle.pins.specs.Levels.{at_rest}
use Rattle.chip.specs.Examples.Run.{Example, accepts, writes, idle, wp_low, begins, transfer, clocks, wren}

-- "Array 00 and part 1 unless said; each transfer is one select.", but for the 00: "the fresh array is now FF, in replay and
-- document 01's examples too" (document 02, Wish 6)
unfoldable pub starred : List Example
starred =
    -- 1. "Kept 0Ch, RDSR: 0C."
    accepts 1 0x0C (transfer (0x05 ∷ 0 ∷ [])) [] (0x0C ∷ []) (idle 1 0x0C false false)
    -- 2. "WREN, then RDSR: 02."
    ∷ accepts 1 0 (wren ++ transfer (0x05 ∷ 0 ∷ [])) (Latch true ∷ []) (0x02 ∷ []) (idle 1 0 true false)
    -- 3. "WRITE 02 00 55, no WREN: held back at 000, reason 1."
    ∷ writes 1 0 (transfer (0x02 ∷ 0x00 ∷ 0x55 ∷ [])) (HeldBack 0x000 LatchOff ∷ []) (idle 1 0 false true)
    -- 4. "WREN; 0A FF 11 22: 1FFh = 11, 000h = 22."
    ∷ writes 1 0
    (wren ++ transfer (0x0A ∷ 0xFF ∷ 0x11 ∷ 0x22 ∷ []))
    (Latch true ∷ Stored 0x1FF 0x11 ∷ Stored 0x000 0x22 ∷ Latch false ∷ [])
    (idle 1 0 false false)
    -- 5. "WREN; 02 10 and seven clocks of A5: nothing stored, latch still set after the rise of /CS.": 010h is FF still
    ∷ writes 1 0 (wren ++ begins (0x02 ∷ 0x10 ∷ []) ++ clocks 7 0xA5 ++ (1 ∷ [])) (Latch true ∷ []) (idle 1 0 true false)
    -- 6. "WREN; 02 10 A5; 02 11 5A: 010h = A5, 011h held back, reason 1."
    ∷ writes 1 0
    (wren ++ transfer (0x02 ∷ 0x10 ∷ 0xA5 ∷ []) ++ transfer (0x02 ∷ 0x11 ∷ 0x5A ∷ []))
    (Latch true ∷ Stored 0x010 0xA5 ∷ Latch false ∷ HeldBack 0x011 LatchOff ∷ [])
    (idle 1 0 false false)
    -- 7. "Kept 04h; WREN; 0A 7F 11 22: 17Fh = 11, 180h held back, reason 3."
    ∷ writes 1 0x04
    (wren ++ transfer (0x0A ∷ 0x7F ∷ 0x11 ∷ 0x22 ∷ []))
    (Latch true ∷ Stored 0x17F 0x11 ∷ HeldBack 0x180 Block ∷ Latch false ∷ [])
    (idle 1 0x04 false false)
    -- 8. "/WP low; WREN; 02 00 55: reason 2."
    ∷ writes 1 0
    (8 ∷ wren ++ transfer (0x02 ∷ 0x00 ∷ 0x55 ∷ []))
    (Latch true ∷ HeldBack 0x000 Protect ∷ Latch false ∷ [])
    (wp_low (idle 1 0 false true))
    -- 9. "Part 3: WREN; 02 FF FF 33: 7FFh = 33."
    ∷ writes 3 0
    (wren ++ transfer (0x02 ∷ 0xFF ∷ 0xFF ∷ 0x33 ∷ []))
    (Latch true ∷ Stored 0x7FF 0x33 ∷ Latch false ∷ [])
    (idle 3 0 false true)
    -- 10. "Part 3, kept 80h, /WP low: WREN; 01 0C: reason 2, kept 80h, latch drops."
    ∷ writes 3 0x80
    (8 ∷ wren ++ transfer (0x01 ∷ 0x0C ∷ []))
    (Latch true ∷ KeptHeldBack Protect ∷ Latch false ∷ [])
    (wp_low (idle 3 0x80 false false))
    -- 11. "WREN; 01 FF: kept 0Ch; on part 3, 8Ch."
    ∷ writes 1 0 (wren ++ transfer (0x01 ∷ 0xFF ∷ [])) (Latch true ∷ KeptSet 0x0C ∷ Latch false ∷ []) (idle 1 0x0C false true)
    ∷ writes 3 0 (wren ++ transfer (0x01 ∷ 0xFF ∷ [])) (Latch true ∷ KeptSet 0x8C ∷ Latch false ∷ []) (idle 3 0x8C false true)
    -- 12. "WREN; 02 20 11 22 and four clocks of 33, then event 10: 020h = 11, 021h = 22, 022h = 00, latch off after 11.", but
    -- "example 12's 022h becomes FF"
    ∷ writes 1 0
    (wren ++ begins (0x02 ∷ 0x20 ∷ 0x11 ∷ 0x22 ∷ []) ++ clocks 4 0x33 ++ (10 ∷ 11 ∷ []))
    (Latch true ∷ Stored 0x020 0x11 ∷ Stored 0x021 0x22 ∷ PowerLost ∷ [])
    (at_rest 1 0 true)
    ∷ []
