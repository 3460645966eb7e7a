-- Part 5, the FM25VN01 (document 02, Wish 8; source document 004): its serial number, told from the ways in which the words could
-- be misread, and that all else is part 4's. Worked out from the documents by hand, over an array of FF. Assumes nothing.
use Rattle.std.specs.Prelude.{ℕ, true, false, List, [], ◌∷◌, ◌++◌}
use Rattle.trace.specs.Items.{clocked}
use Rattle.parts.specs.declared.guards.Reason.TheVariants.{Protect, Block}
use Rattle.stages.specs.declared.stage.End.TheVariants.{Quiet}
use Rattle.stages.specs.declared.stage.Line.TheVariants.{Down}
use Rattle.stages.specs.declared.stage.Stage.{Stage}
use Rattle.stages.specs.declared.stage.Stage.TheVariants.{SerialOut, Over}
use Rattle.select.specs.declared.notes.Note.TheVariants.{Latch, Stored, HeldBack, KeptSet, KeptHeldBack, PowerLost}
use Rattle.pins.specs.Edges.{with_sck, with_si, with_stage}
use Rattle.pins.specs.Levels.{at_rest}
use Rattle.pins.specs.declared.state.State.{State}
use Rattle.chip.specs.Examples.Run.{Example, accepts, writes, idle, begins, transfer, clocks, wren, own_serial}
use Rattle.worked.specs.Examples.Rules.{drives, two, status, low, rdsr, rolls}

-- SNR up to the last of its 64 bits, but for that bit's clock
abbrev sixty_three : List ℕ
sixty_three = begins (0xC3 ∷ 0 ∷ 0 ∷ 0 ∷ 0 ∷ 0 ∷ 0 ∷ 0 ∷ []) ++ clocks 7 0

-- SNR of one byte
abbrev snr : List ℕ
snr = transfer (0xC3 ∷ 0 ∷ [])

-- an open select with SI low
abbrev opened : Stage → State
opened stage = with_stage (at_rest 5 0 true) false stage

-- kept 04h: C3h, then RDSR
abbrev unnumbered : ℕ → Example
unnumbered part = accepts part 0x04 (snr ++ rdsr) [] (0x04 ∷ []) (idle part 0x04 false false)

unfoldable pub of_serial : List Example
of_serial =
    -- "C3h showing a serial number of eight bytes, then releasing SO": each byte once, the first lent one first, bit 7 of it first;
    -- SO is driven from the op-code's last fall on, and released at the fall after the last bit's rise, for good
    drives 0 (accepts 5 0 (begins (0xC3 ∷ [])) [] [] (with_si (opened (SerialOut Down 7 0)) true))
    ∷ drives 0 (accepts 5 0 (sixty_three ++ 3 ∷ []) [] own_serial (with_sck (opened (SerialOut Down 0 7)) true))
    ∷ accepts 5 0 (sixty_three ++ 3 ∷ 2 ∷ []) [] own_serial (opened (Over Quiet))
    ∷ accepts 5 0 (sixty_three ++ clocks 2 0 ++ 1 ∷ []) [] own_serial (idle 5 0 false false)
    -- each select begins with the first byte; a cut ends the showing
    ∷ accepts 5 0 (snr ++ transfer (0xC3 ∷ 0 ∷ 0 ∷ [])) [] (0x12 ∷ 0x12 ∷ 0x34 ∷ []) (idle 5 0 false false)
    ∷ accepts 5 0 (begins (0xC3 ∷ 0 ∷ []) ++ 10 ∷ 11 ∷ snr) (PowerLost ∷ []) (0x12 ∷ 0x12 ∷ []) (idle 5 0 false false)
    -- "later bits that no rule names do nothing"; the latch and the kept bits stay
    ∷ accepts 5 0x04 (wren ++ transfer (0xC3 ∷ 0x04 ∷ 0x04 ∷ []) ++ rdsr) (Latch true ∷ []) (0x12 ∷ 0x34 ∷ 0x06 ∷ []) (idle 5 0x04 true false)
    -- clocks in hold are not seen, and SO shows again what it showed
    ∷ accepts 5 0 (begins (0xC3 ∷ []) ++ clocks 4 0 ++ 6 ∷ 3 ∷ 2 ∷ 3 ∷ 2 ∷ 7 ∷ clocks 4 0 ++ 1 ∷ []) [] (0x12 ∷ []) (idle 5 0 false false)
    -- no other part has it
    ∷ unnumbered 1 ∷ unnumbered 3 ∷ unnumbered 4
    ∷ []

-- "This part is part 4 with ..": FSTRD with its dummy byte and the roll, RDID, the protected ranges, /W at the fall of /S, sleep
unfoldable pub of_like4 : List Example
of_like4 =
    rolls 5 (0x02 ∷ 0xFF ∷ 0xFF ∷ []) (0x0B ∷ 0x7F ∷ 0xFF ∷ 0xA5 ∷ []) 0x3FFF
    ∷ accepts 5 0 (transfer (0x9F ∷ 0 ∷ 0 ∷ 0 ∷ 0 ∷ 0 ∷ 0 ∷ 0 ∷ 0 ∷ 0 ∷ [])) []
    (0x7F ∷ 0x7F ∷ 0x7F ∷ 0x7F ∷ 0x7F ∷ 0x7F ∷ 0xC2 ∷ 0x21 ∷ 0x00 ∷ []) (idle 5 0 false false)
    ∷ two 5 0x04 (0x02 ∷ 0x2F ∷ 0xFF ∷ []) (Stored 0x2FFF 0x11) (HeldBack 0x3000 Block)
    ∷ low (two 5 0x80 (0x02 ∷ 0x3F ∷ 0xFF ∷ []) (Stored 0x3FFF 0x11) (Stored 0x0000 0x22))
    ∷ low (status 5 0 0xFE (KeptSet 0x8C) 0x8C)
    ∷ writes 5 0x80 (wren ++ 8 ∷ 0 ∷ 9 ∷ clocked 0x01 ++ clocked 0x0C ++ 1 ∷ []) (Latch true ∷ KeptHeldBack Protect ∷ Latch false ∷ [])
    (idle 5 0x80 false false)
    -- SNR in the waking select shows nothing
    ∷ accepts 5 0 (transfer (0xB9 ∷ []) ++ snr ++ snr) [] (0x12 ∷ []) (idle 5 0 false false)
    ∷ []

unfoldable pub part5 : List Example
part5 = of_serial ++ of_like4
