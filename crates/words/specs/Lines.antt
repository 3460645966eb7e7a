-- The lines of the story, each with the place in the trace of the item that it is about. Assumes nothing.
use Rattle.std.specs.Prelude.{ℕ, ◌-◌, Bool, true, false, cond, List, [], ◌++◌}
use Rattle.parts.specs.Commands.{command}
use Rattle.parts.specs.Figures.{figure_of}
use Rattle.parts.specs.declared.guards.Reason.{Reason}
use Rattle.select.specs.declared.notes.Note.{Note}
use Rattle.select.specs.declared.notes.Note.TheVariants.{Nothing, Latch, Stored, HeldBack, KeptSet, KeptHeldBack, PowerLost}
use Rattle.stages.specs.declared.bits.Taken.{Taken}
use Rattle.stages.specs.declared.bits.Taken.TheVariants.{Part, Whole}
use Rattle.report.specs.Text.{ascii, hex, decimal}
use Rattle.report.specs.declared.record.Record.{Record}
use Rattle.turns.specs.declared.stand.Stand.{Stand}
use Rattle.words.specs.Words.{address, reason_text, command_text, advice_text}

-- a line's beginning: the place, then words
unfoldable pub begun : ℕ → List ℕ → List ℕ
begun place words = decimal place ++ ascii ": " ++ words

-- a line of words alone
unfoldable pub said : ℕ → List ℕ → List ℕ
said place words = begun place words ++ ascii "\n"

-- "0: power-up of part 1, 512 bytes, kept bits 00"
unfoldable pub power_line : ℕ → ℕ → ℕ → List ℕ
power_line part size kept =
    begun 0 (ascii "power-up of part ") ++ decimal part ++ ascii ", " ++ decimal size ++ ascii " bytes, kept bits " ++ hex kept ++ ascii "\n"

-- "2: select 1"; "the next fall of /S wakes the chip and the rest of that select is ignored"
unfoldable pub open_line : ℕ → Stand → List ℕ
open_line place stand =
    begun place (ascii "select ") ++ decimal stand.selects
    ++ cond stand.told.ignored (ascii " wakes the part and is ignored\n") (ascii "\n")

-- "3: op-code 06 WREN": the op-code by its name on this part
unfoldable pub code_line : ℕ → ℕ → ℕ → List ℕ
code_line place part code =
    begun place (ascii "op-code ") ++ hex code ++ ascii " " ++ command_text (command (figure_of part).ops code) ++ ascii "\n"

-- "12: select 2 ends, clocks 24"
unfoldable pub close_line : ℕ → Stand → List ℕ
close_line place stand =
    begun place (ascii "select ") ++ decimal stand.selects ++ ascii " ends, clocks " ++ decimal stand.told.clocks ++ ascii "\n"

-- "9: stored A5 at 0010"
unfoldable pub stored_line : ℕ → ℕ → ℕ → List ℕ
stored_line place at byte = begun place (ascii "stored ") ++ hex byte ++ ascii " at " ++ address at ++ ascii "\n"

-- "15: held back at 0011: latch off"
unfoldable pub held_line : ℕ → ℕ → Reason → List ℕ
held_line place at reason = begun place (ascii "held back at ") ++ address at ++ ascii ": " ++ reason_text reason ++ ascii "\n"

-- "20: kept bits set to 0C"
unfoldable pub kept_line : ℕ → ℕ → List ℕ
kept_line place kept = begun place (ascii "kept bits set to ") ++ hex kept ++ ascii "\n"

-- "20: kept bits held back: /WP low"
unfoldable pub kept_held_line : ℕ → Reason → List ℕ
kept_held_line place reason = begun place (ascii "kept bits held back: ") ++ reason_text reason ++ ascii "\n"

-- "3: latch on"
unfoldable pub latch_line : ℕ → Bool → List ℕ
latch_line place true = said place (ascii "latch on")
latch_line place false = said place (ascii "latch off")

-- a line for each note that says something
unfoldable pub note_text : ℕ → Note → List ℕ
note_text place Nothing = []
note_text place (Latch on) = latch_line place on
note_text place (Stored at byte) = stored_line place at byte
note_text place (HeldBack at reason) = held_line place at reason
note_text place (KeptSet kept) = kept_line place kept
note_text place (KeptHeldBack reason) = kept_held_line place reason
note_text place PowerLost = said place (ascii "power lost")

-- "18: shown 02"
unfoldable pub byte_line : ℕ → ℕ → List ℕ
byte_line place byte = begun place (ascii "shown ") ++ hex byte ++ ascii "\n"

-- a byte of SO, where it is whole
unfoldable pub shown_text : ℕ → Taken → List ℕ
shown_text place (Part bits) = []
shown_text place (Whole byte) = byte_line place byte

-- "30: refused 6: /HOLD would move with SCK high; lower SCK first"
unfoldable pub refused_line : ℕ → ℕ → List ℕ
refused_line place row = begun place (ascii "refused ") ++ decimal row ++ advice_text row ++ ascii "\n"

-- a word, and how much a count grew
unfoldable pub grown_text : List ℕ → ℕ → ℕ → List ℕ
grown_text word before after = word ++ decimal (after - before)

-- a run of pulses in one line, by what its select's record had before it and after it
unfoldable pub run_line : ℕ → ℕ → Record → Record → List ℕ
run_line place pulses before after =
    begun place (ascii "run: pulses ") ++ decimal pulses
    ++ grown_text (ascii ", clocks ") before.clocks after.clocks
    ++ grown_text (ascii ", bytes stored ") before.stored after.stored
    ++ grown_text (ascii ", bytes shown ") before.shown after.shown
    ++ ascii "\n"

-- "end: select 3 is open, clocks 12"
unfoldable pub left_line : Stand → List ℕ
left_line stand =
    ascii "end: select " ++ decimal stand.selects ++ ascii " is open, clocks " ++ decimal stand.told.clocks ++ ascii "\n"

-- "end: kept bits 00, latch off"
unfoldable pub end_line : ℕ → Bool → List ℕ
end_line kept latch = ascii "end: kept bits " ++ hex kept ++ cond latch (ascii ", latch on\n") (ascii ", latch off\n")
