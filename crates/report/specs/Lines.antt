-- The lines of the report (document 01, "The replay program"). Assumes nothing.
use Rattle.std.specs.Prelude.{ℕ, Bool, cond, ◌||◌, List, ◌++◌, eqb, leb, ltb, take}
use Rattle.report.specs.Text.{ascii, hex, hexes, decimal}
use Rattle.report.specs.Record.{code_clocks, most_shown}
use Rattle.report.specs.declared.record.Record.{Record}

-- "op-code in hex, or "--" under eight clocks"; "the rest of that select is ignored (op "--" in replay)" (document 02, Wish 3)
unfoldable pub code_text : Bool → ℕ → ℕ → List ℕ
code_text ignored clocks code = cond (ignored || ltb clocks code_clocks) (ascii "--") (hex code)

-- "whole bytes of SO .. in hex, or "-", at most the first 64 and then "+" if there are more". The list has the first
-- of them, `whole` is how many there were.
unfoldable pub shown_text : List ℕ → ℕ → List ℕ
shown_text firsts whole =
    cond (eqb whole 0) (ascii "-")
    (cond (leb whole most_shown) (hexes (take whole firsts))
    (hexes firsts ++ ascii "+"))

-- "other numbers are decimal": a word and its number
abbrev pub numbered : List ℕ → ℕ → List ℕ
numbered word n = word ++ decimal n

-- "part 1 bytes 512 kept 00"
unfoldable pub part_line : ℕ → ℕ → ℕ → List ℕ
part_line part size kept =
    numbered (ascii "part ") part ++ numbered (ascii " bytes ") size ++ ascii " kept " ++ hex kept ++ ascii "\n"

-- "op-code ..; seen rises; stored notes"
unfoldable pub counts_text : Record → List ℕ
counts_text told =
    ascii " op " ++ code_text told.ignored told.clocks told.code
    ++ numbered (ascii " clocks ") told.clocks
    ++ numbered (ascii " stored ") told.stored

-- "sel 1 so - op 06 clocks 8 stored 0": "its number; whole bytes of SO ..", and those
unfoldable pub select_line : ℕ → Record → List ℕ → List ℕ
select_line number told firsts =
    numbered (ascii "sel ") number ++ ascii " so " ++ shown_text firsts told.shown ++ counts_text told ++ ascii "\n"

-- "end kept 00 latch 1 refused 0"
unfoldable pub end_line : ℕ → Bool → ℕ → List ℕ
end_line kept latch refusal =
    ascii "end kept " ++ hex kept ++ numbered (ascii " latch ") (cond latch 1 0)
    ++ numbered (ascii " refused ") refusal ++ ascii "\n"
