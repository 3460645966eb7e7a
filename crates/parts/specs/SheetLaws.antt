-- The protected ranges as the sheets print them: the rule is held against the papers, not only against itself. Assumes nothing.
use Rattle.std.specs.Prelude.{ℕ, ◌≡◌, refl, List, [], ◌∷◌, map}
use Rattle.parts.specs.Figures.{rows}
use Rattle.parts.specs.Guards.{first_protected}
use Rattle.parts.specs.declared.figures.Figure.{Figure}

-- where the range of a status byte of 00h, 04h, 08h and 0Ch begins: BP1 and BP0 are 00, 01, 10 and 11
abbrev begins : Figure → List ℕ
begins f = first_protected f 0x00 ∷ first_protected f 0x04 ∷ first_protected f 0x08 ∷ first_protected f 0x0C ∷ []

-- "Table 3. Block Memory Write Protection" of each part's sheet. "None" begins at the size, where no address is. A new part has its line here.
abbrev printed : List (List ℕ)
printed =
    -- 000: "None", "180h to 1FFh (upper ¼)", "100h to 1FFh (upper ½)", "000h to 1FFh (all)"
    (0x200 ∷ 0x180 ∷ 0x100 ∷ 0x000 ∷ [])
    -- 002: "None", "180h to 1Fh (upper ¼)", "100h to 1Fh (upper ½)", "000h to 1Fh (all)"; 1Fh is a slip for 1FFh, the part has 512 bytes
    ∷ (0x200 ∷ 0x180 ∷ 0x100 ∷ 0x000 ∷ [])
    -- 003: "None", "600h to 7FFh (upper ¼)", "400h to 7FFh (upper ½)", "000h to 7FFh (all)"
    ∷ (0x800 ∷ 0x600 ∷ 0x400 ∷ 0x000 ∷ [])
    -- 004: "None", "3000h to 3FFFh (upper ¼)", "2000h to 3FFFh (upper ½)", "0000h to 3FFFh (all)"
    ∷ (0x4000 ∷ 0x3000 ∷ 0x2000 ∷ 0x0000 ∷ [])
    -- 004 again: one sheet for parts 4 and 5
    ∷ (0x4000 ∷ 0x3000 ∷ 0x2000 ∷ 0x0000 ∷ [])
    ∷ []

pub as_printed : map begins rows ≡ printed
unfolding first_protected
as_printed = refl
