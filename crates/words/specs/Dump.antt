-- The array at the end: rows of 16 bytes, without the rows that are fresh, FF. Assumes nothing.
use Rattle.std.specs.Prelude.{ℕ, zero, suc, ◌+◌, ◌*◌, ◌/◌, Bool, cond, List, [], ◌∷◌, ◌++◌, eqb, length, take, drop}
use Rattle.std.specs.List.{list_all}
use Rattle.supply.specs.Power.{fresh}
use Rattle.report.specs.Text.{ascii, hex}
use Rattle.words.specs.Words.{address}

abbrev pub row_bytes : ℕ
row_bytes = 16

-- every byte is that of a fresh array
unfoldable pub all_fresh : List ℕ → Bool
all_fresh bytes = list_all (λ b. eqb b fresh) bytes

-- bytes in hex, a space before each
unfoldable pub spaced_byte : ℕ → List ℕ
spaced_byte b = ascii " " ++ hex b

unfoldable pub spaced : List ℕ → List ℕ
spaced [] = []
spaced (b ∷ bs) = spaced_byte b ++ spaced bs

-- "0010: A5 FF .."; nothing for a fresh row
unfoldable pub row_text : ℕ → List ℕ → List ℕ
row_text at row = cond (all_fresh row) [] (address at ++ ascii ":" ++ spaced row ++ ascii "\n")

-- so many rows from row i on
unfoldable pub rows_text : List ℕ → ℕ → ℕ → List ℕ
rows_text xs zero i = []
rows_text xs (suc left) i = row_text (i * row_bytes) (take row_bytes (drop (i * row_bytes) xs)) ++ rows_text xs left (i + 1)

-- all rows; every part's array is whole rows
unfoldable pub array_text : List ℕ → List ℕ
array_text xs =
    cond (all_fresh xs) (ascii "array: all FF\n") (ascii "array, where it is not FF:\n" ++ rows_text xs (length xs / row_bytes) 0)
