-- Texts and what they spell, worked out by hand from the language's rules and from document 01's "Trace numbers": a byte b
-- is item b + 12, and byte A5h, item 177, is B1h 01h. Each is computed from the definitions. Assumes nothing.
use Rattle.std.specs.Prelude.{Bool, true, false, ◌&&◌, List, [], ◌∷◌, ℕ, T, eqb}
use Prim.Native.String.{String}
use Rattle.sayings.specs.Characters.{ascii, kind_of, digit_of}
use Rattle.sayings.specs.Says.{pin_of, said_verb, said_any, said_name, said_part, said_kept, said_level, pulses_of, said_idle, said_held, said_bits, said_item, said_word, said_end}
use Rattle.sayings.specs.Words.{named, byte_of, number_of, all_bits}
use Rattle.sayings.specs.declared.says.Next.{Next}
use Rattle.sayings.specs.declared.says.Next.TheVariants as next
use Rattle.trace.specs.Form.{form}
use Rattle.spelling.specs.Items.{forms}
use Rattle.spelling.specs.Meaning.{Meaning, names, wrong, full, long, ready, stepped, meaning}
use Rattle.spelling.specs.Spelt.{place_at, spelt}

abbrev same : List ℕ → List ℕ → Bool
same [] [] = true
same [] (y ∷ ys) = false
same (x ∷ xs) [] = false
same (x ∷ xs) (y ∷ ys) = eqb x y && same xs ys

abbrev all : List Bool → Bool
all [] = true
all (b ∷ bs) = b && all bs

-- the bytes that a text spells
abbrev bytes_are : List ℕ → Meaning → Bool
bytes_are bs (names items) = same (forms items) bs
bytes_are bs (wrong i n) = false
bytes_are bs (full i) = false
bytes_are bs long = false

-- what may stand next, as a number
abbrev number_of_next : Next → ℕ
number_of_next next.Part = 0
number_of_next next.PartNumber = 1
number_of_next next.Kept = 2
number_of_next next.KeptByte = 3
number_of_next next.LineEnd = 4
number_of_next next.Word = 5
number_of_next (next.Level pin) = 6
number_of_next next.Idle = 7
number_of_next next.Held = 8
number_of_next next.Bits = 9
number_of_next next.Item = 10

-- where a text is wrong, and what was expected there
abbrev wrong_at : List ℕ → ℕ → ℕ → Next → Meaning → Bool
wrong_at text line column n (names items) = false
wrong_at text line column n (wrong i m) =
    eqb (place_at text i).line line && eqb (place_at text i).column column && eqb (number_of_next m) (number_of_next n)
wrong_at text line column n (full i) = false
wrong_at text line column n long = false

abbrev spells : String → List ℕ → Bool
spells text bs = bytes_are bs (spelt (ascii text))

abbrev fails : String → ℕ → ℕ → Next → Bool
fails text line column n = wrong_at (ascii text) line column n (spelt (ascii text))

-- order 4471: WREN; WRITE A5h at 010h; WRITE 5Ah at 011h. A select is a fall of /CS, 0, its bytes, and a rise, 1.
abbrev order4471 : Bool
order4471 =
    spells "part 1 kept 00\n06\n02 10 A5\n02 11 5A\n" (1 ∷ 0 ∷ 0 ∷ 18 ∷ 1 ∷ 0 ∷ 14 ∷ 28 ∷ 177 ∷ 1 ∷ 1 ∷ 0 ∷ 14 ∷ 29 ∷ 102 ∷ 1 ∷ [])

abbrev good : List Bool
good =
    order4471
    -- the kept bits may be left out, and the last line's end too
    ∷ spells "part 3" (3 ∷ 0 ∷ [])
    ∷ spells "part 267 kept 8C" (139 ∷ 2 ∷ 140 ∷ 1 ∷ [])
    -- a cut in the middle of a byte of a WRITE: 0, 1 and the cut, 10; the line's end comes after it
    ∷ spells "part 1\n02 20 bits 01 cut\n" (1 ∷ 0 ∷ 0 ∷ 14 ∷ 44 ∷ 4 ∷ 3 ∷ 2 ∷ 5 ∷ 3 ∷ 2 ∷ 10 ∷ 1 ∷ [])
    -- two pulses in hold are item 269, 8Dh 02h, between 6 and 7
    ∷ spells "part 1\nheld 2" (1 ∷ 0 ∷ 6 ∷ 141 ∷ 2 ∷ 7 ∷ [])
    -- "300: 33 pulses": ACh 02h
    ∷ spells "part 1\nidle 33" (1 ∷ 0 ∷ 172 ∷ 2 ∷ [])
    -- lower case is as upper case, in digits and words
    ∷ spells "PART 1 Kept 0c\nfF CS Low" (1 ∷ 12 ∷ 0 ∷ 139 ∷ 2 ∷ 0 ∷ 1 ∷ [])
    -- a comment ends what its line says, and a word; a line of comment alone says nothing
    ∷ spells "# 06\npart 1# kept 0C\n\n06# 05\n# 05\n\t\r 05" (1 ∷ 0 ∷ 0 ∷ 18 ∷ 1 ∷ 0 ∷ 17 ∷ 1 ∷ [])
    -- pins do not open the line's select
    ∷ spells "part 1\nwp low\nhold high vdd high" (1 ∷ 0 ∷ 8 ∷ 7 ∷ 11 ∷ [])
    ∷ spells "part 1\ncut power\nitem 267 item 268435455" (1 ∷ 0 ∷ 10 ∷ 11 ∷ 139 ∷ 2 ∷ 255 ∷ 255 ∷ 255 ∷ 127 ∷ [])
    ∷ []

abbrev bad : List Bool
bad =
    -- the first line
    fails "" 1 1 next.Part
    ∷ fails "# no part\n\n" 3 1 next.Part
    ∷ fails "06" 1 1 next.Part
    ∷ fails "part" 1 5 next.PartNumber
    ∷ fails "part 268" 1 6 next.PartNumber
    ∷ fails "part 0x1" 1 6 next.PartNumber
    ∷ fails "part 1 0C" 1 8 next.Kept
    ∷ fails "part 1 kept # 00" 1 13 next.KeptByte
    ∷ fails "part 1 kept 100" 1 13 next.KeptByte
    ∷ fails "part 1 kept 00 06" 1 16 next.LineEnd
    -- the others
    ∷ fails "part 1\n06\n02 10 A55" 3 7 next.Word
    ∷ fails "part 1\n\t6" 2 2 next.Word
    ∷ fails "part 1\ncs" 2 3 (next.Level 0)
    ∷ fails "part 1\ncs 0" 2 4 (next.Level 0)
    ∷ fails "part 1\nidle 0" 2 6 next.Idle
    ∷ fails "part 1\nidle 268435189" 2 6 next.Idle
    ∷ fails "part 1\nheld x" 2 6 next.Held
    ∷ fails "part 1\nbits 012" 2 6 next.Bits
    ∷ fails "part 1\nitem 268435456" 2 6 next.Item
    ∷ []

examples : T (all good && all bad)
unfolding spelt meaning place_at stepped ready form kind_of digit_of named byte_of number_of all_bits pin_of said_verb said_any said_name said_part said_kept said_level pulses_of said_idle said_held said_bits said_item said_word said_end
examples = tt
