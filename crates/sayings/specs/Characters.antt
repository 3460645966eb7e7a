-- Characters: what each is for the parting of words, and as a digit. Assumes nothing.
use Rattle.std.specs.Prelude.{ℕ, ◌+◌, ◌-◌, Bool, cond, ◌&&◌, ◌||◌, List, [], ◌∷◌, Option, Some, None, eqb, leb, get_or}
use Prim.Native.Char.{code}
use Prim.Native.String.{String, [] as none, ◌∷◌ as ◌then◌}
use Rattle.sayings.specs.declared.chars.Kind.{Kind}
use Rattle.sayings.specs.declared.chars.Kind.TheVariants.{NewLine, Hash, Blank, Letter}

-- the bytes of a text
abbrev pub ascii : String → List ℕ
ascii none = []
ascii (c then more) = code c ∷ ascii more

-- a text of one character, as that character
abbrev pub char : String → ℕ
char s = get_or (ascii s) 0 0

-- "`#` begins a comment"; "words are parted by spaces and tabs (a carriage return counts as a space)"
unfoldable pub kind_of : ℕ → Kind
kind_of c =
    cond (eqb c (char "\n")) NewLine
    (cond (eqb c (char "#")) Hash
    (cond (eqb c (char " ") || eqb c (char "\t") || eqb c (char "\r")) Blank
    Letter))

-- a character of those from `first` to `last`
abbrev pub within : ℕ → ℕ → ℕ → Bool
within first last c = leb first c && leb c last

-- the value of a hex digit, and none of any other character
unfoldable pub digit_of : ℕ → Option ℕ
digit_of c =
    cond (within (char "0") (char "9") c) (Some (c - char "0"))
    (cond (within (char "A") (char "F") c) (Some (c - char "A" + 10))
    (cond (within (char "a") (char "f") c) (Some (c - char "a" + 10))
    None))
