-- Text in ASCII, and numbers. Assumes nothing.
use Rattle.std.specs.Prelude.{ℕ, zero, suc, ◌+◌, ◌/◌, ◌%◌, cond, List, [], ◌∷◌, ◌++◌, ltb, get_or}
use Prim.Native.Char.{code}
use Prim.Native.String.{String, [] as none, ◌∷◌ as ◌then◌}

-- the most bytes of a line
abbrev pub line_room : ℕ
line_room = 256

-- the bytes of a text
abbrev pub ascii : String → List ℕ
ascii none = []
ascii (c then more) = code c ∷ ascii more

-- "capital digits"
unfoldable pub capitals : List ℕ
capitals = ascii "0123456789ABCDEF"

-- "Hex is two capital digits a byte"
unfoldable pub hex : ℕ → List ℕ
hex byte = get_or capitals (byte / 16) 0 ∷ get_or capitals (byte % 16) 0 ∷ []

-- "with no spaces between bytes"
abbrev pub hexes : List ℕ → List ℕ
hexes [] = []
hexes (b ∷ bs) = hex b ++ hexes bs

-- the digits of n, of `most` at most, with no 0 in front
abbrev pub decimal_in : ℕ → ℕ → List ℕ
decimal_in zero n = []
decimal_in (suc most) n =
    cond (ltb n 10) ((48 + n) ∷ []) (decimal_in most (n / 10) ++ ((48 + n % 10) ∷ []))

-- no number here has more digits
abbrev pub most_digits : ℕ
most_digits = 20

-- "other numbers are decimal"
unfoldable pub decimal : ℕ → List ℕ
decimal n = decimal_in most_digits n
