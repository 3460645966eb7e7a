-- Words as names, bytes and numbers. Assumes nothing.
use Rattle.std.specs.Prelude.{ℕ, ◌+◌, ◌*◌, Bool, cond, ◌&&◌, ◌||◌, List, [], ◌∷◌, Option, Some, None, nat_eq, eqb, leb, ltb, length, get_or}
use Rattle.std.specs.Char.{to_ascii_lowercase}
use Rattle.std.specs.List.{list_all, zip}
use Rattle.std.specs.Option.{option_and_then}
use Rattle.trace.specs.Figures.{largest}
use Rattle.sayings.specs.Characters.{char, digit_of}

-- a word is a name, "upper and lower case alike"; a name has small letters
unfoldable pub named : List ℕ → List ℕ → Bool
named w name = nat_eq (length w) (length name) && list_all (λ p. nat_eq (to_ascii_lowercase p.0) p.1) (zip w name)

-- the number that two hex digits say
abbrev pub two_digits : Option ℕ → Option ℕ → Option ℕ
two_digits (Some high) (Some low) = Some (high * 16 + low)
two_digits (Some high) None = None
two_digits None low = None

-- "two hex digits"
unfoldable pub byte_of : List ℕ → Option ℕ
byte_of w = cond (eqb (length w) 2) (two_digits (digit_of (get_or w 0 0)) (digit_of (get_or w 1 0))) None

-- the number that n and one more decimal digit say, where it is a trace number still
abbrev pub longer : ℕ → Option ℕ → Option ℕ
longer n (Some d) = cond (ltb d 10 && leb (n * 10 + d) largest) (Some (n * 10 + d)) None
longer n None = None

-- decimal digits after those that say n
abbrev pub digits_after : ℕ → List ℕ → Option ℕ
digits_after n [] = Some n
digits_after n (c ∷ cs) = option_and_then (λ m. digits_after m cs) (longer n (digit_of c))

-- a word of decimal digits that is a trace number
unfoldable pub number_of : List ℕ → Option ℕ
number_of w = digits_after 0 w

-- "bits, each 0 or 1"
abbrev pub is_bit : ℕ → Bool
is_bit c = eqb c (char "0") || eqb c (char "1")

-- a word of bits
unfoldable pub all_bits : List ℕ → Bool
all_bits w = list_all is_bit w
