-- How a number is spelt in bytes. Assumes nothing.
--
-- "A trace is numbers in groups of seven bits, low group first, the top bit set on every byte but a number's last.
--  .. shortest form only". "Numbers go up to 268,435,455, in at most four bytes" (document 02, Wish 7).
use Rattle.std.specs.Prelude.{ℕ, zero, suc, ◌+◌, ◌*◌, ◌/◌, ◌%◌, Bool, true, cond, ◌&&◌, ◌||◌, List, [], ◌∷◌, leb, ltb, eqb, length, drop, Option, Some, None}
use Rattle.trace.specs.declared.number.Whole.{Whole}

-- "the top bit set": a byte that is not its number's last
abbrev pub goes_on : ℕ → Bool
goes_on b = leb 128 b

-- the bytes of the number that a list begins with: "the top bit set on every byte but a number's last"
abbrev pub bytes : List ℕ → List ℕ
bytes [] = []
bytes (b ∷ bs) = b ∷ cond (goes_on b) (bytes bs) []

-- "groups of seven bits, low group first"
abbrev pub value : List ℕ → ℕ
value [] = 0
value (b ∷ bs) = b % 128 + 128 * value bs

-- "cut off": no byte is its number's last
abbrev pub cut_off : List ℕ → Bool
cut_off [] = true
cut_off (b ∷ bs) = goes_on b && cut_off bs

-- "over four bytes", for a number of bytes that stands in Figures
abbrev pub too_many : ℕ → List ℕ → Bool
too_many most bs = ltb most (length bs)

abbrev pub last : List ℕ → ℕ
last [] = 0
last (b ∷ []) = b
last (b ∷ c ∷ bs) = last (c ∷ bs)

-- "not shortest": the last of several groups is 0, and the value is the same without it
abbrev pub not_shortest : List ℕ → Bool
not_shortest bs = ltb 1 (length bs) && eqb (last bs) 0

-- 8 "trace number cut off, over two bytes, or not shortest"; "8 now speaks of over four bytes"
abbrev pub misshapen : ℕ → List ℕ → Bool
misshapen most bs = cut_off bs || (too_many most bs || not_shortest bs)

-- the groups of n: its low group with the top bit set, and then the others, where one group does not hold it. The first number bounds the recursion.
abbrev pub spelt : ℕ → ℕ → List ℕ
spelt zero n = n ∷ []
spelt (suc k) n = let more = (128 + n % 128) ∷ spelt k (n / 128) in cond (ltb n 128) (n ∷ []) more

-- "shortest form only": the one form of n
unfoldable pub form : ℕ → List ℕ
form n = spelt n n

-- what `scan` finds: the number that begins at a place, in a given number of groups at most; None where it is misshapen
abbrev pub whole : ℕ → ℕ → Whole
whole n next = record { value = n; next = next }

abbrev pub shape : ℕ → List ℕ → ℕ → Option Whole
shape room bs at = cond (misshapen room bs) None (Some (whole (value bs) (at + length bs)))

unfoldable pub scanned : List ℕ → ℕ → ℕ → Option Whole
scanned s at room = shape room (bytes (drop at s)) at
