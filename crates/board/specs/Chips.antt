-- "The rank's board has up to eight chips on one SCK, SI, SO, /WP and VDD, each with its own /CS and /HOLD. Add a layer for
-- it, all arrays in one lent slice in chip order." "On the board the serials lie in one more lent slice, eight bytes for each
-- part 5 chip in chip order" (document 02, Wish 8). Assumes nothing.
use Rattle.std.specs.Prelude.{ℕ, ◌+◌, List, [], ◌∷◌, ◌++◌, take, drop}
use Rattle.parts.specs.Figures.{figure_of}
use Rattle.pins.specs.declared.state.State.{State}
use Rattle.chip.specs.Run.{Chip}
use Rattle.board.specs.declared.chips.Board.{Board}

-- the chips that are there; the places behind them mean nothing
abbrev pub fitted : Board → List State
fitted b = take b.count b.chips

-- how long a chip's piece of the slice is
abbrev pub piece_length : ℕ → ℕ
piece_length part = (figure_of part).size

-- and how long its piece of the serials: no byte, where its part has no serial number
abbrev pub serial_length : ℕ → ℕ
serial_length part = (figure_of part).serial

-- a length of each, together
unfoldable pub sum : {A : Type 0} → (A → ℕ) → List A → ℕ
sum f [] = 0
sum f (a ∷ more) = f a + sum f more

-- "all pieces together"
abbrev pub together : List State → ℕ
together ss = sum (λ s. piece_length s.part) ss

-- "eight bytes for each part 5 chip"
abbrev pub serials_together : List State → ℕ
serials_together ss = sum (λ s. serial_length s.part) ss

-- each chip with its piece of the slice and its piece of the serials, both in chip order
unfoldable pub pieces : List State → List ℕ → List ℕ → List Chip
pieces [] xs serials = []
pieces (s ∷ ss) xs serials =
    record { state = s; array = take (piece_length s.part) xs; serial = take (serial_length s.part) serials }
    ∷ pieces ss (drop (piece_length s.part) xs) (drop (serial_length s.part) serials)

abbrev pub chips_of : Board → List ℕ → List ℕ → List Chip
chips_of b xs serials = pieces (fitted b) xs serials

-- and back: the states, and the slice. The serials stay.
unfoldable pub states : List Chip → List State
states [] = []
states (c ∷ cs) = c.state ∷ states cs

unfoldable pub slice : List Chip → List ℕ
slice [] = []
slice (c ∷ cs) = c.array ++ slice cs

-- the board with these chips in the places of those that were there
abbrev pub with_chips : Board → List Chip → Board
with_chips b cs = record { count = b.count; chips = states cs ++ drop b.count b.chips }
