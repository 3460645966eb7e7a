-- The board's run over a list of events: the board threaded, the slice as each event left it. Assumes nothing.
use Rattle.std.specs.Prelude.{ℕ, zero, suc, Bool, cond, not, ◌||◌, List, [], ◌∷◌, eqb, take, drop, Option}
use Rattle.refusals.specs.declared.refusal.Refusal.{Refusal}
use Rattle.chip.specs.Run.{Chip}
use Rattle.board.specs.Chips.{piece_length, serial_length, sum, chips_of}
use Rattle.board.specs.Checks.{is_own}
use Rattle.board.specs.Event.{refusal, event}
use Rattle.board.specs.Power.{power_up}
use Rattle.board.specs.declared.chips.Board.{Board}
use Rattle.board.specs.declared.power.Asked.{Asked}
use Rattle.board.specs.declared.power.Plan.{Plan}

-- a board with what is lent to it: the slice, and the serials, which stay
pub record Held : Type 0 where
  pub board : Board
  pub slice : List ℕ
  pub serials : List ℕ

abbrev pub chips : Held → List Chip
chips h = chips_of h.board h.slice h.serials

-- an event: its code, and for an own line whose it is
pub record Sent : Type 0 where
  pub chip : ℕ
  pub code : ℕ

abbrev pub refusal_of : Held → Sent → Option Refusal
refusal_of h e = refusal h.serials h.slice h.board e.chip e.code

-- one event; a refused one changes nothing, as its outcome says
unfoldable pub next : Held → Sent → Held
next h e =
    record {
      board = (event h.serials h.slice h.board e.chip e.code).board;
      slice = (event h.serials h.slice h.board e.chip e.code).slice;
      serials = h.serials;
    }

unfoldable pub run : Held → List Sent → Held
run h [] = h
run h (e ∷ es) = run (next h e) es

-- what the board's power-up gives, over the slice that was lent to it; it "takes no serial"
abbrev pub from_power_up : Plan → List ℕ → List ℕ → Held
from_power_up p xs serials = record { board = (power_up p xs).board; slice = xs; serials = serials }

-- "eight bytes for each part 5 chip" of those that are asked for
abbrev pub serials_asked : List Asked → ℕ
serials_asked qs = sum (λ a. serial_length a.part) qs

-- what chip k has of a slice in chip order, where each chip has as much of it as its part says
unfoldable pub share_at : (ℕ → ℕ) → List Asked → List ℕ → ℕ → List ℕ
share_at f [] xs k = []
share_at f (a ∷ more) xs zero = take (f a.part) xs
share_at f (a ∷ more) xs (suc k) = share_at f more (drop (f a.part) xs) k

-- chip k's piece of the slice at power-up, and its serial number
abbrev pub piece_at : List Asked → List ℕ → ℕ → List ℕ
piece_at qs xs k = share_at piece_length qs xs k

abbrev pub serial_at : List Asked → List ℕ → ℕ → List ℕ
serial_at qs serials k = share_at serial_length qs serials k

-- "the events it sees": those of the shared lines, and of its own
unfoldable pub sees : ℕ → Sent → Bool
sees k e = not (is_own e.code) || eqb e.chip k

unfoldable pub seen : ℕ → List Sent → List ℕ
seen k [] = []
seen k (e ∷ es) = cond (sees k e) (e.code ∷ seen k es) (seen k es)
