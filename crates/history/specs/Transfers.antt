-- The transfers: the acts between a seen fall and a seen rise of /CS. Assumes nothing.
use Rattle.std.specs.Prelude.{Bool, true, false, List, [], ◌∷◌}
use Rattle.history.specs.Wire.{Bit, Act, opens, closes, takes, falls, cuts, passes}

-- an edge of SCK in a select: a rise, with the bit that it takes, or a fall
pub data Edge : Type 0 where
  up : Bit → Edge
  down : Edge

-- a transfer: its edges in order, and whether a rise of /CS closed it. A power cut or the list's end leaves it open.
pub record Transfer : Type 0 where
  pub edges : List Edge
  pub closed : Bool

-- its bits
unfoldable pub rises : List Edge → List Bit
rises [] = []
rises (up b ∷ es) = b ∷ rises es
rises (down ∷ es) = rises es

-- the transfer that was opened right before these acts
unfoldable pub transfer_from : List Act → Transfer
transfer_from [] = record { edges = []; closed = false }
transfer_from (opens wp ∷ later) = record { edges = []; closed = false }
transfer_from (closes ∷ later) = record { edges = []; closed = true }
transfer_from (takes b ∷ later) = record { edges = up b ∷ (transfer_from later).edges; closed = (transfer_from later).closed }
transfer_from (falls ∷ later) = record { edges = down ∷ (transfer_from later).edges; closed = (transfer_from later).closed }
transfer_from (cuts ∷ later) = record { edges = []; closed = false }
transfer_from (passes ∷ later) = transfer_from later

-- the transfers, each with the level of /WP at the fall of /CS that opened it, and the power cuts, in order
pub data Span : Type 0 where
  transfer : Bool → Transfer → Span
  cut : Span

unfoldable pub spans : List Act → List Span
spans [] = []
spans (opens wp ∷ later) = transfer wp (transfer_from later) ∷ spans later
spans (closes ∷ later) = spans later
spans (takes b ∷ later) = spans later
spans (falls ∷ later) = spans later
spans (cuts ∷ later) = cut ∷ spans later
spans (passes ∷ later) = spans later
