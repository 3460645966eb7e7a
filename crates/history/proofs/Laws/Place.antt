-- The history, act by act: between transfers, or inside one with the edges that it has so far. What is left of the list
-- from such a place comes to the same as what is left from the place after its first act. Assumes nothing.
use Rattle.std.specs.Prelude.{Bool, true, false, cond, List, [], ◌∷◌, ◌++◌, ◌≡◌, refl}
use Rattle.std.proofs.Common.{append_assoc, append-nil}
use Rattle.parts.specs.declared.figures.Figure.{Figure}
use Rattle.history.specs.Wire.{Act, opens, closes, takes, falls, cuts, passes}
use Rattle.history.specs.Transfers.{Edge, up, down, Transfer, rises, transfer_from, transfer, spans}
use Rattle.history.specs.Bytes.{Reading, whole_bytes, read_transfer}
use Rattle.history.specs.History.{World, with_latch, effect, transferred, is_sleep, spanned, in_order, obeyed}

-- outside: asleep or not. Inside: whether the fall of /CS woke the chip, so that the transfer is left out; the level of /WP at that
-- fall; the edges.
pub data Place : Type 0 where
  outside : Bool → Place
  inside : Bool → Bool → List Edge → Place

abbrev pub is_outside : Place → Bool
is_outside (outside asleep) = true
is_outside (inside woken fell es) = false

abbrev pub read_so_far : Figure → Bool → List Edge → Reading
read_so_far f fell es = read_transfer f fell (whole_bytes (rises es))

-- the world of a moment: the transfer that is open counts as far as it came
unfoldable pub world_at : Figure → World → Place → World
world_at f w (outside asleep) = w
world_at f w (inside true fell es) = w
world_at f w (inside false fell es) = effect f w (read_so_far f fell es)

-- it sleeps once that transfer is closed
abbrev pub asleep_after : Figure → Bool → Bool → List Edge → Bool
asleep_after f woken fell es = cond woken false (is_sleep (read_so_far f fell es))

-- the place after an act, and the world before the transfer that is then open
unfoldable pub place_after : Figure → Place → Act → Place
place_after f (outside asleep) (opens wp) = inside asleep wp []
place_after f (inside woken fell es) (opens wp) = inside false wp []
place_after f (outside asleep) closes = outside asleep
place_after f (inside woken fell es) closes = outside (asleep_after f woken fell es)
place_after f (outside asleep) (takes b) = outside asleep
place_after f (inside woken fell es) (takes b) = inside woken fell (es ++ up b ∷ [])
place_after f (outside asleep) falls = outside asleep
place_after f (inside woken fell es) falls = inside woken fell (es ++ down ∷ [])
place_after f p cuts = outside false
place_after f p passes = p

unfoldable pub base : Figure → World → Place → Act → World
base f w p (opens wp) = world_at f w p
base f w (outside asleep) closes = w
base f w (inside true fell es) closes = w
base f w (inside false fell es) closes = transferred f w (read_so_far f fell es) true
base f w p (takes b) = w
base f w p falls = w
base f w p cuts = with_latch (world_at f w p) false
base f w p passes = w

-- the open transfer, with the edges that are still to come
abbrev pub completed : List Edge → List Act → Transfer
completed es later = record { edges = es ++ (transfer_from later).edges; closed = (transfer_from later).closed }

-- what the acts that are left come to
unfoldable pub from : Figure → World → Place → List Act → World
from f w (outside asleep) later = in_order f w (obeyed f asleep (spans later))
from f w (inside woken fell es) later = in_order f w (obeyed f woken (transfer fell (completed es later) ∷ spans later))

pub from_now : (f : Figure) (w : World) (p : Place) → from f w p [] ≡ world_at f w p
unfolding from world_at in_order spanned obeyed spans transfer_from
from_now f w (outside asleep) = refl
from_now f w (inside true fell es) = refl
from_now f w (inside false fell es) = rw append-nil

pub from_next :
    (f : Figure) (w : World) (p : Place) (a : Act) (later : List Act) → from f w p (a ∷ later) ≡ from f (base f w p a) (place_after f p a) later
unfolding from place_after base world_at in_order spanned obeyed spans transfer_from
from_next f w (outside true) (opens wp) later = refl
from_next f w (outside false) (opens wp) later = refl
from_next f w (outside asleep) closes later = refl
from_next f w (outside asleep) (takes b) later = refl
from_next f w (outside asleep) falls later = refl
from_next f w (outside asleep) cuts later = refl
from_next f w (outside asleep) passes later = refl
from_next f w (inside true fell es) (opens wp) later = refl
from_next f w (inside true fell es) closes later = refl
from_next f w (inside true fell es) (takes b) later = refl
from_next f w (inside true fell es) falls later = refl
from_next f w (inside true fell es) cuts later = refl
from_next f w (inside true fell es) passes later = refl
from_next f w (inside false fell es) (opens wp) later = rw append-nil
from_next f w (inside false fell es) closes later = rw append-nil
from_next f w (inside false fell es) (takes b) later = rw append_assoc
from_next f w (inside false fell es) falls later = rw append_assoc
from_next f w (inside false fell es) cuts later = rw append-nil
from_next f w (inside false fell es) passes later = refl
