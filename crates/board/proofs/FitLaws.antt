-- Chips whose arrays have their parts' lengths, and whose serial numbers are the serials one behind the other: they are found
-- again from their states, their slice and the serials, and an event keeps them so. Assumes nothing.
use Rattle.std.specs.Prelude.{ℕ, zero, suc, ◌+◌, ◌≤◌, ◌≡◌, refl, List, [], ◌∷◌, ◌++◌, length, drop}
use Rattle.std.proofs.Common.{arith, sym, ap, subst, ◌∙◌, length-append, take-append-drop, take_at, drop_at}
use Rattle.pins.specs.declared.state.State.{State}
use Rattle.chip.specs.Run as chip
use Rattle.chip.specs.Run.{Chip}
use Rattle.chip.proofs.RunLaws.{next_part, next_length}
use Rattle.board.specs.Chips.{piece_length, serial_length, sum, together, serials_together, pieces, states, slice}
use Rattle.board.specs.Event.{every, at}
use Rattle.board.proofs.PieceLaws.{part_length, rest_long, none_left}

-- each chip has an array and a serial number of its own length, and the serials are ns
pub data Fit : List ℕ → List Chip → Type 0 where
  none : Fit [] []
  more : {c : Chip} {cs : List Chip} {ns : List ℕ}
      → length c.array ≡ piece_length c.state.part → length c.serial ≡ serial_length c.state.part
      → Fit ns cs → Fit (c.serial ++ ns) (c ∷ cs)

-- chips that fit are found again from their states, their slice and the serials
pub again : (ns : List ℕ) (cs : List Chip) → Fit ns cs → pieces (states cs) (slice cs) ns ≡ cs
unfolding pieces states slice
again ns [] none = refl
again ns (c ∷ cs) (more {ns = ms} fits own rest) = λ i.
    record {
      state = c.state;
      array = take_at c.array (slice cs) (piece_length c.state.part) fits i;
      serial = take_at c.serial ms (serial_length c.state.part) own i;
    }
    ∷ ((λ j. pieces (states cs) (drop_at c.array (slice cs) (piece_length c.state.part) fits j)
    (drop_at c.serial ms (serial_length c.state.part) own j)) ∙ again ms cs rest) i

inner : (a t n : ℕ) → a + t ≡ n → 0 + a ≤ n
inner a t n e = omega (arith, e)

pub pieces_fit : (ss : List State) (xs ns : List ℕ) → together ss ≡ length xs → serials_together ss ≡ length ns → Fit ns (pieces ss xs ns)
unfolding pieces sum
pieces_fit [] xs ns e o = subst (λ (ms : List ℕ). Fit ms []) (none_left ns o) none
pieces_fit (s ∷ ss) xs ns e o =
    subst (λ (ms : List ℕ). Fit ms (pieces (s ∷ ss) xs ns)) (take-append-drop (serial_length s.part) ns)
    (more (part_length xs 0 (piece_length s.part) (inner _ _ _ e)) (part_length ns 0 (serial_length s.part) (inner _ _ _ o))
    (pieces_fit ss (drop (piece_length s.part) xs) (drop (serial_length s.part) ns)
    (rest_long (piece_length s.part) (together ss) xs e) (rest_long (serial_length s.part) (serials_together ss) ns o)))

-- a chip moved: its array is as long as before, its serial number the one it had
next_fits :
    {ns : List ℕ} {cs : List Chip} (c : Chip) (code : ℕ) → length c.array ≡ piece_length c.state.part
    → length c.serial ≡ serial_length c.state.part → Fit ns cs → Fit (c.serial ++ ns) (chip.next c code ∷ cs)
unfolding chip.next
next_fits c code h o rest =
    more (next_length c code ∙ h ∙ ap piece_length (sym (next_part c code))) (o ∙ ap serial_length (sym (next_part c code))) rest

pub every_fits : (ns : List ℕ) (code : ℕ) (cs : List Chip) → Fit ns cs → Fit ns (every code cs)
unfolding every
every_fits ns code [] none = none
every_fits ns code (c ∷ cs) (more fits own rest) = next_fits c code fits own (every_fits _ code cs rest)

pub at_fits : (ns : List ℕ) (k code : ℕ) (cs : List Chip) → Fit ns cs → Fit ns (at k code cs)
unfolding at
at_fits ns k code [] none = none
at_fits ns zero code (c ∷ cs) (more fits own rest) = next_fits c code fits own rest
at_fits ns (suc k) code (c ∷ cs) (more fits own rest) = more fits own (at_fits _ k code cs rest)

-- their arrays one behind the other are as long as their pieces together, and so are the serials
step : (f t : ℕ) (ys zs : List ℕ) → length ys ≡ f → t ≡ length zs → f + t ≡ length (ys ++ zs)
step f t ys zs e h = omega (arith, e, h, length-append ys zs)

pub long_fit : (ns : List ℕ) (cs : List Chip) → Fit ns cs → (together (states cs) ≡ length (slice cs)) × (serials_together (states cs) ≡ length ns)
unfolding states slice sum
long_fit ns [] none = (refl, refl)
long_fit ns (c ∷ cs) (more fits own rest) =
    let behind = long_fit _ cs rest in
    (step _ _ c.array (slice cs) fits behind.0, step _ _ c.serial _ own behind.1)
