-- The pieces of a slice: no piece is longer than the largest array, so that those of a board can be counted; a slice is its
-- pieces one behind the other; each lies inside; and one piece put back in its place leaves all else. Assumes nothing.
use Rattle.std.specs.Prelude.{ℕ, zero, suc, ◌+◌, ◌*◌, ◌≤◌, ◌<◌, ◌≡◌, refl, List, [], ◌∷◌, ◌++◌, length, take, drop, get_or}
use Rattle.std.proofs.Common.{arith, sym, ap, subst, ◌∙◌, append_assoc, length-append, length-drop, take-append-drop, length-take-le, take_at, drop_at}
use Rattle.std.proofs.lemmas.Bool.{eqb-false}
use borrow.Rule.Slice.PartMut.{same_len_mid}
use Rattle.parts.specs.FigureLaws.{most}
use Rattle.pins.specs.declared.state.State.{State}
use Rattle.board.specs.Chips.{piece_length, serial_length, sum, together, pieces, states, slice}

pub still_small : (sum i n a : ℕ) → a ≤ most → sum ≤ most * i → n ≡ a → sum + n ≤ most * (i + 1)
still_small sum i n a small h e = omega (arith, small, h, e)

pub part_length : (xs : List ℕ) (a p : ℕ) → a + p ≤ length xs → length (take p (drop a xs)) ≡ p
part_length xs a p fits = length-take-le p (drop a xs) (subst (λ (n : ℕ). p ≤ n) (sym (length-drop a xs)) (omega (arith, fits)))

-- the p bytes from a on, put back as ys
module _ (xs ys : List ℕ) (a p : ℕ) (fits : a + p ≤ length xs) (same : length ys ≡ p) where
  abbrev put : List ℕ
  put = take a xs ++ (ys ++ drop p (drop a xs))

  before : length (take a xs) ≡ a
  before = length-take-le a xs (omega (arith, fits))

  pub put_length : length put ≡ length xs
  put_length = same_len_mid a p xs ys (same ∙ sym (part_length xs a p fits))

  front : length (take a xs ++ ys) ≡ a + p
  front = length-append (take a xs) ys ∙ ap (λ (n : ℕ). n + length ys) before ∙ ap (λ (n : ℕ). a + n) same

  split : put ≡ (take a xs ++ ys) ++ drop p (drop a xs)
  split = sym (append_assoc (take a xs) ys (drop p (drop a xs)))

  pub put_take : take (a + p) put ≡ take a xs ++ ys
  put_take = ap (take (a + p)) split ∙ take_at (take a xs ++ ys) (drop p (drop a xs)) (a + p) front

  pub put_drop : drop (a + p) put ≡ drop p (drop a xs)
  put_drop = ap (drop (a + p)) split ∙ drop_at (take a xs ++ ys) (drop p (drop a xs)) (a + p) front

-- cut up and put together again, states and slice are what they were
pub states_of : (ss : List State) (xs ns : List ℕ) → states (pieces ss xs ns) ≡ ss
unfolding states pieces
states_of [] xs ns = refl
states_of (s ∷ ss) xs ns =
    ap (λ (more : List State). s ∷ more) (states_of ss (drop (piece_length s.part) xs) (drop (serial_length s.part) ns))

pub rest_long : (p t : ℕ) (xs : List ℕ) → p + t ≡ length xs → t ≡ length (drop p xs)
rest_long p t xs e = omega (arith, e, length-drop p xs)

pub none_left : (xs : List ℕ) → 0 ≡ length xs → [] ≡ xs
none_left [] e = refl
none_left (x ∷ xs) e = absurd (eqb-false 0 1 refl (omega (arith, e)))

pub slice_of : (ss : List State) (xs ns : List ℕ) → together ss ≡ length xs → slice (pieces ss xs ns) ≡ xs
unfolding slice pieces sum
slice_of [] xs ns e = none_left xs e
slice_of (s ∷ ss) xs ns e =
    ap (λ (ys : List ℕ). take p xs ++ ys) (slice_of ss (drop p xs) (drop (serial_length s.part) ns) (rest_long p (together ss) xs e))
    ∙ take-append-drop p xs
  where
    p : ℕ
    p = piece_length s.part

-- a chip's piece ends within all of them, of the slice and of the serials
pub piece_inside : (f : State → ℕ) (ss : List State) (k : ℕ) (d : State) → k < length ss → sum f (take k ss) + f (get_or ss k d) ≤ sum f ss
unfolding sum
piece_inside f [] k d h = absurd (nowhere k h)
  where
    nowhere : (k : ℕ) → k < 0 → ⊥
    nowhere k h = eqb-false 0 1 refl (omega (arith, h))
piece_inside f (s ∷ ss) zero d h = first (f s) (sum f ss)
  where
    first : (p t : ℕ) → 0 + p ≤ p + t
    first p t = omega arith
piece_inside f (s ∷ ss) (suc k) d h = later (f s) _ _ _ (piece_inside f ss k d (omega (arith, h)))
  where
    later : (p a q t : ℕ) → a + q ≤ t → p + a + q ≤ p + t
    later p a q t e = omega (arith, e)
