-- The one chip that an own line moves: its pieces are lent to it, that of the slice is put back, all else stays. Assumes nothing.
use Prim.Native.Nat.{ℕ, zero, suc, ◌+◌, ◌-◌, ◌≤◌, ◌<◌}
use Rattle.std.proofs.Common.{arith, subst, ◌∙◌, take-add, drop-drop}
use Rattle.std.specs.Prelude.{◌≡◌, length}
use Rattle.std.proofs.Math.Path.{refl, sym, ap}
use mathlib.Core.List.{List, [], ◌∷◌, ◌++◌, append_assoc}
use Rattle.std.proofs.Math.ListN.{take, drop, get_or, set}
use Rattle.std.proofs.lemmas.Bool.{eqb-false}
use Rattle.pins.specs.declared.state.State.{State}
use Rattle.refusals.specs.RefusalLaws.{given_sole}
use Rattle.chip.specs.Answers.{Paper}
use Rattle.chip.specs.Event as chip
use Rattle.chip.specs.Promises.{EventPromise}
use Rattle.chip.specs.Run.{Chip, next}
use Rattle.chip.specs.declared.event.Answer.{Answer}
use Rattle.board.specs.Chips.{piece_length, serial_length, sum, together, serials_together, pieces, states, slice}
use Rattle.board.specs.Event.{at, refusal_at}
use Rattle.board.proofs.LentLaws.{lent, told_state, told_array}
use Rattle.board.proofs.PieceLaws.{states_of, slice_of, rest_long, piece_inside}

abbrev pub array : State → ℕ
array s = piece_length s.part

abbrev pub serial : State → ℕ
serial s = serial_length s.part

-- "an own line moves one chip and nothing of any other, bytes included": chip k, over its pieces
module _ (code : ℕ) (d : State) where
  abbrev chip_at : List State → List ℕ → List ℕ → ℕ → Chip
  chip_at ss xs ns k =
      lent (get_or ss k d) xs (together (take k ss)) (piece_length (get_or ss k d).part) ns (serials_together (take k ss)) (serial_length (get_or ss k d).part)

  nowhere : {A : Type 0} (k : ℕ) → k < 0 → A
  nowhere k h = absurd (eqb-false 0 1 refl (omega (arith, h)))

  -- counted from the second chip on, it is chip k of those
  module _ (s : State) (ss : List State) (xs ns : List ℕ) where
    abbrev ys : List ℕ
    ys = drop (piece_length s.part) xs

    abbrev ms : List ℕ
    ms = drop (serial_length s.part) ns

    later : (k : ℕ) → chip_at ss ys ms k ≡ chip_at (s ∷ ss) xs ns (suc k)
    unfolding sum
    later k = λ i.
        record {
          state = get_or ss k d;
          array = take (piece_length (get_or ss k d).part) (drop-drop (together (take k ss)) (piece_length s.part) xs i);
          serial = take (serial_length (get_or ss k d).part) (drop-drop (serials_together (take k ss)) (serial_length s.part) ns i);
        }

  one_state :
      (ss : List State) (xs ns : List ℕ) (k : ℕ) → k < length ss
      → states (at k code (pieces ss xs ns)) ≡ set ss k (next (chip_at ss xs ns k) code).state
  unfolding states at pieces sum
  one_state [] xs ns k h = nowhere k h
  one_state (s ∷ ss) xs ns zero h =
      ap (λ (more : List State). (next (chip_at (s ∷ ss) xs ns 0) code).state ∷ more) (states_of ss (ys s ss xs ns) (ms s ss xs ns))
  one_state (s ∷ ss) xs ns (suc k) h =
      ap (λ (more : List State). s ∷ more)
      (one_state ss (ys s ss xs ns) (ms s ss xs ns) k (omega (arith, h))
      ∙ ap (λ (c : Chip). set ss k (next c code).state) (later s ss xs ns k))

  one_refusal :
      (ss : List State) (xs ns : List ℕ) (k : ℕ) → k < length ss
      → refusal_at k code (pieces ss xs ns) ≡ (chip.event (chip_at ss xs ns k).serial (chip_at ss xs ns k).array (get_or ss k d) code).refusal
  unfolding refusal_at pieces sum
  one_refusal [] xs ns k h = nowhere k h
  one_refusal (s ∷ ss) xs ns zero h = refl
  one_refusal (s ∷ ss) xs ns (suc k) h =
      one_refusal ss (ys s ss xs ns) (ms s ss xs ns) k (omega (arith, h))
      ∙ ap (λ (c : Chip). (chip.event c.serial c.array c.state code).refusal) (later s ss xs ns k)

  -- all bytes, with chip k's piece as it left it
  abbrev put_at : List State → List ℕ → List ℕ → ℕ → List ℕ
  put_at ss xs ns k =
      take (together (take k ss)) xs
      ++ ((next (chip_at ss xs ns k) code).array ++ drop (piece_length (get_or ss k d).part) (drop (together (take k ss)) xs))

  one_bytes :
      (ss : List State) (xs ns : List ℕ) (k : ℕ) → k < length ss → together ss ≡ length xs
      → slice (at k code (pieces ss xs ns)) ≡ put_at ss xs ns k
  unfolding slice at pieces sum
  one_bytes [] xs ns k h e = nowhere k h
  one_bytes (s ∷ ss) xs ns zero h e =
      ap (λ (more : List ℕ). (next (chip_at (s ∷ ss) xs ns 0) code).array ++ more)
      (slice_of ss (ys s ss xs ns) (ms s ss xs ns) (rest_long (piece_length s.part) (together ss) xs e))
  one_bytes (s ∷ ss) xs ns (suc k) h e =
      ap (λ (more : List ℕ). take p xs ++ more) (one_bytes ss (drop p xs) (ms s ss xs ns) k (omega (arith, h)) (rest_long p (together ss) xs e))
      ∙ sym (append_assoc (take p xs) (take a (drop p xs)) ((next its code).array ++ drop q (drop a (drop p xs))))
      ∙ ap (λ (front : List ℕ). front ++ ((next its code).array ++ drop q (drop a (drop p xs)))) (sym (take-add p a xs))
      ∙ ap (λ (c : Chip). take (p + a) xs ++ ((next c code).array ++ drop q (drop a (drop p xs)))) (later s ss xs ns k)
      ∙ ap (λ (zs : List ℕ). take (p + a) xs ++ ((next (chip_at (s ∷ ss) xs ns (suc k)) code).array ++ drop q zs)) (drop-drop a p xs)
    where
      p : ℕ
      p = piece_length s.part

      a : ℕ
      a = together (take k ss)

      q : ℕ
      q = piece_length (get_or ss k d).part

      its : Chip
      its = chip_at ss (drop p xs) (ms s ss xs ns) k

-- as the code has it
module _ (d : State) (L : List State) (k : ℕ) (h : k < length L) where
  abbrev own : State
  own = get_or L k d

  -- a piece, of the slice or of the serials, begins at start and ends at start + m
  module _ (f : State → ℕ) (start m : ℕ) (p : start ≡ sum f (take k L)) (q : m ≡ f own) where
    lasts : f own ≡ start + m - start
    lasts = back start m (f own) q
      where
        back : (a m p : ℕ) → m ≡ p → p ≡ a + m - a
        back a m p e = omega (arith, e)

    pub one_inside : (len : ℕ) → sum f L ≡ len → start + m ≤ len
    one_inside len long =
        subst (λ (t : ℕ). start + m ≤ t) long
        (subst (λ (t : ℕ). t + m ≤ sum f L) (sym p)
        (subst (λ (t : ℕ). sum f (take k L) + t ≤ sum f L) (sym q) (piece_inside f L k d h)))

  module _ (code : ℕ) (xs ns : List ℕ) (start m from l : ℕ)
      (p : start ≡ together (take k L)) (q : m ≡ piece_length own.part)
      (o : from ≡ serials_together (take k L)) (u : l ≡ serial_length own.part) where
    abbrev its : Chip
    its = lent own xs start (start + m - start) ns from (from + l - from)

    same_chip : chip_at code d L xs ns k ≡ its
    same_chip = λ i. lent own xs (sym p i) (lasts array start m p q i) ns (sym o i) (lasts serial from l o u i)

    module _ (r : Answer) (ys : List ℕ) (told : EventPromise its.serial its.array own code r ys) where
      pub one_refused : r.refusal ≡ refusal_at k code (pieces L xs ns)
      one_refused =
          given_sole _ _ (ap (λ (a : Paper). a.refusal) told.0)
          ∙ sym (ap (λ (c : Chip). (chip.event c.serial c.array c.state code).refusal) same_chip)
          ∙ sym (one_refusal code d L xs ns k h)

      pub one_moved : set L k r.state ≡ states (at k code (pieces L xs ns))
      one_moved =
          ap (λ (t : State). set L k t)
          (sym (told_state its code r ys told) ∙ sym (ap (λ (c : Chip). (next c code).state) same_chip))
          ∙ sym (one_state code d L xs ns k h)

      pub one_written :
          together L ≡ length xs
          → take start xs ++ (ys ++ drop (start + m - start) (drop start xs)) ≡ slice (at k code (pieces L xs ns))
      one_written long =
          ap (λ (zs : List ℕ). take start xs ++ (zs ++ drop (start + m - start) (drop start xs)))
          (sym (told_array its code r ys told) ∙ sym (ap (λ (c : Chip). (next c code).array) same_chip))
          ∙ sym
          (λ i. take (sym p i) xs
          ++ ((next (chip_at code d L xs ns k) code).array ++ drop (lasts array start m p q i) (drop (sym p i) xs)))
          ∙ sym (one_bytes code d L xs ns k h long)
