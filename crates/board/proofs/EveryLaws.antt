-- The loop that moves every chip, turn by turn: each chip's pieces are lent to it, and that of the slice is put back. Assumes nothing.
use Rattle.std.specs.Prelude.{ℕ, ◌+◌, ◌-◌, ◌≤◌, ◌<◌, ◌≡◌, get_or, set}
use Rattle.std.proofs.Common.{zero-le, le_antisymm, arith, subst, ◌∙◌, drop-drop, drop-set-lt}
use Rattle.std.proofs.Math.Path.{refl, sym, ap}
use mathlib.Core.List.{List, [], ◌∷◌, ◌++◌, append-nil, append_assoc}
use Rattle.std.proofs.Math.ListN.{length, take, drop, length-set}
use Rattle.std.proofs.Math.Seq.{take-length}
use Rattle.pins.specs.declared.state.State.{State}
use Rattle.chip.specs.Promises.{EventPromise}
use Rattle.chip.specs.Run.{Chip, next}
use Rattle.chip.proofs.RunLaws.{next_length}
use Rattle.chip.specs.declared.event.Answer.{Answer}
use Rattle.board.specs.Chips.{piece_length, serial_length, sum, together, serials_together, pieces, states, slice}
use Rattle.board.specs.Event.{every}
use Rattle.board.proofs.LentLaws.{lent, told_state, told_array}
use Rattle.board.proofs.PieceLaws.{part_length, put_length, put_take, put_drop}
use Rattle.board.proofs.WalkLaws.{rest_next, rest_none, put_next, none_added, added, all_added}

-- "A shared line moves every chip": at chip i those before it have moved, it and those behind it are as they were, and what
-- comes of it all is fixed
pub record Going (code : ℕ) (ss₀ : List State) (ns xs₀ : List ℕ) (ss : List State) (xs : List ℕ) (start from i : ℕ) : Type 0 where
  pub inside : i ≤ length ss
  pub wide : length ss ≡ length ss₀
  pub long : start + together (drop i ss) ≡ length xs
  pub own : from + serials_together (drop i ss) ≡ length ns
  pub kept : length xs ≡ length xs₀
  pub chips :
      take i ss ++ states (every code (pieces (drop i ss) (drop start xs) (drop from ns)))
      ≡ states (every code (pieces ss₀ xs₀ ns))
  pub bytes :
      take start xs ++ slice (every code (pieces (drop i ss) (drop start xs) (drop from ns)))
      ≡ slice (every code (pieces ss₀ xs₀ ns))

module _ (code : ℕ) (ss₀ : List State) (ns xs₀ : List ℕ) where
  pub going_starts :
      together ss₀ ≡ length xs₀ → serials_together ss₀ ≡ length ns
      → Going code ss₀ ns xs₀ ss₀ xs₀ 0 0 0
  going_starts e o =
      record {
        inside = zero-le;
        wide = refl;
        long = none_added _ ∙ e;
        own = none_added _ ∙ o;
        kept = refl;
        chips = refl;
        bytes = refl;
      }

  module _ (ss : List State) (xs : List ℕ) (start from i : ℕ) (g : Going code ss₀ ns xs₀ ss xs start from i) where
    -- past the last chip
    module _ (last : length ss₀ ≤ i) where
      past : length ss ≤ i
      past = subst (λ (k : ℕ). k ≤ i) (sym g.wide) last

      none : drop i ss ≡ []
      none = rest_none ss i g.inside past

      all_moved : ss ≡ states (every code (pieces ss₀ xs₀ ns))
      unfolding states every pieces
      all_moved =
          sym (append-nil (take i ss) ∙ ap (λ (k : ℕ). take k ss) (le_antisymm g.inside past) ∙ take-length ss)
          ∙ sym (ap (λ (more : List State). take i ss ++ states (every code (pieces more (drop start xs) (drop from ns)))) none)
          ∙ g.chips

      all_written : xs ≡ slice (every code (pieces ss₀ xs₀ ns))
      unfolding slice every pieces sum
      all_written =
          sym (append-nil (take start xs) ∙ ap (λ (k : ℕ). take k xs) full ∙ take-length xs)
          ∙ sym (ap (λ (more : List State). take start xs ++ slice (every code (pieces more (drop start xs) (drop from ns)))) none)
          ∙ g.bytes
        where
          full : start ≡ length xs
          full = all_added start (length xs) (sym (ap (λ (more : List State). start + together more) none) ∙ g.long)

      pub going_ends : (ss ≡ states (every code (pieces ss₀ xs₀ ns))) × (xs ≡ slice (every code (pieces ss₀ xs₀ ns)))
      going_ends = (all_moved, all_written)

    -- one turn
    module _ (d : State) (more_come : i < length ss₀) where
      h : i < length ss
      h = subst (λ (k : ℕ). i < k) (sym g.wide) more_come

      abbrev s : State
      s = get_or ss i d

      abbrev p : ℕ
      p = piece_length s.part

      abbrev q : ℕ
      q = serial_length s.part

      abbrev more : List State
      more = drop (i + 1) ss

      on : drop i ss ≡ s ∷ more
      on = rest_next ss i d h

      long : start + (p + together more) ≡ length xs
      unfolding sum
      long = sym (ap (λ (rest : List State). start + together rest) on) ∙ g.long

      own : from + (q + serials_together more) ≡ length ns
      unfolding sum
      own = sym (ap (λ (rest : List State). from + serials_together rest) on) ∙ g.own

      inner : (a p t n : ℕ) → a + (p + t) ≡ n → a + p ≤ n
      inner a p t n e = omega (arith, e)

      fits : start + p ≤ length xs
      fits = inner start p (together more) (length xs) long

      abbrev its : Chip
      its = lent s xs start p ns from q

      module _ (t : State) (ys : List ℕ) (et : (next its code).state ≡ t) (ey : (next its code).array ≡ ys) where
        same : length ys ≡ p
        same = ap (λ (zs : List ℕ). length zs) (sym ey) ∙ next_length its code ∙ part_length xs start p fits

        abbrev xs' : List ℕ
        xs' = take start xs ++ (ys ++ drop p (drop start xs))

        beyond : drop (start + p) xs' ≡ drop p (drop start xs)
        beyond = put_drop xs ys start p fits same

        beyond_own : drop (from + q) ns ≡ drop q (drop from ns)
        beyond_own = sym (drop-drop q from ns)

        behind : drop (i + 1) (set ss i t) ≡ more
        behind = drop-set-lt (i + 1) ss i t (omega arith)

        moved : List State
        moved = states (every code (pieces more (drop p (drop start xs)) (drop q (drop from ns))))

        moved_on_lem :
            take (i + 1) (set ss i t) ++ states (every code (pieces (drop (i + 1) (set ss i t)) (drop (start + p) xs') (drop (from + q) ns)))
            ≡ states (every code (pieces ss₀ xs₀ ns))
        unfolding moved states every pieces
        moved_on_lem =
            (λ j. take (i + 1) (set ss i t) ++ states (every code (pieces (behind j) (beyond j) (beyond_own j))))
            ∙ put_next ss moved i t h
            ∙ ap (λ (u : State). take i ss ++ (u ∷ moved)) (sym et)
            ∙ sym (ap (λ (rest : List State). take i ss ++ states (every code (pieces rest (drop start xs) (drop from ns)))) on)
            ∙ g.chips

        written : List ℕ
        written = slice (every code (pieces more (drop p (drop start xs)) (drop q (drop from ns))))

        written_on :
            take (start + p) xs' ++ slice (every code (pieces (drop (i + 1) (set ss i t)) (drop (start + p) xs') (drop (from + q) ns)))
            ≡ slice (every code (pieces ss₀ xs₀ ns))
        unfolding written slice every pieces
        written_on =
            (λ j. take (start + p) xs' ++ slice (every code (pieces (behind j) (beyond j) (beyond_own j))))
            ∙ ap (λ (front : List ℕ). front ++ written) (put_take xs ys start p fits same)
            ∙ append_assoc (take start xs) ys written
            ∙ ap (λ (u : List ℕ). take start xs ++ (u ++ written)) (sym ey)
            ∙ sym (ap (λ (rest : List State). take start xs ++ slice (every code (pieces rest (drop start xs) (drop from ns)))) on)
            ∙ g.bytes

        going_next : Going code ss₀ ns xs₀ (set ss i t) xs' (start + p) (from + q) (i + 1)
        going_next =
            record {
              inside = subst (λ (k : ℕ). i + 1 ≤ k) (sym (length-set ss i t)) (omega (arith, h));
              wide = length-set ss i t ∙ g.wide;
              long =
                  ap (λ (rest : List State). start + p + together rest) behind
                  ∙ added start p (together more) (length xs) p refl long
                  ∙ sym (put_length xs ys start p fits same);
              own =
                  ap (λ (rest : List State). from + q + serials_together rest) behind
                  ∙ added from q (serials_together more) (length ns) q refl own;
              kept = put_length xs ys start p fits same ∙ g.kept;
              chips = moved_on_lem;
              bytes = written_on;
            }

      -- as the code has it: the pieces end at start + m and from + l
      pub ends_inside : (m : ℕ) → m ≡ p → start + m ≤ length xs
      ends_inside m e = subst (λ (z : ℕ). start + z ≤ length xs) (sym e) fits

      pub own_inside : (l : ℕ) → l ≡ q → from + l ≤ length ns
      own_inside l o = subst (λ (z : ℕ). from + z ≤ length ns) (sym o) (inner from q (serials_together more) (length ns) own)

      module _ (m l : ℕ) (e : m ≡ p) (o : l ≡ q) (r : Answer) (ys : List ℕ) where
        abbrev Next : ℕ → ℕ → ℕ → Type 0
        Next k m l =
            Going code ss₀ ns xs₀ (set ss i r.state) (take start xs ++ (ys ++ drop k (drop start xs))) (start + m) (from + l) (i + 1)

        back : (a m p : ℕ) → m ≡ p → a + m - a ≡ p
        back a m p e = omega (arith, e)

        pub going_on :
            EventPromise (take (from + l - from) (drop from ns)) (take (start + m - start) (drop start xs)) s code r ys
            → Next (start + m - start) m l
        going_on told =
            subst (λ (z : ℕ). Next (start + m - start) z l) (sym e)
            (subst (λ (z : ℕ). Next (start + m - start) p z) (sym o)
            (subst (λ (z : ℕ). Next z p q) (sym (back start m p e))
            (going_next r.state ys (told_state its code r ys lent_so) (told_array its code r ys lent_so))))
          where
            lent_so : EventPromise (take q (drop from ns)) (take p (drop start xs)) s code r ys
            lent_so =
                subst (λ (z : ℕ). EventPromise (take q (drop from ns)) (take z (drop start xs)) s code r ys) (back start m p e)
                (subst (λ (z : ℕ). EventPromise (take z (drop from ns)) (take (start + m - start) (drop start xs)) s code r ys) (back from l q o) told)
