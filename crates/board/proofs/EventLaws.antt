-- An event on the board by its refusal: refused it leaves all, else it leaves the chips moved. Assumes nothing.
use Rattle.std.specs.Prelude.{ℕ, zero, suc, ◌<◌, ◌≤◌, ◌≡◌, refl, Bool, true, false, cond, List, [], ◌∷◌, ◌++◌, length, take, drop, Option, Some, None, is_none, Result, Ok, Err}
use Rattle.std.proofs.Common.{arith, sym, subst, ◌∙◌, length-append, length-take-le, take_at}
use Rattle.std.proofs.Math.Path.{ap}
use Rattle.std.proofs.lemmas.Option.{none-some}
use Rattle.pins.specs.declared.state.State.{State}
use Rattle.refusals.specs.declared.refusal.Refusal.{Refusal}
use Rattle.supply.specs.Power.{checked}
use Rattle.supply.specs.CheckedLaws.{some_given, checked_none, checked_some}
use Rattle.chip.specs.Event as chip
use Rattle.chip.proofs.RefusalLaws.{refusal_told, refusal_stays}
use Rattle.chip.specs.Run.{Chip, next}
use Rattle.chip.specs.declared.event.Answer.{Answer}
use Rattle.board.specs.Chips.{fitted, together, serials_together, pieces, chips_of, states, slice, with_chips}
use Rattle.board.specs.Checks.{is_own, checks}
use Rattle.board.proofs.CheckLaws.{Passed, checks_passed}
use Rattle.board.specs.Event.{every, at, moved, refusal_at, refusal, Outcome, left, refused, event}
use Rattle.board.proofs.PieceLaws.{slice_of}
use Rattle.board.specs.Promises.{BoardPromise}
use Rattle.board.specs.So.{so_number, board_so}
use Rattle.board.specs.declared.chips.Board.{Board}
use Rattle.board.specs.declared.so.BoardSo.{BoardSo}
use Rattle.board.specs.declared.so.BoardSo.TheVariants.{Released}

-- "a refused event changes no chip": a chip that refuses is as it was
pub next_refused : (c : Chip) (code : ℕ) → is_none (chip.event c.serial c.array c.state code).refusal ≡ false → next c code ≡ c
unfolding next
next_refused c code h = λ i.
    record {
      state = ap (λ (a : Answer). a.state) (refusal_told c.state c.serial c.array code h) i;
      array = refusal_stays c.state c.serial c.array code h i;
      serial = c.serial;
    }

pub at_refused : (cs : List Chip) (k code : ℕ) → is_none (refusal_at k code cs) ≡ false → at k code cs ≡ cs
unfolding at refusal_at
at_refused [] k code h = refl
at_refused (c ∷ cs) zero code h = ap (λ (d : Chip). d ∷ cs) (next_refused c code h)
at_refused (c ∷ cs) (suc k) code h = ap (λ (ds : List Chip). c ∷ ds) (at_refused cs k code h)

-- so is a board whose chip refuses; at a shared line none does
pub moved_refused :
    (cs : List Chip) (k code : ℕ) → is_none (cond (is_own code) (refusal_at k code cs) None) ≡ false → moved k code cs ≡ cs
moved_refused cs k code = go (is_own code)
  where
    go : (t : Bool) → is_none (cond t (refusal_at k code cs) None) ≡ false → cond t (at k code cs) (every code cs) ≡ cs
    go true h = at_refused cs k code h
    go false h = cc

-- as many chips as before
pub many_pieces : (ss : List State) (xs ns : List ℕ) → length (pieces ss xs ns) ≡ length ss
unfolding pieces
many_pieces [] xs ns = refl
many_pieces (s ∷ ss) xs ns = ap suc (many_pieces ss _ _)

pub many_every : (code : ℕ) (cs : List Chip) → length (every code cs) ≡ length cs
unfolding every
many_every code [] = refl
many_every code (c ∷ cs) = ap suc (many_every code cs)

pub many_at : (k code : ℕ) (cs : List Chip) → length (at k code cs) ≡ length cs
unfolding at
many_at k code [] = refl
many_at zero code (c ∷ cs) = refl
many_at (suc k) code (c ∷ cs) = ap suc (many_at k code cs)

pub many_moved : (k code : ℕ) (cs : List Chip) → length (moved k code cs) ≡ length cs
many_moved k code cs = go (is_own code)
  where
    go : (t : Bool) → length (cond t (at k code cs) (every code cs)) ≡ length cs
    go true = many_at k code cs
    go false = many_every code cs

pub many_states : (cs : List Chip) → length (states cs) ≡ length cs
unfolding states
many_states [] = refl
many_states (c ∷ cs) = ap suc (many_states cs)

-- the chips that were put on a board are those that are there
pub fitted_with : (b : Board) (cs : List Chip) → length cs ≡ b.count → fitted (with_chips b cs) ≡ states cs
fitted_with b cs h = take_at (states cs) (drop b.count b.chips) b.count (many_states cs ∙ h)

module _ (ns xs : List ℕ) (b : Board) (k code : ℕ) where
  by : Bool → Outcome
  by t = cond t (left b (moved k code (chips_of b xs ns))) (refused (refusal ns xs b k code) b xs)

  pub event_refused : is_none (refusal ns xs b k code) ≡ false → event ns xs b k code ≡ refused (refusal ns xs b k code) b xs
  unfolding event by
  event_refused e = ap by e

  pub event_left : refusal ns xs b k code ≡ None → event ns xs b k code ≡ left b (moved k code (chips_of b xs ns))
  unfolding event by
  event_left e = ap (λ (r : Option Refusal). by (is_none r)) e

  -- whose refusal it is
  pub by_checks : is_none (checks b (length xs) (length ns) k code) ≡ false → refusal ns xs b k code ≡ checks b (length xs) (length ns) k code
  unfolding refusal
  by_checks = go (checks b (length xs) (length ns) k code)
    where
      go : (given : Option Refusal) → is_none given ≡ false
          → chip.first given (cond (is_own code) (refusal_at k code (chips_of b xs ns)) None) ≡ given
      go None e = cc
      go (Some why) e = refl

  pub by_chip : checks b (length xs) (length ns) k code ≡ None → is_own code ≡ true → refusal ns xs b k code ≡ refusal_at k code (chips_of b xs ns)
  unfolding refusal
  by_chip e own = rw (e, own)

  pub by_none : checks b (length xs) (length ns) k code ≡ None → is_own code ≡ false → refusal ns xs b k code ≡ None
  unfolding refusal
  by_none e shared = rw (e, shared)

  -- (at a shared line no chip's)
  pub by_moved :
      checks b (length xs) (length ns) k code ≡ None
      → refusal ns xs b k code ≡ cond (is_own code) (refusal_at k code (chips_of b xs ns)) None
  unfolding refusal
  by_moved e = rw e

  -- what the call promises where it is refused, and where it is not
  pub promise_refused :
      (r : Option Refusal) (ys : List ℕ) → r ≡ refusal ns xs b k code → (r ≡ None → ⊥) → ys ≡ xs
      → BoardPromise ns xs b k code (record { refusal = r; so = Released; board = b }) ys
  promise_refused r ys e n s = (
    e ∙ sym (ap (λ (o : Outcome). o.refusal) out),
    sym (ap (λ (o : Outcome). so_number o.so) out),
    sym (ap (λ (o : Outcome). o.board) out),
    s ∙ sym (ap (λ (o : Outcome). o.slice) out),
  )
    where
      out : event ns xs b k code ≡ refused (refusal ns xs b k code) b xs
      out = event_refused (sym (ap is_none e) ∙ some_given r n)

  pub promise_left :
      (r : Option Refusal) (so : BoardSo) (after : Board) (ys : List ℕ) (cs : List Chip)
      → r ≡ None → refusal ns xs b k code ≡ None → cs ≡ moved k code (chips_of b xs ns) → length cs ≡ b.count
      → so ≡ board_so (fitted after) → after ≡ with_chips b cs → ys ≡ slice cs
      → BoardPromise ns xs b k code (record { refusal = r; so = so; board = after }) ys
  promise_left r so after ys cs z e m n p q s = (
    z ∙ sym (ap (λ (o : Outcome). o.refusal) out),
    ap so_number (p ∙ ap (λ (a : Board). board_so (fitted a)) q ∙ ap board_so (fitted_with b cs n)) ∙ sym (ap (λ (o : Outcome). so_number o.so) out),
    q ∙ sym (ap (λ (o : Outcome). o.board) out),
    s ∙ sym (ap (λ (o : Outcome). o.slice) out),
  )
    where
      out : event ns xs b k code ≡ left b cs
      out = event_left e ∙ ap (left b) (sym m)

-- the ways out of the call: the checks answered r
module _ (ns xs : List ℕ) (b : Board) (k code : ℕ) (r : Result (Unit {0}) Refusal)
    (told : r ≡ checked (checks b (length xs) (length ns) k code)) where
  pub way_refused : (why : Refusal) → r ≡ Err why → BoardPromise ns xs b k code (record { refusal = Some why; so = Released; board = b }) xs
  way_refused why e =
      promise_refused ns xs b k code (Some why) xs (sym (by_checks ns xs b k code (ap is_none given) ∙ given)) (λ n. none-some why (sym n)) refl
    where
      given : checks b (length xs) (length ns) k code ≡ Some why
      given = checked_some _ why (sym told ∙ e)

  module _ (fine : r ≡ Ok tt) where
    none : checks b (length xs) (length ns) k code ≡ None
    none = checked_none _ (sym told ∙ fine)

    passed : Passed b (length xs) (length ns) k code
    passed = checks_passed b (length xs) (length ns) k code none

    pub few_chips : b.count ≤ 8
    few_chips = passed.few

    pub few_after : (after : Board) (cs : List Chip) → after ≡ with_chips b cs → after.count ≤ 8
    few_after after cs e = subst (λ (c : Board). c.count ≤ 8) (sym e) few_chips

    -- there is a place for each chip, and still is with others in the chips' places
    module _ (eight : length b.chips ≡ 8) where
      pub chips_there : b.count ≤ length b.chips
      chips_there = subst (λ (n : ℕ). b.count ≤ n) (sym eight) few_chips

      pub chips_fitted : length (fitted b) ≡ b.count
      chips_fitted = length-take-le b.count b.chips chips_there

      pub still_there : (ss : List State) → length ss ≡ length (fitted b) → b.count ≤ length (ss ++ drop b.count b.chips)
      still_there ss same = omega (arith, same, chips_fitted, length-append ss (drop b.count b.chips))

    pub whole_slice : together (fitted b) ≡ length xs
    whole_slice = passed.long

    pub whole_serials : serials_together (fitted b) ≡ length ns
    whole_serials = passed.numbered

    pub its_chip : is_own code ≡ true → k < b.count
    its_chip = passed.there

    -- the chips have moved, and q is the refusal of the one that an own line moves, or none
    module _ (q : Option Refusal) (ys : List ℕ) (its : q ≡ cond (is_own code) (refusal_at k code (chips_of b xs ns)) None)
        (written : ys ≡ slice (moved k code (chips_of b xs ns))) where
      pub way_left :
          (so : BoardSo) (ss : List State) → b.count ≤ length b.chips → q ≡ None → ss ≡ states (moved k code (chips_of b xs ns))
          → so ≡ board_so (take b.count (ss ++ drop b.count b.chips))
          → BoardPromise ns xs b k code (record { refusal = q; so = so; board = record { count = b.count; chips = ss ++ drop b.count b.chips } }) ys
      way_left so ss places z left p =
          promise_left ns xs b k code q so (record { count = b.count; chips = ss ++ drop b.count b.chips }) ys (moved k code (chips_of b xs ns))
          z (by_moved ns xs b k code none ∙ sym its ∙ z) refl
          (many_moved k code (chips_of b xs ns) ∙ many_pieces (fitted b) xs ns ∙ length-take-le b.count b.chips places)
          p (ap (λ (rest : List State). record { count = b.count; chips = rest ++ drop b.count b.chips }) left) written

      pub way_moved_refused : (q ≡ None → ⊥) → BoardPromise ns xs b k code (record { refusal = q; so = Released; board = b }) ys
      way_moved_refused n =
          promise_refused ns xs b k code q ys (its ∙ sym (by_moved ns xs b k code none)) n
          (written
          ∙ ap slice (moved_refused (chips_of b xs ns) k code (sym (ap is_none its) ∙ some_given q n))
          ∙ slice_of (fitted b) xs ns whole_slice)
