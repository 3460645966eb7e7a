-- The run of a board, seen by one chip, is that chip's run over the events it sees. Event by event: a shared line moves every
-- chip, an own line moves its chip alone, and what the board refuses the chip would refuse. Assumes nothing.
use Rattle.std.specs.Prelude.{ℕ, zero, suc, ◌<◌, ◌≡◌, Bool, not, ◌||◌, List, [], ◌∷◌, leb, length, None, is_none}
use Rattle.std.proofs.Common.{arith, sym, ap, subst, ◌∙◌}
use Rattle.std.proofs.Math.Path.{refl}
use Rattle.std.proofs.Math.Bool.{true, false, cond}
use Rattle.std.proofs.Math.Dec.{eqb}
use Rattle.std.proofs.Math.ListN.{get_or}
use borrow.Author.Tests.{eqb-true, eqb-false, leb-true, lt-leb}
use Rattle.supply.specs.CheckedLaws.{none_given, some_given}
use Rattle.chip.specs.Event as chip
use Rattle.chip.proofs.EventLaws as chip-event
use Rattle.chip.specs.Run as chip-run
use Rattle.chip.specs.Run.{Chip}
use Rattle.board.specs.Checks.{is_own}
use Rattle.board.specs.Event.{every, at, refusal_at}
use Rattle.board.proofs.EventLaws.{next_refused}
use Rattle.board.proofs.ApartLaws.{own_alone, good_refusal, same_count}
use Rattle.board.proofs.CheckLaws.{checks_passed}
use Rattle.board.proofs.GoodLaws.{Good, late_checks, many, next_stays, accepted_passed, moved_chips, good_next}
use Rattle.board.specs.Run.{Held, chips, Sent, refusal_of, next, run, sees, seen}

-- 5: the chip refuses what is no event, as the board does
unknown_stays : (c : Chip) (code : ℕ) → leb 12 code ≡ true → chip-run.next c code ≡ c
unknown_stays c code h =
    next_refused c code
    (some_given _ (λ r. clash (chip-event.checks_passed _ _ _ code (chip-event.accepted_passed c.serial c.array c.state code r)).1))
  where
    clash : code < 12 → ⊥
    clash l = eqb-false 0 1 refl (omega (arith, l, leb-true 12 code h))

-- one of the chips, moved
every_at : (cs : List Chip) (k code : ℕ) (d : Chip) → k < length cs → get_or (every code cs) k d ≡ chip-run.next (get_or cs k d) code
unfolding every
every_at [] k code d h = absurd (eqb-false 0 1 refl (omega (arith, h)))
every_at (c ∷ cs) zero code d h = refl
every_at (c ∷ cs) (suc k) code d h = every_at cs k code d (omega (arith, h))

at_at : (cs : List Chip) (k code : ℕ) (d : Chip) → k < length cs → get_or (at k code cs) k d ≡ chip-run.next (get_or cs k d) code
unfolding at
at_at [] k code d h = absurd (eqb-false 0 1 refl (omega (arith, h)))
at_at (c ∷ cs) zero code d h = refl
at_at (c ∷ cs) (suc k) code d h = at_at cs k code d (omega (arith, h))

at_refusal :
    (cs : List Chip) (k code : ℕ) (d : Chip) → k < length cs
    → refusal_at k code cs ≡ (chip.event (get_or cs k d).serial (get_or cs k d).array (get_or cs k d).state code).refusal
unfolding refusal_at
at_refusal [] k code d h = absurd (eqb-false 0 1 refl (omega (arith, h)))
at_refusal (c ∷ cs) zero code d h = refl
at_refusal (c ∷ cs) (suc k) code d h = at_refusal cs k code d (omega (arith, h))

module _ (h : Held) (g : Good h) (k : ℕ) (there : k < h.board.count) (d : Chip) where
  abbrev mine : Chip
  mine = get_or (chips h) k d

  here : k < length (chips h)
  here = subst (λ (n : ℕ). k < n) (sym (many h g)) there

  -- a code that is no event is refused
  unknown : (e : Sent) → leb 12 e.code ≡ true → next h e ≡ h
  unknown e u = go (is_none (refusal_of h e)) refl
    where
      clash : e.code < 12 → ⊥
      clash l = eqb-false 0 1 refl (omega (arith, l, leb-true 12 e.code u))

      go : (t : Bool) → is_none (refusal_of h e) ≡ t → next h e ≡ h
      go true p = absurd (clash (checks_passed h.board (length h.slice) (length h.serials) e.chip e.code (accepted_passed h e (none_given _ p))).known)
      go false p = next_stays h e p

  both_stay : (e : Sent) → leb 12 e.code ≡ true → get_or (chips (next h e)) k d ≡ chip-run.next mine e.code
  both_stay e u = ap (λ (f : Held). get_or (chips f) k d) (unknown e u) ∙ sym (unknown_stays mine e.code u)

  -- an event on a shared line
  shared : (e : Sent) → is_own e.code ≡ false → get_or (chips (next h e)) k d ≡ chip-run.next mine e.code
  shared e s = go (leb 12 e.code) refl
    where
      go : (t : Bool) → leb 12 e.code ≡ t → get_or (chips (next h e)) k d ≡ chip-run.next mine e.code
      go true u = both_stay e u
      go false u =
          ap (λ (cs : List Chip). get_or cs k d)
          (moved_chips h g e (good_refusal h g e ∙ rw (s, u))
          ∙ ap (λ (t : Bool). cond t (at e.chip e.code (chips h)) (every e.code (chips h))) s)
          ∙ every_at (chips h) k e.code d here

  -- an event on its own line: the board's refusal is the chip's
  pub own_refusal :
      (e : Sent) → e.chip ≡ k → is_own e.code ≡ true → leb 12 e.code ≡ false
      → refusal_of h e ≡ (chip.event mine.serial mine.array mine.state e.code).refusal
  own_refusal e m o u =
      good_refusal h g e
      ∙ ap (λ (j : ℕ). chip.first (late_checks h.board.count j e.code) (cond (is_own e.code) (refusal_at j e.code (chips h)) None)) m
      ∙ rw (o, lt-leb h.board.count k there, u) (at_refusal (chips h) k e.code d here)

  own : (e : Sent) → e.chip ≡ k → is_own e.code ≡ true → get_or (chips (next h e)) k d ≡ chip-run.next mine e.code
  own e m o = go (leb 12 e.code) (is_none (refusal_of h e)) refl refl
    where
      go : (t a : Bool) → leb 12 e.code ≡ t → is_none (refusal_of h e) ≡ a → get_or (chips (next h e)) k d ≡ chip-run.next mine e.code
      go true a u p = both_stay e u
      go false true u p =
          ap (λ (cs : List Chip). get_or cs k d)
          (moved_chips h g e (none_given _ p)
          ∙ ap (λ (t : Bool). cond t (at e.chip e.code (chips h)) (every e.code (chips h))) o
          ∙ ap (λ (j : ℕ). at j e.code (chips h)) m)
          ∙ at_at (chips h) k e.code d here
      go false false u p =
          ap (λ (f : Held). get_or (chips f) k d) (next_stays h e p)
          ∙ sym (next_refused mine e.code (ap is_none (sym (own_refusal e m o u)) ∙ p))

  pub sees_next : (e : Sent) → get_or (chips (next h e)) k d ≡ cond (sees k e) (chip-run.next mine e.code) mine
  unfolding sees
  sees_next e = go (is_own e.code) (eqb e.chip k) refl refl
    where
      go : (o t : Bool) → is_own e.code ≡ o → eqb e.chip k ≡ t
          → get_or (chips (next h e)) k d ≡ cond (not o || t) (chip-run.next mine e.code) mine
      go false t p q = shared e p
      go true true p q = own e (eqb-true _ _ q) p
      go true false p q = own_alone h e k d g.eight p (λ m. eqb-false e.chip k q (sym m))

-- a run keeps a board good, with as many chips
pub good_run : (h : Held) → Good h → (es : List Sent) → Good (run h es)
unfolding run
good_run h g [] = g
good_run h g (e ∷ es) = good_run (next h e) (good_next h g e) es

pub run_count : (h : Held) → Good h → (es : List Sent) → (run h es).board.count ≡ h.board.count
unfolding run
run_count h g [] = refl
run_count h g (e ∷ es) = run_count (next h e) (good_next h g e) es ∙ same_count h g.eight e

-- "Demand 3 then holds for each chip over the events it sees": its run
pub run_seen :
    (h : Held) → Good h → (k : ℕ) → k < h.board.count → (d : Chip) (es : List Sent)
    → get_or (chips (run h es)) k d ≡ chip-run.run (get_or (chips h) k d) (seen k es)
unfolding run seen chip-run.run
run_seen h g k there d [] = refl
run_seen h g k there d (e ∷ es) =
    run_seen (next h e) (good_next h g e) k (subst (λ (n : ℕ). k < n) (sym (same_count h g.eight e)) there) d es
    ∙ ap (λ (c : Chip). chip-run.run c (seen k es)) (sees_next h g k there d e)
    ∙ go (sees k e)
  where
    go : (t : Bool) → chip-run.run (cond t (chip-run.next (get_or (chips h) k d) e.code) (get_or (chips h) k d)) (seen k es)
        ≡ chip-run.run (get_or (chips h) k d) (cond t (e.code ∷ seen k es) (seen k es))
    go true = refl
    go false = refl
