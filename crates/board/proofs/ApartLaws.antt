-- Chips on one board don't disturb one another. The serials, lent read only, are the same to all events. Assumes nothing.
use Rattle.std.specs.Prelude.{ℕ, zero, suc, ◌≡◌, Bool, true, false, cond, List, [], ◌∷◌, length, get_or, Option, None, is_none}
use Rattle.std.proofs.Math.Path.{refl}
use Rattle.std.proofs.Common.{sym, ap, ◌∙◌}
use Rattle.refusals.specs.declared.refusal.Refusal.{Refusal}
use Rattle.supply.specs.CheckedLaws.{none_given}
use Rattle.chip.specs.Event.{first}
use Rattle.chip.specs.Run.{Chip}
use Rattle.board.specs.Checks.{is_own}
use Rattle.board.specs.Event.{every, at, moved, refusal_at, refusal}
use Rattle.board.proofs.GoodLaws.{Good, late_checks, good_checks, put, next_stays, next_put, put_put, many_moved, moved_chips, good_next, good_from}
use Rattle.board.specs.Run.{Held, chips, Sent, refusal_of, next, run}

-- "an own line moves one chip and nothing of any other, bytes included"
pub at_other : (cs : List Chip) (k j code : ℕ) (d : Chip) → (j ≡ k → ⊥) → get_or (at k code cs) j d ≡ get_or cs j d
unfolding at
at_other [] k j code d n = refl
at_other (c ∷ cs) zero zero code d n = absurd (n refl)
at_other (c ∷ cs) zero (suc j) code d n = refl
at_other (c ∷ cs) (suc k) zero code d n = refl
at_other (c ∷ cs) (suc k) (suc j) code d n = at_other cs k j code d (λ e. n (ap suc e))

-- two of them in either order
at_either : (cs : List Chip) (j k a b : ℕ) → (j ≡ k → ⊥) → at j a (at k b cs) ≡ at k b (at j a cs)
unfolding at
at_either [] j k a b n = refl
at_either (c ∷ cs) zero zero a b n = absurd (n refl)
at_either (c ∷ cs) zero (suc k) a b n = refl
at_either (c ∷ cs) (suc j) zero a b n = refl
at_either (c ∷ cs) (suc j) (suc k) a b n = ap (λ (ds : List Chip). c ∷ ds) (at_either cs j k a b (λ e. n (ap suc e)))

refusal_other : (cs : List Chip) (j k a b : ℕ) → (j ≡ k → ⊥) → refusal_at j a (at k b cs) ≡ refusal_at j a cs
unfolding at refusal_at
refusal_other [] j k a b n = refl
refusal_other (c ∷ cs) zero zero a b n = absurd (n refl)
refusal_other (c ∷ cs) zero (suc k) a b n = refl
refusal_other (c ∷ cs) (suc j) zero a b n = refl
refusal_other (c ∷ cs) (suc j) (suc k) a b n = refusal_other cs j k a b (λ e. n (ap suc e))

-- the chips after an own line's event
own_moved :
    (h : Held) (e : Sent) → is_own e.code ≡ true → Good h → refusal_of h e ≡ None
    → chips (next h e) ≡ at e.chip e.code (chips h)
own_moved h e own g r =
    moved_chips h g e r ∙ ap (λ (t : Bool). cond t (at e.chip e.code (chips h)) (every e.code (chips h))) own

-- "an own line moves one chip and nothing of any other, bytes included": on any board, whatever comes of the event. (Eight places
-- is what the board's type says.)
pub own_alone :
    (h : Held) (e : Sent) (j : ℕ) (d : Chip) → length h.board.chips ≡ 8 → is_own e.code ≡ true → (j ≡ e.chip → ⊥)
    → get_or (chips (next h e)) j d ≡ get_or (chips h) j d
own_alone h e j d eight own n = go (is_none (refusal_of h e)) refl
  where
    go : (t : Bool) → is_none (refusal_of h e) ≡ t → get_or (chips (next h e)) j d ≡ get_or (chips h) j d
    go true p =
        ap (λ (cs : List Chip). get_or cs j d) (own_moved h e own (good_from h e eight (none_given _ p)) (none_given _ p))
        ∙ at_other (chips h) e.chip j e.code d n
    go false p = ap (λ (g : Held). get_or (chips g) j d) (next_stays h e p)

-- a good board's refusal, by what can still be refused
pub good_refusal :
    (g : Held) → Good g → (e : Sent)
    → refusal_of g e ≡ first (late_checks g.board.count e.chip e.code) (cond (is_own e.code) (refusal_at e.chip e.code (chips g)) None)
unfolding refusal
good_refusal g ok e =
    ap (λ (n : Option Refusal). first n (cond (is_own e.code) (refusal_at e.chip e.code (chips g)) None)) (good_checks g e.chip e.code ok)

-- "Own-line events of two different chips leave the same chip states and arrays and get the same refusals in either order."
module _ (h : Held) (eight : length h.board.chips ≡ 8) where
  pub same_count : (e : Sent) → (next h e).board.count ≡ h.board.count
  same_count e = go (is_none (refusal_of h e)) refl
    where
      go : (t : Bool) → is_none (refusal_of h e) ≡ t → (next h e).board.count ≡ h.board.count
      go true p = ap (λ (g : Held). g.board.count) (next_put h e (none_given _ p))
      go false p = ap (λ (g : Held). g.board.count) (next_stays h e p)

  -- the other chip's event doesn't change a refusal
  pub same_refusal :
      (a b : Sent) → is_own b.code ≡ true → (a.chip ≡ b.chip → ⊥) → is_own a.code ≡ true → refusal_of (next h b) a ≡ refusal_of h a
  same_refusal a b own n own' = go (is_none (refusal_of h b)) refl
    where
      go : (t : Bool) → is_none (refusal_of h b) ≡ t → refusal_of (next h b) a ≡ refusal_of h a
      go true p =
          let g = good_from h b eight (none_given _ p) in
          good_refusal (next h b) (good_next h g b) a
          ∙ ap (λ (n : ℕ). first (late_checks n a.chip a.code) (cond (is_own a.code) (refusal_at a.chip a.code (chips (next h b))) None)) (same_count b)
          ∙ ap (λ (r : Option Refusal). first (late_checks h.board.count a.chip a.code) (cond (is_own a.code) r None))
          (ap (refusal_at a.chip a.code) (own_moved h b own g (none_given _ p)) ∙ refusal_other (chips h) a.chip b.chip a.code b.code n)
          ∙ sym (good_refusal h g a)
      go false p = ap (λ (g : Held). refusal_of g a) (next_stays h b p)

  -- both accepted: each chip has moved
  both_moved :
      (a b : Sent) → is_own a.code ≡ true → is_own b.code ≡ true → refusal_of h a ≡ None → refusal_of (next h a) b ≡ None
      → next (next h a) b ≡ put h (at b.chip b.code (at a.chip a.code (chips h)))
  both_moved a b own own' r s =
      let g = good_from h a eight r in
      next_put (next h a) b s
      ∙ ap (λ (f : Held). put f (moved b.chip b.code (chips (next h a)))) (next_put h a r)
      ∙ put_put h (moved a.chip a.code (chips h)) (many_moved h g a.chip a.code) (moved b.chip b.code (chips (next h a)))
      ∙ ap (λ (t : Bool). put h (cond t (at b.chip b.code (chips (next h a))) (every b.code (chips (next h a))))) own'
      ∙ ap (λ (cs : List Chip). put h (at b.chip b.code cs)) (own_moved h a own g r)

  pub either_order :
      (a b : Sent) → is_own a.code ≡ true → is_own b.code ≡ true → (a.chip ≡ b.chip → ⊥)
      → (run h (a ∷ b ∷ []) ≡ run h (b ∷ a ∷ [])) × (refusal_of (next h b) a ≡ refusal_of h a) × (refusal_of (next h a) b ≡ refusal_of h b)
  unfolding run
  either_order a b own own' n = (go (is_none (refusal_of h a)) (is_none (refusal_of h b)) refl refl, same_a, same_b)
    where
      same_a : refusal_of (next h b) a ≡ refusal_of h a
      same_a = same_refusal a b own' n own

      same_b : refusal_of (next h a) b ≡ refusal_of h b
      same_b = same_refusal b a own (λ e. n (sym e)) own'

      go : (s t : Bool) → is_none (refusal_of h a) ≡ s → is_none (refusal_of h b) ≡ t → next (next h a) b ≡ next (next h b) a
      go true true p q =
          both_moved a b own own' (none_given _ p) (same_b ∙ none_given _ q)
          ∙ ap (put h) (at_either (chips h) b.chip a.chip b.code a.code (λ e. n (sym e)))
          ∙ sym (both_moved b a own' own (none_given _ q) (same_a ∙ none_given _ p))
      go true false p q =
          next_stays (next h a) b (ap is_none same_b ∙ q) ∙ sym (ap (λ (g : Held). next g a) (next_stays h b q))
      go false t p q =
          ap (λ (g : Held). next g b) (next_stays h a p) ∙ sym (next_stays (next h b) a (ap is_none same_a ∙ p))
