-- The loop that powers up each chip over its piece, turn by turn; and what an accepted power-up says. Assumes nothing.
use Rattle.std.specs.Prelude.{ℕ, suc, ◌+◌, ◌-◌, ◌*◌, ◌≤◌, ◌<◌, ◌≡◌, refl, Bool, true, false, cond, not, ◌&&◌, [], eqb, length, get_or, set, Some, None}
use Rattle.std.specs.List.{list_all, sum_by}
use Rattle.std.proofs.Common.{zero-le, lit≤, le_antisymm, lt_of_lt_of_le, arith, ◌∙◌, length-set, drop-drop, eqb-true}
use Rattle.std.proofs.Math.Path.{sym, ap, subst}
use mathlib.Core.List.{List, ◌∷◌, ◌++◌}
use Rattle.std.proofs.Math.ListN.{take, drop, take-append-drop}
use Rattle.std.proofs.lemmas.Option.{none-some}
use Rattle.std.proofs.lemmas.List.Recursion.{is_sum_by}
use Rattle.parts.specs.Figures.{is_part, in_mask}
use Rattle.parts.specs.FigureLaws.{most, largest}
use Rattle.pins.specs.declared.state.State.{State}
use Rattle.refusals.specs.declared.refusal.Refusal.TheVariants.{NoPart, ArrayLength, KeptBits, ChipCount}
use Rattle.supply.specs.Power as chip
use Rattle.board.specs.Chips.{piece_length, sum}
use Rattle.board.specs.Checks.{no_board}
use Rattle.board.proofs.CheckLaws.{few}
use Rattle.board.specs.Power.{asked, all_parts, all_masked, together_asked, power_refusal, powered, spare}
use Rattle.board.proofs.WalkLaws.{rest_next, rest_none, place_next, none_added, added}
use Rattle.board.specs.declared.power.Asked.{Asked}
use Rattle.board.specs.declared.power.Plan.{Plan}

-- at chip i those before it have their states, and what comes of it all is fixed
pub record Powering (qs : List Asked) (xs : List ℕ) (chips : List State) (start i : ℕ) : Type 0 where
  pub inside : i ≤ length qs
  pub few : length qs ≤ length chips
  pub long : start + together_asked (drop i qs) ≡ length xs
  pub states :
      take i chips ++ (powered (drop i qs) (drop start xs) ++ drop (length qs) chips)
      ≡ powered qs xs ++ drop (length qs) spare

module _ (qs : List Asked) (xs : List ℕ) where
  pub powering_starts : length qs ≤ 8 → together_asked qs ≡ length xs → Powering qs xs spare 0 0
  powering_starts k e = record { inside = zero-le; few = k; long = none_added _ ∙ e; states = refl }

  module _ (chips : List State) (start i : ℕ) (g : Powering qs xs chips start i) where
    pub powering_ends : length qs ≤ i → chips ≡ powered qs xs ++ drop (length qs) spare
    unfolding powered
    powering_ends h =
        sym (ap (λ (k : ℕ). take k chips ++ drop (length qs) chips) (le_antisymm g.inside h) ∙ take-append-drop (length qs) chips)
        ∙ sym (ap (λ (more : List Asked). take i chips ++ (powered more (drop start xs) ++ drop (length qs) chips)) (rest_none qs i g.inside h))
        ∙ g.states

    module _ (d : Asked) (h : i < length qs) where
      abbrev one : Asked
      one = get_or qs i d

      abbrev size : ℕ
      size = piece_length one.part

      abbrev more : List Asked
      more = drop (i + 1) qs

      on : drop i qs ≡ one ∷ more
      on = rest_next qs i d h

      long : start + (size + together_asked more) ≡ length xs
      unfolding sum
      long = sym (ap (λ (rest : List Asked). start + together_asked rest) on) ∙ g.long

      pub asked_inside : (m : ℕ) → m ≡ size → start + m ≤ length xs
      asked_inside m e = inner start size (together_asked more) (length xs) m e long
        where
          inner : (a q t n m : ℕ) → m ≡ q → a + (q + t) ≡ n → a + m ≤ n
          inner a q t n m e l = omega (arith, e, l)

      -- as the code has it: the piece ends at start + m
      module _ (m : ℕ) (e : m ≡ size) (r : State) where
        abbrev k : ℕ
        k = start + m - start

        as_lent : k ≡ size
        as_lent = back start m size e
          where
            back : (a m q : ℕ) → m ≡ q → a + m - a ≡ q
            back a m q e = omega (arith, e)

        pub powering_on :
            r ≡ (chip.power_up one.part one.kept (take k (drop start xs))).state
            → Powering qs xs (set chips i r) (start + m) (i + 1)
        unfolding powered
        powering_on told =
            record {
              inside = omega (arith, h);
              few = subst (λ (z : ℕ). length qs ≤ z) (sym (length-set chips i r)) g.few;
              long = added start size (together_asked more) (length xs) m e long;
              states = put;
            }
          where
            put : take (i + 1) (set chips i r) ++ (powered more (drop (start + m) xs) ++ drop (length qs) (set chips i r))
                ≡ powered qs xs ++ drop (length qs) spare
            put =
                ap (λ (zs : List ℕ). take (i + 1) (set chips i r) ++ (powered more zs ++ drop (length qs) (set chips i r)))
                (ap (λ (z : ℕ). drop (start + z) xs) e ∙ sym (drop-drop size start xs))
                ∙ place_next chips (powered more (drop size (drop start xs))) (length qs) i r h (lt_of_lt_of_le h g.few)
                ∙ ap (λ (u : State). take i chips ++ (u ∷ (powered more (drop size (drop start xs)) ++ drop (length qs) chips)))
                (told ∙ ap (λ (z : ℕ). (chip.power_up one.part one.kept (take z (drop start xs))).state) as_lent)
                ∙ sym (ap (λ (rest : List Asked). take i chips ++ (powered rest (drop start xs) ++ drop (length qs) chips)) on)
                ∙ g.states

-- those that are asked for one by one, as the code asks them
pub parts_all : (qs : List Asked) → list_all (λ a. is_part a.part) qs ≡ all_parts qs
unfolding all_parts
parts_all [] = refl
parts_all (a ∷ qs) = ap (λ (b : Bool). is_part a.part && b) (parts_all qs)

pub masked_all : (qs : List Asked) → list_all (λ a. in_mask a.part a.kept) qs ≡ all_masked qs
unfolding all_masked
masked_all [] = refl
masked_all (a ∷ qs) = ap (λ (b : Bool). in_mask a.part a.kept && b) (masked_all qs)

-- no piece is longer than the longest, so eight can be counted
pub asked_sum : (qs : List Asked) → sum_by (λ a. piece_length a.part) qs ≡ together_asked qs
unfolding sum
asked_sum qs = sym (is_sum_by (λ rest. together_asked rest) (λ a. piece_length a.part) refl (λ _ _. refl) qs)

pub asked_small : (qs : List Asked) → together_asked qs ≤ most * length qs
unfolding sum
asked_small [] = lit≤ tt
asked_small (a ∷ qs) = still _ _ _ (largest a.part) (asked_small qs)
  where
    still : (p t n : ℕ) → p ≤ most → t ≤ most * n → p + t ≤ most * suc n
    still p t n h e = omega (arith, h, e)

-- what the refusals let through
pub record Allowed (p : Plan) (len : ℕ) : Type 0 where
  pub some : no_board p.count ≡ false
  pub few : p.count ≤ 8
  pub parts : all_parts (asked p) ≡ true
  pub long : together_asked (asked p) ≡ len
  pub masked : all_masked (asked p) ≡ true

pub power_allowed : (p : Plan) (len : ℕ) → power_refusal p len ≡ None → Allowed p len
unfolding power_refusal
power_allowed p len =
    go (no_board p.count) (all_parts (asked p)) (eqb len (together_asked (asked p))) (all_masked (asked p)) refl refl refl refl
  where
    go :
        (n a e m : Bool) → no_board p.count ≡ n → all_parts (asked p) ≡ a → eqb len (together_asked (asked p)) ≡ e
        → all_masked (asked p) ≡ m
        → cond n (Some ChipCount) (cond (not a) (Some NoPart) (cond (not e) (Some ArrayLength) (cond (not m) (Some KeptBits) None))) ≡ None
        → Allowed p len
    go true a e m pn pa pe pm h = absurd (none-some ChipCount (sym h))
    go false false e m pn pa pe pm h = absurd (none-some NoPart (sym h))
    go false true false m pn pa pe pm h = absurd (none-some ArrayLength (sym h))
    go false true true false pn pa pe pm h = absurd (none-some KeptBits (sym h))
    go false true true true pn pa pe pm h = record { some = pn; few = few p.count pn; parts = pa; long = sym (eqb-true _ _ pe); masked = pm }
