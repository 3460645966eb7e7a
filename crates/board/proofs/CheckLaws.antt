-- The checks one after the other: the first that applies is given, and what passes them all is known. Assumes nothing.
use Rattle.std.specs.Prelude.{ℕ, ◌<◌, ◌≤◌, ◌≡◌, refl, Bool, true, false, cond, not, ◌&&◌, ◌||◌, List, [], ◌∷◌, eqb, leb, ltb, Some, None}
use Rattle.std.specs.List.{list_all}
use Rattle.std.proofs.Common.{sym, ap, eqb-true, leb-false, ltb-false}
use Rattle.std.proofs.lemmas.Bool.{eqb-false}
use Rattle.std.proofs.lemmas.Option.{none-some}
use Rattle.pins.specs.Sound.{sound}
use Rattle.pins.specs.declared.state.State.{State}
use Rattle.refusals.specs.declared.refusal.Refusal.TheVariants.{ArrayLength, Unsound, NoEvent, ChipCount, NoChip, SerialLength}
use Rattle.board.specs.Chips.{fitted, together, serials_together}
use Rattle.board.specs.Checks.{is_own, no_board, all_sound, checks}
use Rattle.board.specs.declared.chips.Board.{Board}

-- "no chips or over eight"
pub few : (count : ℕ) → no_board count ≡ false → count ≤ 8
unfolding no_board
few count h = ltb-false 8 count (second (eqb count 0) (ltb 8 count) h)
  where
    second : (a b : Bool) → (a || b) ≡ false → b ≡ false
    second true b e = cc
    second false b e = e

-- the chips one by one, as the code asks them
pub sounds_all : (ss : List State) → list_all sound ss ≡ all_sound ss
unfolding all_sound
sounds_all [] = refl
sounds_all (s ∷ ss) = ap (λ (b : Bool). sound s && b) (sounds_all ss)

-- what the checks let through
pub record Passed (b : Board) (len serials chip code : ℕ) : Type 0 where
  pub some : no_board b.count ≡ false
  pub few : b.count ≤ 8
  pub there : is_own code ≡ true → chip < b.count
  pub sound : all_sound (fitted b) ≡ true
  pub long : together (fitted b) ≡ len
  pub numbered : serials_together (fitted b) ≡ serials
  pub known : code < 12

pub checks_passed : (b : Board) (len serials chip code : ℕ) → checks b len serials chip code ≡ None → Passed b len serials chip code
unfolding checks
checks_passed b len serials chip code =
    go (no_board b.count) (is_own code && leb b.count chip) (all_sound (fitted b)) (eqb len (together (fitted b)))
    (eqb serials (serials_together (fitted b))) (leb 12 code)
    refl refl refl refl refl refl
  where
    -- not 14: the line is shared, or the chip is there
    named : (o l : Bool) → leb b.count chip ≡ l → (o && l) ≡ false → o ≡ true → chip < b.count
    named true true p e own = absurd (eqb-false 0 1 refl cc)
    named true false p e own = leb-false b.count chip p
    named false l p e own = absurd (eqb-false 0 1 refl cc)

    go : (n o s e m k : Bool) → no_board b.count ≡ n → (is_own code && leb b.count chip) ≡ o → all_sound (fitted b) ≡ s
        → eqb len (together (fitted b)) ≡ e → eqb serials (serials_together (fitted b)) ≡ m → leb 12 code ≡ k
        → cond n (Some ChipCount) (cond o (Some NoChip) (cond (not s) (Some Unsound) (cond (not e) (Some ArrayLength)
        (cond (not m) (Some SerialLength) (cond k (Some NoEvent) None)))))
        ≡ None
        → Passed b len serials chip code
    go true o s e m k pn po ps pe pm pk h = absurd (none-some ChipCount (sym h))
    go false true s e m k pn po ps pe pm pk h = absurd (none-some NoChip (sym h))
    go false false false e m k pn po ps pe pm pk h = absurd (none-some Unsound (sym h))
    go false false true false m k pn po ps pe pm pk h = absurd (none-some ArrayLength (sym h))
    go false false true true false k pn po ps pe pm pk h = absurd (none-some SerialLength (sym h))
    go false false true true true true pn po ps pe pm pk h = absurd (none-some NoEvent (sym h))
    go false false true true true false pn po ps pe pm pk h =
        record {
          some = pn;
          few = few b.count pn;
          there = named (is_own code) (leb b.count chip) refl po;
          sound = ps;
          long = sym (eqb-true _ _ pe);
          numbered = sym (eqb-true _ _ pm);
          known = leb-false 12 code pk;
        }
