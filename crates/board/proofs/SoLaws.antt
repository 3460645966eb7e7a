-- The loop's SO is the line's: one driver's level until a second one comes, then fight. And the numbers say all. Assumes
-- nothing.
use Rattle.std.specs.Prelude.{ℕ, ◌+◌, ◌<◌, cond, List, [], ◌∷◌, ◌≡◌, refl, eqb, length, get_or, drop}
use Rattle.std.specs.List.{fold}
use Rattle.std.proofs.Common.{sym, ◌∙◌}
use Rattle.std.proofs.Math.Path.{ap}
use Rattle.select.specs.declared.notes.Level.{Level}
use Rattle.select.specs.declared.notes.Level.TheVariants as level
use Rattle.pins.specs.Levels.{so_level}
use Rattle.pins.specs.declared.state.State.{State}
use Rattle.board.specs.So.{so_number, driven, line, levels, board_so}
use Rattle.board.specs.Loop.{joined, joined_all}
use Rattle.board.proofs.WalkLaws.{walk_next}
use Rattle.board.specs.declared.so.BoardSo.{BoardSo}
use Rattle.board.specs.declared.so.BoardSo.TheVariants.{Low, High, Released, Fight}

fights : (ss : List State) → joined_all Fight ss ≡ Fight
unfolding joined_all
fights [] = refl
fights (s ∷ ss) = go (so_level s) (fights ss)
  where
    go : (l : Level) → joined_all Fight ss ≡ Fight → joined_all (joined Fight l) ss ≡ Fight
    go level.Low more = more
    go level.High more = more
    go level.Released more = more

low : (ss : List State) → joined_all Low ss ≡ line (level.Low ∷ driven (levels ss))
unfolding joined_all levels line driven
low [] = refl
low (s ∷ ss) = go (so_level s) (low ss)
  where
    go :
        (l : Level) → joined_all Low ss ≡ line (level.Low ∷ driven (levels ss))
        → joined_all (joined Low l) ss ≡ line (level.Low ∷ driven (l ∷ levels ss))
    go level.Low more = fights ss
    go level.High more = fights ss
    go level.Released more = more

high : (ss : List State) → joined_all High ss ≡ line (level.High ∷ driven (levels ss))
unfolding joined_all levels line driven
high [] = refl
high (s ∷ ss) = go (so_level s) (high ss)
  where
    go :
        (l : Level) → joined_all High ss ≡ line (level.High ∷ driven (levels ss))
        → joined_all (joined High l) ss ≡ line (level.High ∷ driven (l ∷ levels ss))
    go level.Low more = fights ss
    go level.High more = fights ss
    go level.Released more = more

pub joined_line : (ss : List State) → joined_all Released ss ≡ board_so ss
unfolding joined_all board_so levels line driven
joined_line [] = refl
joined_line (s ∷ ss) = go (so_level s) (joined_line ss)
  where
    go : (l : Level) → joined_all Released ss ≡ line (driven (levels ss)) → joined_all (joined Released l) ss ≡ line (driven (l ∷ levels ss))
    go level.Low more = low ss
    go level.High more = high ss
    go level.Released more = more

-- chip by chip, as the code folds them
pub joined_fold : (so : BoardSo) (ss : List State) → fold (λ so s. joined so (so_level s)) so ss ≡ joined_all so ss
unfolding joined_all
joined_fold so [] = refl
joined_fold so (s ∷ ss) = joined_fold (joined so (so_level s)) ss

-- one turn
module _ (l : List State) (i : ℕ) (d : State) (h : i < length l) where
  pub joined_next :
      (so so' w : BoardSo) (level : Level) → so' ≡ joined so level → level ≡ so_level (get_or l i d)
      → joined_all so (drop i l) ≡ w → joined_all so' (drop (i + 1) l) ≡ w
  unfolding joined_all
  joined_next so so' w level p q inv =
      ap (λ (a : BoardSo). joined_all a (drop (i + 1) l)) (p ∙ ap (joined so) q) ∙ walk_next l (joined_all so) i w inv d h

so_of : ℕ → BoardSo
so_of n = cond (eqb n 0) Low (cond (eqb n 1) High (cond (eqb n 2) Released Fight))

so_back : (so : BoardSo) → so_of (so_number so) ≡ so
unfolding so_of
so_back Low = refl
so_back High = refl
so_back Released = refl
so_back Fight = refl

pub so_sole : (a b : BoardSo) → so_number a ≡ so_number b → a ≡ b
so_sole a b e = sym (so_back a) ∙ ap so_of e ∙ so_back b
