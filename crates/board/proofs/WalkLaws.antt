-- A walk over a list: what is left of it at place i, and what holds of it from turn to turn. Assumes nothing.
use Rattle.std.specs.Prelude.{ℕ, suc, ◌+◌, ◌<◌, ◌≤◌, ◌≡◌, Bool, true, false, ◌&&◌, List, [], ◌∷◌, ◌++◌, map, length, take, drop, get_or, set}
use Rattle.std.proofs.Common.{le_antisymm, arith, sym, ap, subst, ◌∙◌, append_assoc, drop-cons, take-suc-set, drop-set-lt}
use Rattle.std.proofs.lemmas.List.{length-map}
use Rattle.std.proofs.Math.Seq.{drop-length}

-- an array's places, counted through its elements' own form
pub within : {A B : Type 0} (f : A → B) (l : List A) (n k : ℕ) → length (map f l) ≡ k → n ≤ k → n ≤ length l
within f l n k e h = subst (λ (m : ℕ). n ≤ m) (sym e ∙ length-map l f) h

pub one_on : (k : ℕ) → suc k ≡ k + 1
one_on k = omega arith

module _ {A : Type 0} (l : List A) where
  pub rest_next : (i : ℕ) (d : A) → i < length l → drop i l ≡ get_or l i d ∷ drop (i + 1) l
  rest_next i d h = drop-cons l i d h ∙ ap (λ (k : ℕ). get_or l i d ∷ drop k l) (one_on i)

  pub rest_none : (i : ℕ) → i ≤ length l → length l ≤ i → drop i l ≡ []
  rest_none i p q = ap (λ (k : ℕ). drop k l) (le_antisymm p q) ∙ drop-length l

  -- what is said of those that are left is said of the next one and those behind it; past the last one, of none
  module _ {B : Type 0} (g : List A → B) (i : ℕ) (w : B) (inv : g (drop i l) ≡ w) where
    pub walk_next : (d : A) → i < length l → g (get_or l i d ∷ drop (i + 1) l) ≡ w
    walk_next d h = sym (ap g (rest_next i d h)) ∙ inv

    pub walk_none : i ≤ length l → length l ≤ i → g [] ≡ w
    walk_none p q = sym (ap g (rest_none i p q)) ∙ inv

-- place i put, and those behind it still to come
pub put_next :
    {A : Type 0} (l more : List A) (i : ℕ) (t : A) → i < length l → take (i + 1) (set l i t) ++ more ≡ take i l ++ (t ∷ more)
put_next {A} l more i t h =
    ap (λ (j : ℕ). take j (set l i t) ++ more) (sym (one_on i))
    ∙ ap (λ (q : List A). q ++ more) (take-suc-set l i t h)
    ∙ append_assoc (take i l) (t ∷ []) more

-- and those from n on, which nothing is put in
pub place_next :
    {A : Type 0} (l more : List A) (n i : ℕ) (t : A) → i < n → i < length l
    → take (i + 1) (set l i t) ++ (more ++ drop n (set l i t)) ≡ take i l ++ (t ∷ (more ++ drop n l))
place_next {A} l more n i t h k =
    ap (λ (q : List A). take (i + 1) (set l i t) ++ (more ++ q)) (drop-set-lt n l i t h) ∙ put_next l (more ++ drop n l) i t k

-- a test of each: it goes on past one that passes, and fails at one that fails
pub passed : (a b w : Bool) → a ≡ true → (a && b) ≡ w → b ≡ w
passed true b w p e = e
passed false b w p e = cc

pub failed : (a b w : Bool) → a ≡ false → (a && b) ≡ w → false ≡ w
failed true b w p e = cc
failed false b w p e = e

-- a sum of each: what is still to be added goes over to what is added
pub none_added : (w : ℕ) → 0 + w ≡ w
none_added w = omega arith

pub added : (sum a b w n : ℕ) → n ≡ a → sum + (a + b) ≡ w → sum + n + b ≡ w
added sum a b w n p e = omega (arith, p, e)

pub all_added : (sum w : ℕ) → sum + 0 ≡ w → sum ≡ w
all_added sum w e = omega (arith, e)
