-- What it is that bytes spell a number: the one idea behind the laws of reading and of writing.
-- Assumes nothing.
use Rattle.std.specs.Prelude.{◌≡◌, refl, ◌⊎◌, Bool, true, false, cond, ◌&&◌, ◌||◌, List, [], ◌∷◌, ◌++◌, ℕ, zero, suc, ◌+◌, ◌*◌, ◌/◌, ◌%◌, ◌^◌, ◌≤◌, ◌<◌, ltb, eqb, length, get_or}
use Rattle.std.proofs.Common.{sym, ap, ap₂, ◌∙◌, subst, inl, inr, ⊎_elim, eq-zero-or-pos, arith, le-leb, lt-ltb, le-ltb, ne_eqb, eq-eqb}
use Rattle.std.proofs.Math.Path.{subst⁻¹}
use Rattle.std.proofs.Math.Bool.{and-false, or-true}
use Rattle.std.proofs.Math.Nat.{pow-succ'}
use Rattle.std.proofs.lemmas.Bool.{lt-leb}
use Rattle.std.proofs.Math.Dec.{leb-suc-suc}
use Rattle.trace.specs.ByteLaws.{below, bytes_one, bytes_more}
use Rattle.trace.specs.Form.{goes_on, bytes, value, cut_off, last, not_shortest, misshapen, spelt, form}

-- `Spells bs n k`: bs are the groups of n, the low one first, at most k of them, and the last of several is not 0
pub data Spells : List ℕ → ℕ → ℕ → Type 0 where
  one : {b k : ℕ} → b < 128 → Spells (b ∷ []) b (suc k)
  more : {b n k : ℕ} {bs : List ℕ} → 128 ≤ b → 0 < n → Spells bs n k → Spells (b ∷ bs) (b % 128 + 128 * n) (suc k)

-- ---- what is spelt is well shaped

whole : {bs : List ℕ} {n k : ℕ} → Spells bs n k → cut_off bs ≡ false
whole (one h) = simp (lt-leb _ _ h)
whole (more h p s) = simp (le-leb _ _ h, whole s)

pub few : {bs : List ℕ} {n k : ℕ} → Spells bs n k → length bs ≤ k
few (one h) = omega arith
few (more h p s) = let q = few s in omega arith

pub some_bytes : {bs : List ℕ} {n k : ℕ} → Spells bs n k → 0 < length bs
some_bytes (one h) = omega arith
some_bytes (more h p s) = omega arith

last_of : {bs : List ℕ} {n k : ℕ} (b : ℕ) → Spells bs n k → last (b ∷ bs) ≡ last bs
last_of b (one h) = refl
last_of b (more h p s) = refl

last_zero : {bs : List ℕ} {n k : ℕ} → Spells bs n k → eqb (last bs) 0 ≡ eqb n 0
last_zero (one h) = refl
last_zero (more {b = b} {n = n} h p s) =
    rw (last_of b s) (last_zero s ∙ ne_eqb n 0 (omega arith) ∙ sym (ne_eqb (b % 128 + 128 * n) 0 (omega arith)))

shortest : {bs : List ℕ} {n k : ℕ} → Spells bs n k → not_shortest bs ≡ false
shortest (one h) = refl
shortest (more {b = b} {n = n} h p s) = simp (last_of b s, last_zero s, ne_eqb n 0 (omega arith), and-false)

pub well_shaped : {bs : List ℕ} {n k : ℕ} → Spells bs n k → misshapen k bs ≡ false
well_shaped s = simp (whole s, le-ltb _ _ (few s), shortest s)

pub spelt_value : {bs : List ℕ} {n k : ℕ} → Spells bs n k → value bs ≡ n
spelt_value (one h) = omega arith
spelt_value (more h p s) = rw (spelt_value s)

-- ---- a byte with the top bit set, before bytes that are misshapen, or that spell n

kept : (p q r l : Bool) → (p || (q || (r && l))) ≡ true → (p || (q || l)) ≡ true
kept true q r l h = refl
kept false true r l h = refl
kept false false true l h = h
kept false false false true h = refl
kept false false false false h = h

pub misshapen_more : (b k : ℕ) (bs : List ℕ) → 128 ≤ b → misshapen k bs ≡ true → misshapen (suc k) (b ∷ bs) ≡ true
misshapen_more b k [] h m = simp (le-leb 128 b h)
misshapen_more b k (c ∷ bs) h m =
    simp (le-leb 128 b h, leb-suc-suc (suc k) (suc (length bs)), le-leb 2 (suc (suc (length bs))) (omega arith)) (kept (cut_off (c ∷ bs)) (ltb k (length (c ∷ bs))) (ltb 1 (length (c ∷ bs))) (eqb (last (c ∷ bs)) 0) m)

pub misshapen_zero : {bs : List ℕ} {n k : ℕ} (b : ℕ) → 128 ≤ b → Spells bs n k → misshapen (suc k) (b ∷ bs) ≡ eqb n 0
misshapen_zero {bs} {n} {k} b h s =
    simp (le-leb 128 b h, whole s, le-ltb (suc k) (suc (length bs)) (let q = few s in omega arith), lt-ltb 1 (suc (length bs)) (let q = some_bytes s in omega arith), last_of b s, last_zero s)

-- ---- the bytes that a list begins with are misshapen, or spell their value

abbrev pub Shaped : ℕ → List ℕ → Type 0
Shaped k bs = (misshapen k bs ≡ true) ⊎ Spells bs (value bs) k

pub shaped : (k : ℕ) (xs : List ℕ) → Shaped k (bytes xs)
shaped k [] = inl refl
shaped zero (b ∷ xs) = inl (simp (lt-ltb 0 (suc (length (cond (goes_on b) (bytes xs) []))) (omega arith), or-true))
shaped (suc k) (b ∷ xs) =
    ⊎_elim (λ h. subst⁻¹ (Shaped (suc k)) (bytes_one b xs h) (inr (subst (λ (n : ℕ). Spells (b ∷ []) n (suc k)) (omega arith) (one h))))
    (λ h. subst⁻¹ (Shaped (suc k)) (bytes_more b xs h) (⊎_elim (λ m. inl (misshapen_more b k (bytes xs) h m)) (next h) (shaped k xs)))
    (below b 128)
  where
    next : 128 ≤ b → Spells (bytes xs) (value (bytes xs)) k → Shaped (suc k) (b ∷ bytes xs)
    next h s = ⊎_elim (λ z. inl (misshapen_zero b h s ∙ eq-eqb (value (bytes xs)) 0 z)) (λ p. inr (more h p s)) (eq-zero-or-pos (value (bytes xs)))

-- ---- reading stops at its end, whatever follows

pub spelt_alone : {bs : List ℕ} {n k : ℕ} (ys : List ℕ) → Spells bs n k → bytes (bs ++ ys) ≡ bs
spelt_alone ys (one h) = simp (lt-leb _ _ h)
spelt_alone ys (more h p s) = simp (le-leb _ _ h, spelt_alone ys s)

-- ---- the form of a number spells it

spelt_enough : (k j n : ℕ) → n ≤ k → n ≤ j → spelt k n ≡ spelt j n
spelt_enough zero zero n p q = refl
spelt_enough zero (suc j) n p q = simp (lt-ltb n 128 (omega arith))
spelt_enough (suc k) zero n p q = simp (lt-ltb n 128 (omega arith))
spelt_enough (suc k) (suc j) n p q =
    ⊎_elim (λ h. simp (lt-ltb n 128 h)) (λ h. simp (le-ltb n 128 h, spelt_enough k j (n / 128) (omega arith) (omega arith))) (below n 128)

pub form_one : (n : ℕ) → n < 128 → form n ≡ n ∷ []
unfolding form
form_one zero h = refl
form_one (suc n) h = simp (lt-ltb (suc n) 128 h)

pub form_more : (n : ℕ) → 128 ≤ n → form n ≡ (128 + n % 128) ∷ form (n / 128)
unfolding form
form_more zero h = absurd (omega arith)
form_more (suc n) h = simp (le-ltb (suc n) 128 h, spelt_enough n (suc n / 128) (suc n / 128) (omega arith) (omega arith))

pub form_length : (n : ℕ) → 128 ≤ n → length (form n) ≡ suc (length (form (n / 128)))
form_length n h = ap length (form_more n h)

pub form_spells : (k n : ℕ) → n < 128 ^ suc k → Spells (form n) n (suc k)
form_spells zero n h = rw (form_one n h) (one h)
form_spells (suc k) n h =
    ⊎_elim (λ l. rw (form_one n l) (one l)) (λ l. rw (form_more n l) (again l (form_spells k (n / 128) (omega (arith, pow-succ' 128 (suc k)))))) (below n 128)
  where
    again : 128 ≤ n → Spells (form (n / 128)) (n / 128) (suc k) → Spells ((128 + n % 128) ∷ form (n / 128)) n (suc (suc k))
    again l s = subst (λ (m : ℕ). Spells ((128 + n % 128) ∷ form (n / 128)) m (suc (suc k))) (omega arith) (more (omega arith) (omega arith) s)

-- ---- a number has one form only

pub one_form : {bs : List ℕ} {n k : ℕ} → ((i : ℕ) → get_or bs i 0 < 256) → Spells bs n k → bs ≡ form n
one_form {n = n} byte (one h) = sym (form_one n h)
one_form byte (more {b = b} {n = n} {bs = bs} h p s) =
    sym (form_more (b % 128 + 128 * n) (omega arith) ∙ ap₂ (λ (x : ℕ) (l : List ℕ). x ∷ l) (omega (arith, byte 0)) (ap form (omega arith) ∙ sym (one_form (λ i. byte (suc i)) s)))
