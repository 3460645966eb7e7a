-- The bytes of the number that a list begins with: they stand at its front, up to the first whose top bit is not set.
-- Assumes nothing.
use Rattle.std.specs.Prelude.{◌≡◌, refl, ◌⊎◌, Bool, true, false, not, List, [], ◌∷◌, ℕ, zero, suc, ◌≤◌, ◌<◌, T, leb, length, get_or, take}
use Rattle.std.proofs.Common.{ap, inl, inr, ⊎_elim, arith, le-leb, leb→le}
use Rattle.std.proofs.Math.Path.{subst⁻¹}
use Rattle.std.proofs.lemmas.Bool.{lt-leb}
use Rattle.std.proofs.Math.Dec.{nleb→lt}
use Rattle.trace.specs.Form.{bytes}

pub below : (a b : ℕ) → (a < b) ⊎ (b ≤ a)
below a b = go (leb b a) (leb→le b a) (nleb→lt b a)
  where
    go : (t : Bool) → (T t → b ≤ a) → (T (not t) → a < b) → (a < b) ⊎ (b ≤ a)
    go true f g = inr (f tt)
    go false f g = inl (g tt)

pub bytes_one : (b : ℕ) (xs : List ℕ) → b < 128 → bytes (b ∷ xs) ≡ b ∷ []
bytes_one b xs h = simp (lt-leb 128 b h)

pub bytes_more : (b : ℕ) (xs : List ℕ) → 128 ≤ b → bytes (b ∷ xs) ≡ b ∷ bytes xs
bytes_more b xs h = simp (le-leb 128 b h)

pub bytes_within : (xs : List ℕ) → length (bytes xs) ≤ length xs
bytes_within [] = omega arith
bytes_within (b ∷ xs) =
    let q = bytes_within xs in
    ⊎_elim (λ h. omega (arith, ap length (bytes_one b xs h))) (λ h. omega (arith, ap length (bytes_more b xs h))) (below b 128)

pub bytes_first : (xs : List ℕ) → take (length (bytes xs)) xs ≡ bytes xs
bytes_first [] = refl
bytes_first (b ∷ xs) = ⊎_elim (λ h. simp (lt-leb 128 b h)) (λ h. simp (le-leb 128 b h, bytes_first xs)) (below b 128)

pub low_bytes : (xs : List ℕ) → ((i : ℕ) → get_or xs i 0 < 256) → (i : ℕ) → get_or (bytes xs) i 0 < 256
low_bytes [] byte i = byte i
low_bytes (b ∷ xs) byte i =
    ⊎_elim (λ h. subst⁻¹ (λ (l : List ℕ). get_or l i 0 < 256) (bytes_one b xs h) (then [] (λ j. omega arith) i))
    (λ h. subst⁻¹ (λ (l : List ℕ). get_or l i 0 < 256) (bytes_more b xs h) (then (bytes xs) (low_bytes xs (λ j. byte (suc j))) i))
    (below b 128)
  where
    then : (l : List ℕ) → ((j : ℕ) → get_or l j 0 < 256) → (i : ℕ) → get_or (b ∷ l) i 0 < 256
    then l low zero = byte 0
    then l low (suc i) = low i
