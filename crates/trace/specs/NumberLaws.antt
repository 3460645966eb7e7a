-- The laws of trace numbers, over the definitions that the contracts cite.
--     reads_back, write_reads_back     a number that is written reads back as written, with the place after it, whatever stands around it
--     read_form, one_form              each number has one form only: two byte strings that read as one number are the same bytes
--     form_fits, form_shortest         the form has at most `groups` bytes, and no bytes of the same value are fewer
--     no_read_gives_9                  four bytes hold no number above the largest, so that 9 is left to a write
--     forward, less_left               reading moves forward, and stays in the slice; so a loop over it ends
-- Assumes nothing.
use Rattle.std.specs.Prelude.{◌≡◌, refl, Bool, true, false, cond, ◌||◌, List, [], ◌∷◌, ◌++◌, ℕ, suc, ◌+◌, ◌-◌, ◌^◌, ◌≤◌, ◌<◌, T, eqb, ltb, length, get_or, take, drop, Some, Result, Ok}
use Rattle.std.proofs.Common.{sym, ap, ◌∙◌, subst, ⊎_elim, append_assoc, eq-or-lt_of_le, arith, le-ltb, lt-ltb, ltb-false, length-append, length-drop, drop_at, length-take-le, take-add, get_or-drop}
use Rattle.std.proofs.Math.Nat.{pow-succ', pow-le-pow_right}
use Rattle.std.proofs.Math.Seq.{drop-append_seam, slice}
use Rattle.trace.specs.Figures.{groups, largest}
use Rattle.trace.specs.Answers.{Told, number_read, ended, placed, refused_at, read_told}
use Rattle.trace.specs.Form.{bytes, value, cut_off, too_many, not_shortest, misshapen, whole, form}
use Rattle.trace.specs.Number.{reading, writing, over, slice_written}
use Rattle.trace.specs.Promises.{ReadPromise}
use Rattle.trace.specs.declared.answer.Read.{Read}
use Rattle.trace.specs.declared.answer.Read.TheVariants.{Number}
use Rattle.trace.specs.declared.answer.Refused.{Refused}
use Rattle.trace.specs.ByteLaws.{below, bytes_within, bytes_first, low_bytes}
use Rattle.trace.specs.ScanLaws.{sized, reading_beyond, reading_end, reading_inside, scanned_ill, scanned_well, scanned_spelt}
use Rattle.trace.specs.SpellingLaws.{Spells, few, some_bytes, shaped, form_spells, one_form as sole-form}
use Rattle.trace.specs.WriteLaws.{at_placing}

-- ---- the form

form_of : (n : ℕ) → n ≤ largest → Spells (form n) n groups
form_of n h = form_spells (groups - 1) n (omega arith)

-- "in at most four bytes"
pub form_fits : (n : ℕ) → n ≤ largest → length (form n) ≤ groups
form_fits n h = few (form_of n h)

value_small : (bs : List ℕ) → value bs < 128 ^ length bs
value_small [] = omega arith
value_small (b ∷ bs) = let h = value_small bs in omega (arith, pow-succ' 128 (length bs))

not_above : (bs : List ℕ) → misshapen groups bs ≡ false → ltb largest (value bs) ≡ false
not_above bs h =
    let short : length bs ≤ groups = ltb-false groups (length bs) (second (cut_off bs) (too_many groups bs) (not_shortest bs) h) in
    le-ltb largest (value bs) (omega (arith, value_small bs, pow-le-pow_right {n = 128} (omega arith) short))
  where
    second : (a b c : Bool) → (a || (b || c)) ≡ false → b ≡ false
    second true b c e = cc
    second false true c e = cc
    second false false c e = refl

-- "8 now speaks of over four bytes; 9 is given above 268,435,455" (document 02, Wish 7)
pub no_read_gives_9 : (s : List ℕ) (at : ℕ) → (reading s at).refusal ≡ 9 → ⊥
unfolding reading
no_read_gives_9 s at =
    let bs = bytes (drop at s) in
    go (ltb (length s) at) (eqb at (length s)) (misshapen groups bs) (ltb largest (value bs)) (value bs) (at + length bs) (not_above bs)
  where
    go : (beyond end ill above : Bool) (n next : ℕ) → (ill ≡ false → above ≡ false)
        → (cond beyond (refused_at 10 at) (cond end (ended at) (cond ill (refused_at 8 at) (cond above (refused_at 9 at) (number_read n next))))).refusal ≡ 9 → ⊥
    go true end ill above n next never e = omega (arith, e)
    go false true ill above n next never e = omega (arith, e)
    go false false true above n next never e = omega (arith, e)
    go false false false true n next never e = subst T (never refl) tt
    go false false false false n next never e = omega (arith, e)

-- "shortest form"
pub form_shortest : (b : ℕ) (bs : List ℕ) → length (form (value (b ∷ bs))) ≤ length (b ∷ bs)
form_shortest b bs = few (form_spells (length bs) (value (b ∷ bs)) (value_small (b ∷ bs)))

-- ---- a number that is written reads back as written

there : (s ys : List ℕ) (at n : ℕ) → n ≤ largest → at ≤ length s → drop at s ≡ form n ++ ys → reading s at ≡ number_read n (at + length (form n))
there s ys at n h p e =
    let f = form_of n h in
    let d = simp (length-drop, length-append) at (ap length e) in
    let inside : at < length s = omega (arith, d, some_bytes f) in
    reading_inside s at inside ∙ ap (sized at) (scanned_spelt s ys at e f) ∙ simp (le-ltb largest n h)

pub reads_back : (xs ys : List ℕ) (n : ℕ) → n ≤ largest → reading (xs ++ (form n ++ ys)) (length xs) ≡ number_read n (length xs + length (form n))
reads_back xs ys n h =
    there (xs ++ (form n ++ ys)) ys (length xs) n h (omega (arith, length-append xs (form n ++ ys))) (drop-append_seam xs (form n ++ ys))

-- ---- what an accepted call shows

no_row : {row at n next : ℕ} → refused_at (suc row) at ≡ number_read n next → ⊥
no_row e = let z = ap (λ (t : Told). t.refusal) e in omega arith

placing : (s : List ℕ) (at n next : ℕ) → writing s at n ≡ placed next → (n ≤ largest) × (at + length (form n) ≤ length s) × (next ≡ at + length (form n))
unfolding writing
placing s at n next e =
    ⊎_elim (λ h. absurd (no_row (simp (lt-ltb largest n h) at e))) (λ h.
    ⊎_elim (λ g. absurd (no_row (simp (le-ltb largest n h, lt-ltb (length s) at g) at e))) (λ g.
    ⊎_elim (λ f. absurd (no_row (simp (le-ltb largest n h, le-ltb (length s) at g, lt-ltb (length s - at) (length (form n)) f) at e))) (λ f.
    (h, omega arith, sym (ap (λ (t : Told). t.place) (simp (le-ltb largest n h, le-ltb (length s) at g, le-ltb (length s - at) (length (form n)) f) at e))))
    (below (length s - at) (length (form n)))) (below (length s) at)) (below largest n)

pub write_reads_back : (s : List ℕ) (at n next : ℕ) → writing s at n ≡ placed next → reading (slice_written s at n) at ≡ number_read n next
write_reads_back s at n next e =
    let p = placing s at n next e in
    let rest = drop (at + length (form n)) s in
    let front = length-take-le at s (omega arith) in
    let room : at ≤ length (over s at (form n)) = omega (arith, length-append (take at s ++ form n) rest, length-append (take at s) (form n), front) in
    ap (λ (l : List ℕ). reading l at) (sym (at_placing s at n next (sym e)))
    ∙ there (over s at (form n)) rest at n p.0 room (ap (drop at) (append_assoc (take at s) (form n) rest) ∙ drop_at (take at s) (form n ++ rest) at front)
    ∙ ap (number_read n) (sym p.2)

-- ---- an accepted read

not_end : {at n next : ℕ} → ended at ≡ number_read n next → ⊥
not_end {n = n} e = let z : ◌≡◌ {A = ℕ} 0 1 = cc (ap (λ (t : Told). t.value) e) in omega arith

num_of : {m n i j : ℕ} → number_read m i ≡ number_read n j → m ≡ n
num_of e = cc (ap (λ (t : Told). t.value) e)

sized_is : (at v p n next : ℕ) → sized at (Some (whole v p)) ≡ number_read n next → (v ≡ n) × (p ≡ next)
sized_is at v p n next e =
    ⊎_elim (λ h. absurd (no_row (simp (lt-ltb largest v h) at e)))
    (λ h. let q = simp (le-ltb largest v h) at e in (num_of q, ap (λ (t : Told). t.place) q))
    (below largest v)

record Accepts (s : List ℕ) (at n next : ℕ) : Type 0 where
  inside : at < length s
  spells : Spells (bytes (drop at s)) n groups
  after : at + length (bytes (drop at s)) ≡ next

accepting : (s : List ℕ) (at n next : ℕ) → reading s at ≡ number_read n next → Accepts s at n next
accepting s at n next e =
    ⊎_elim (λ h. absurd (no_row (sym (reading_beyond s at h) ∙ e)))
    (λ h. ⊎_elim (λ q. absurd (not_end (sym (reading_end s at q) ∙ e))) before (eq-or-lt_of_le h))
    (below (length s) at)
  where
    before : at < length s → Accepts s at n next
    before h =
        let r = sym (reading_inside s at h) ∙ e in
        ⊎_elim (λ m. absurd (no_row (sym (ap (sized at) (scanned_ill s at groups m)) ∙ r)))
        (λ p. let q = sized_is at _ _ n next (sym (ap (sized at) (scanned_well s at groups p)) ∙ r) in record { inside = h; spells = subst (λ (m : ℕ). Spells (bytes (drop at s)) m groups) q.0 p; after = q.1 })
        (shaped groups (drop at s))

pub forward : (s : List ℕ) (at n next : ℕ) → reading s at ≡ number_read n next → (at < next) × (next ≤ length s)
forward s at n next e =
    let a = accepting s at n next e in
    omega (arith, some_bytes a.spells, bytes_within (drop at s), length-drop at s)

pub less_left : (s : List ℕ) (at n next : ℕ) (found : Result Read Refused) → ReadPromise s at found → found ≡ Ok (Number n next)
    → length s - next < length s - at
less_left s at n next found read is = omega (arith, forward s at n next (sym read ∙ ap read_told is))

pub read_form : (s : List ℕ) (at n next : ℕ) → ((i : ℕ) → get_or s i 0 < 256) → reading s at ≡ number_read n next → slice at next s ≡ form n
read_form s at n next byte e =
    let a = accepting s at n next e in
    let xs = drop at s in
    let front = length-take-le at s (omega arith) in
    ap (λ (k : ℕ). drop at (take k s)) (sym a.after)
    ∙ ap (drop at) (take-add at (length (bytes xs)) s)
    ∙ drop_at (take at s) (take (length (bytes xs)) xs) at front
    ∙ bytes_first xs
    ∙ sole-form (low_bytes xs (λ i. rw get_or-drop (byte (at + i)))) a.spells

pub one_form :
    (s t : List ℕ) (i j n k l : ℕ) → ((m : ℕ) → get_or s m 0 < 256) → ((m : ℕ) → get_or t m 0 < 256)
    → reading s i ≡ number_read n k → reading t j ≡ number_read n l → slice i k s ≡ slice j l t
one_form s t i j n k l p q d e = read_form s i n k p d ∙ sym (read_form t j n l q e)
