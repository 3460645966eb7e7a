-- Printing on a page: nothing, on a full page, one byte, and one text behind another, which is printing them as one.
-- Assumes nothing.
use Rattle.std.specs.Prelude.{◌≡◌, Bool, true, false, cond, List, [], ◌∷◌, ◌++◌, ℕ, suc, ◌+◌, ◌-◌, ◌≤◌, ◌<◌, length, min, set, take, drop, get_or}
use Rattle.std.proofs.Common.{refl, sym, ap, ◌∙◌, ⊎_elim, add-zero, add-suc, suc-add, add-one, arith, length-set, drop_of_length-le, length-take-le, take_at, drop-cons}
use Rattle.std.proofs.Math.Nat.{min_comm, le_refl}
use Rattle.std.proofs.Math.Seq.{sets, length-sets, take-nil}
use Rattle.std.proofs.lemmas.List.{take_all, take_min}
use Rattle.std.proofs.lemmas.List.Edits.{sets-eq}
use Rattle.std.proofs.lemmas.Slice.{put_mid-paste}
use borrow.Rule.Slice.PartMut.{put_mid}
use Rattle.std.proofs.lemmas.Bool.{cases_lt}
use Rattle.report.specs.Page.{Page, page_of, fits, printed}
use Rattle.report.specs.PageLaws.{cut_fits, printed_front}

pub print_none : (p : Page) → printed p [] ≡ p
unfolding printed
print_none p = rw (take-nil {A = ℕ} (length p.bytes - p.at), add-zero p.at)

pub print_full : (bs : List ℕ) (at : ℕ) (text : List ℕ) → length bs ≤ at → printed (page_of bs at) text ≡ page_of bs at
unfolding printed
print_full bs at text h =
    let room : length bs - at ≡ 0 = omega arith in
    rw (room, add-zero at)

print_one : (bs : List ℕ) (at x : ℕ) (xs : List ℕ) → at < length bs
    → printed (page_of bs at) (x ∷ xs) ≡ printed (page_of (set bs at x) (suc at)) xs
unfolding printed
print_one bs at x xs h =
    let room : length bs - at ≡ suc (length bs - suc at) = omega arith in
    rw (room, length-set bs at x, add-suc, suc-add)

-- a text written over a part of the slice that is as long
written : (a text part : List ℕ) (at k : ℕ) → at + length text ≤ length a → k ≡ length text → part ≡ text → put_mid at k a part ≡ sets a at text
written a text part at k h size e =
    put_mid-paste at k a part text (length text) e (sym size) refl
    ∙ rw (take_all (length text) text (le_refl (length text))) (sym (sets-eq text a at h))

-- as much of a text as has room, written over the part of the slice that is as long
pub print_part : (bs text part : List ℕ) (at k n : ℕ) → at ≤ length bs → n ≡ min (length text) (length bs - at) → k ≡ n → part ≡ take n text
    → page_of (put_mid at k bs part) (at + n) ≡ printed (page_of bs at) text
unfolding printed
print_part bs text part at k n h is size e = λ i. page_of ((stored ∙ ap (sets bs at) front) i) (at + (counted ∙ ap length front) i)
  where
    counted : n ≡ length (take n text)
    counted = sym (length-take-le n text (omega (arith, is)))

    stored : put_mid at k bs part ≡ sets bs at (take n text)
    stored = (written bs (take n text) part at k (omega (arith, is, counted)) (size ∙ counted) e)

    front : take n text ≡ take (length bs - at) text
    front = rw (is, min_comm (length text) (length bs - at)) (take_min (length bs - at) text)

-- a text behind another is the two as one
pub print_twice : (bs : List ℕ) (at : ℕ) (a b : List ℕ) → printed (printed (page_of bs at) a) b ≡ printed (page_of bs at) (a ++ b)
print_twice bs at [] b = ap (λ (p : Page). printed p b) (print_none (page_of bs at))
print_twice bs at (x ∷ a) b =
    ⊎_elim
    (λ h. ap (λ (p : Page). printed p b) (print_one bs at x a h) ∙ print_twice (set bs at x) (suc at) a b ∙ sym (print_one bs at x (a ++ b) h))
    (λ h. ap (λ (p : Page). printed p b) (print_full bs at (x ∷ a) h) ∙ print_full bs at b h ∙ sym (print_full bs at (x ∷ a ++ b) h))
    (cases_lt at (length bs))

-- a text printed where another ended
pub print_then : (p q r : Page) (a b : List ℕ) → q ≡ printed p a → r ≡ printed q b → r ≡ printed p (a ++ b)
print_then p q r a b first second = second ∙ ap (λ (x : Page). printed x b) first ∙ print_twice p.bytes p.at a b

-- a text that a test lets be printed, and one that it does not
pub print_if : (p q : Page) (v w : Bool) (text : List ℕ) → v ≡ w → v ≡ true → q ≡ printed p text → q ≡ printed p (cond w text [])
print_if p q v w text which h e = rw (← which, h) e

pub print_not : (p : Page) (v w : Bool) (text : List ℕ) → v ≡ w → v ≡ false → p ≡ printed p (cond w text [])
print_not p v w text which h = rw (← which, h) (sym (print_none p))

-- the slice is as long as it was
print_length : (p : Page) (text : List ℕ) → length (printed p text).bytes ≡ length p.bytes
unfolding printed
print_length p text = length-sets p.bytes p.at (fits p text)

-- byte number i of a text, and the others
pub print_on : (bs : List ℕ) (at : ℕ) (text : List ℕ) (i : ℕ) → at < length bs → i < length text
    → printed (page_of (set bs at (get_or text i 0)) (at + 1)) (drop (i + 1) text) ≡ printed (page_of bs at) (drop i text)
print_on bs at text i h k = rw (add-one i, add-one at, drop-cons text i 0 k) (sym (print_one bs at (get_or text i 0) (drop (suc i) text) h))

-- no byte is left
pub print_over : (bs : List ℕ) (at : ℕ) (text : List ℕ) (i : ℕ) → length text ≤ i → page_of bs at ≡ printed (page_of bs at) (drop i text)
print_over bs at text i h = rw (drop_of_length-le text {i = i} h) (sym (print_none (page_of bs at)))

-- a line that stands at the front of a buffer
pub print_line : (p q : Page) (text rest line : List ℕ) (n : ℕ) → n ≡ length text → line ≡ text ++ rest → q ≡ printed p (take n line)
    → q ≡ printed p text
print_line p q text rest line n size is e = e ∙ ap (printed p) (rw is (take_at text rest n (sym size)))

-- what is printed from the start of a slice on is no longer than the slice
pub print_fits : (bs text : List ℕ) (q : Page) → q ≡ printed (page_of bs 0) text
    → (q.at ≤ length q.bytes) × (q.at ≡ length (take q.at q.bytes))
print_fits bs text q e = (fit, sym (length-take-le q.at q.bytes fit))
  where
    within : (printed (page_of bs 0) text).at ≤ length bs
    within = rw (printed_front bs text) (cut_fits bs text)

    fit : q.at ≤ length q.bytes
    fit = rw (e, print_length (page_of bs 0) text) within
