-- Bytes put one behind the other: one trace number by the write call, then item by item. Assumes nothing.
use mathlib.Core.Path.{◌≡◌, sym, ap, ◌∙◌}
use mathlib.Core.Logic.{⊎_elim}
use mathlib.Core.List.{List, [], ◌∷◌, ◌++◌}
use Prim.Native.Nat.{ℕ, suc, ◌+◌, ◌-◌, ◌≤◌, ◌<◌}
use native.Mathlib.Nat.{add-zero}
use native.Mathlib.Numerals.{add-one}
use native.Mathlib.Omega.{arith}
use borrow.Author.Tests.{le-ltb, lt-ltb, le-leb, lt-leb}
use lib.ListN.{length, get_or, set, drop, length-append}
use lib.Seq.{sets, sets-eq, length-sets, drop-cons}
use Rattle.trace.specs.Figures.{groups, largest}
use Rattle.trace.specs.Items.{pulse}
use Rattle.trace.specs.Answers.{Told, placed}
use Rattle.trace.specs.ByteLaws.{below}
use Rattle.trace.specs.Form.{form}
use Rattle.trace.specs.Number.{writing, slice_written}
use Rattle.trace.specs.Promises.{WritePromise}
use Rattle.trace.specs.SpellingLaws.{some_bytes, form_spells}
use Rattle.trace.specs.WriteLaws.{at_placing}
use Rattle.trace.specs.declared.answer.Refused.{Refused}
use Rattle.refusals.specs.Refusals.{number_of}
use Rattle.refusals.specs.RefusalLaws.{given_sole}
use Rattle.refusals.specs.declared.refusal.Refusal.{Refusal}
use Rattle.std.specs.Prelude.{Option, Some, None, Result, Ok, Err, unwrap_or}
use Rattle.std.specs.Result.{result_ok}
use Rattle.spelling.specs.Items.{forms, bit_items}
use Rattle.sayings.specs.Characters.{digit_of}
use Rattle.spelling.specs.FormLaws.{forms_append}
use Rattle.spelling.specs.Lays.{Small, Lays, laid}

-- ---- one trace number

-- a refusal has a number
numbered : (why : Refusal) → number_of why ≡ 0 → ⊥
numbered why z = absurd (let none : ◌≡◌ {A = Option Refusal} (Some why) None = given_sole (Some why) None z in let z : ◌≡◌ {A = ℕ} 0 1 = cc in omega arith)

pub some_form : (n : ℕ) → n ≤ largest → 0 < length (form n)
some_form n h = some_bytes (form_spells (groups - 1) n (omega arith))

module _ (s : List ℕ) (at n : ℕ) (h : n ≤ largest) where
  room_written : length (form n) ≤ length s - at → writing s at n ≡ placed (at + length (form n))
  unfolding writing
  room_written r =
      let some = some_form n h in
      simp (le-ltb largest n h, le-ltb (length s) at (omega arith), le-ltb (length s - at) (length (form n)) r)

  no_room : length s - at < length (form n) → (writing s at n).refusal ≡ 0 → ⊥
  unfolding writing
  no_room r e =
      ⊎_elim (λ g. let z = simp (le-ltb largest n h, lt-ltb (length s) at g) at e in omega arith)
      (λ g. let z = simp (le-ltb largest n h, le-ltb (length s) at g, lt-ltb (length s - at) (length (form n)) r) at e in omega arith)
      (below (length s) at)

  slice_written_lem : length (form n) ≤ length s - at → slice_written s at n ≡ sets s at (form n)
  slice_written_lem r =
      let some = some_form n h in
      sym (sets-eq (form n) s at (omega arith) ∙ at_placing s at n (at + length (form n)) (sym (room_written r)))

  module _ (x : List ℕ) where
    pub item_lays : (a : Result ℕ Refused) → WritePromise s at n a x → Lays s at (form n) x (result_ok a)
    item_lays (Ok next) p =
        ⊎_elim (λ r. absurd (no_room r (sym (ap (λ (t : Told). t.refusal) p.0))))
        (λ r.
        let is : next ≡ at + length (form n) = ap (λ (t : Told). t.place) (p.0 ∙ room_written r) in
        record { answer = ap Some is ∙ sym (rw (le-leb (length (form n)) (length s - at) r)); there = λ h. p.1 ∙ slice_written_lem h })
        (below (length s - at) (length (form n)))
    item_lays (Err why) p =
        ⊎_elim (λ r. record { answer = sym (rw (lt-leb (length (form n)) (length s - at) r)); there = λ h. p.1 ∙ slice_written_lem h })
        (λ r. absurd (numbered why.refusal (ap (λ (t : Told). t.refusal) (p.0 ∙ room_written r))))
        (below (length s - at) (length (form n)))

-- ---- bytes in pieces

-- what putting n bytes answers, taken apart
pub behind : (size at n next : ℕ) → Some next ≡ laid size at n → (n ≤ size - at) × (next ≡ at + n)
behind size at n next e =
    ⊎_elim (λ r. absurd (let z : ◌≡◌ {A = ℕ} 0 1 = cc (rw (lt-leb n (size - at) r) at e) in omega arith))
    (λ r. (r, cc (rw (le-leb n (size - at) r) at e)))
    (below (size - at) n)

pub full : (size at n : ℕ) → None ≡ laid size at n → size - at < n
full size at n e =
    ⊎_elim (λ r. r)
    (λ r. absurd (let z : ◌≡◌ {A = ℕ} 0 1 = cc (rw (le-leb n (size - at) r) at e) in omega arith))
    (below (size - at) n)

-- the stores of two pieces, one behind the other, are those of the whole
pub sets_append : (l : List ℕ) (at : ℕ) (p q : List ℕ) → sets l at (p ++ q) ≡ sets (sets l at p) (at + length p) q
sets_append l at [] q = ap (λ (n : ℕ). sets l n q) (sym (add-zero at))
sets_append l at (x ∷ p) q =
    let place : suc at + length p ≡ at + suc (length p) = omega arith in
    sets_append (set l at x) (suc at) p q ∙ ap (λ (n : ℕ). sets (sets (set l at x) (suc at) p) n q) place

-- of all the bytes that are to stand from `first` on in s, the rest is still to be put, at a place of t
pub record Laying (s : List ℕ) (first : ℕ) (all t : List ℕ) (at : ℕ) (rest : List ℕ) : Type 0 where
  pub bytes : sets t at rest ≡ sets s first all
  pub size : length t ≡ length s
  pub place : at + length rest ≡ first + length all
  pub room : first ≤ at
  pub fits : at - first ≤ length s - first

-- one piece of it more
module _ {s all t x piece left : List ℕ} {first at : ℕ} (rest : List ℕ) (l : Laying s first all t at left) (e : left ≡ piece ++ rest) where
  pub more : {next : ℕ} {r : Option ℕ} → Lays t at piece x r → r ≡ Some next → Laying s first all x next rest
  more {next} p is-behind =
      let q = behind (length t) at (length piece) next (sym is-behind ∙ p.answer) in
      let is : x ≡ sets t at piece = p.there q.0 in
      let sum = ap length e ∙ length-append piece rest in
      record {
        bytes = rw (is, q.1) (sym (sets_append t at piece rest) ∙ ap (sets t at) (sym e) ∙ l.bytes);
        size = ap length is ∙ length-sets t at piece ∙ l.size;
        place = omega (arith, l.place);
        room = omega (arith, l.room);
        fits = omega (arith, l.fits, l.size, l.room);
      }

-- ---- items

module _ (items : List ℕ) (i : ℕ) (h : i < length items) where
  forms_drop : forms (drop i items) ≡ form (get_or items i 0) ++ forms (drop (i + 1) items)
  forms_drop = ap forms (drop-cons items i 0 h) ∙ rw (add-one i)

  pub small_drop : Small (drop i items) → (get_or items i 0 ≤ largest) × Small (drop (i + 1) items)
  small_drop f = rw (add-one i) (rw (drop-cons items i 0 h) at f)

  module _ {s all t x : List ℕ} {first at : ℕ} (l : Laying s first all t at (forms (drop i items))) where
    pub item_more : {next : ℕ} {r : Option ℕ} → Lays t at (form (get_or items i 0)) x r → r ≡ Some next → Laying s first all x next (forms (drop (i + 1) items))
    item_more p is = more (forms (drop (i + 1) items)) l forms_drop p is

-- ---- bits

module _ (word : List ℕ) (i : ℕ) (h : i < length word) where
  bits_drop : (bit : ℕ) → bit ≡ unwrap_or (digit_of (get_or word i 0)) 16 → forms (bit_items (drop i word)) ≡ forms (pulse bit) ++ forms (bit_items (drop (i + 1) word))
  bits_drop bit e =
      ap (λ (l : List ℕ). forms (bit_items l)) (drop-cons word i 0 h)
      ∙ forms_append (pulse (unwrap_or (digit_of (get_or word i 0)) 16)) (bit_items (drop (suc i) word))
      ∙ rw (add-one i, ← e)

  module _ {s all t x : List ℕ} {first at : ℕ} (l : Laying s first all t at (forms (bit_items (drop i word)))) where
    pub bit_more :
        {next : ℕ} {r : Option ℕ} (d : Option ℕ) (n bit : ℕ) → d ≡ digit_of (get_or word i 0) → n ≡ unwrap_or d 16 → bit ≡ n
        → Lays t at (forms ((4 + bit) ∷ 3 ∷ 2 ∷ [])) x r → r ≡ Some next
        → Laying s first all x next (forms (bit_items (drop (i + 1) word)))
    bit_more d n bit e f g p is =
        more (forms (bit_items (drop (i + 1) word))) l (bits_drop bit (g ∙ f ∙ ap (λ (o : Option ℕ). unwrap_or o 16) e)) p is
