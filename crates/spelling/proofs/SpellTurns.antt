-- Lines and columns counted, bytes copied, and what a whole text comes to as an answer. Assumes nothing.
use mathlib.Core.Path.{◌≡◌, refl, sym, ap, ap₂, ◌∙◌}
use mathlib.Core.List.{List, [], ◌∷◌, ◌++◌}
use Prim.Native.Nat.{ℕ, suc, ◌+◌, ◌-◌, ◌≤◌, ◌<◌}
use native.Mathlib.Omega.{arith}
use borrow.Author.Tests.{le-ltb, lt-ltb}
use lib.ListN.{length, set, take, drop, drop_of_length-le}
use lib.Seq.{set_out, sets, sets-eq, length-sets, take_all, take-append_seam}
use Rattle.spelling.specs.Items.{forms}
use Rattle.spelling.specs.Meaning.{Meaning, names, wrong, full, long, longest, meaning}
use Rattle.spelling.specs.MeaningLaws.{Names, named_room}
use Rattle.spelling.specs.Spelt.{most_bytes, spelt, fault_of, answered, lent, Spells}
use Rattle.spelling.specs.Told.{told, passed, wholly}
use Rattle.spelling.specs.Told as told
use Rattle.spelling.specs.declared.spell.Fault.{Fault}
use Rattle.spelling.specs.declared.spell.Fault.TheVariants as fault
use Rattle.std.specs.Prelude.{Result, Ok, Err, min}
use Rattle.std.proofs.lemmas.List.{take-append-drop, length-take-le}
use Rattle.std.proofs.lemmas.Slice.{put_mid-paste}
use Rattle.trace.specs.ByteLaws.{below}
use mathlib.Core.Logic.{⊎_elim}
use borrow.Rule.Slice.PartMut.{put_mid}
use Rattle.spelling.proofs.LayTurns.{sets_append}
use Rattle.spelling.specs.declared.turns.Here.{Here}
use Rattle.spelling.specs.declared.turns.Stop.{Stop}
use Rattle.spelling.specs.declared.turns.Stop.TheVariants as stop

-- ---- bytes copied

-- a store behind the end changes nothing
copy_beyond : (bytes out : List ℕ) (at : ℕ) → length out ≤ at → sets out at bytes ≡ out
copy_beyond [] out at h = refl
copy_beyond (b ∷ bytes) out at h =
    let none : set out at b ≡ out = set_out out at b h in
    ap (λ (l : List ℕ). sets l (suc at) bytes) none ∙ copy_beyond bytes out (suc at) (omega arith)

pub copy_none : (bytes out : List ℕ) (at : ℕ) → length out ≤ at → out ≡ sets out at bytes
copy_none bytes out at h = sym (copy_beyond bytes out at h)

-- as many bytes as have room, written over the part of the slice that is as long
pub copy_part :
    (bytes out part : List ℕ) (at k n : ℕ) → at ≤ length out → n ≡ min (length bytes) (length out - at) → k ≡ n → part ≡ take n bytes
    → put_mid at k out part ≡ sets out at bytes
copy_part bytes out part at k n h is size e = stored ∙ ⊎_elim cut whole (below (length out - at) (length bytes))
  where
    front : List ℕ
    front = take n bytes

    counted : length front ≡ n
    counted = length-take-le n bytes (omega (arith, is))

    stored : put_mid at k out part ≡ sets out at front
    stored =
        put_mid-paste at k out part front (length front) e (counted ∙ sym size) refl
        ∙ rw (take_all (length front) front (omega arith)) (sym (sets-eq front out at (omega (arith, counted, is))))

    split : sets (sets out at front) (at + length front) (drop n bytes) ≡ sets out at bytes
    split = sym (sets_append out at front (drop n bytes)) ∙ ap (sets out at) (take-append-drop n bytes)

    cut : length out - at < length bytes → sets out at front ≡ sets out at bytes
    cut r = sym (copy_beyond (drop n bytes) (sets out at front) (at + length front) (omega (arith, length-sets out at front, counted, is))) ∙ split

    whole : length bytes ≤ length out - at → sets out at front ≡ sets out at bytes
    whole r = rw (drop_of_length-le bytes {i = n} (omega (arith, is))) at split

-- bytes from the first place on are the front of a slice
front_of : (l bytes : List ℕ) → length bytes ≤ length l → sets l 0 bytes ≡ bytes ++ drop (length bytes) l
front_of l bytes h =
    let sum : 0 + length bytes ≡ length bytes = omega arith in
    sets-eq bytes l 0 (omega arith) ∙ ap (λ (n : ℕ). bytes ++ drop n l) sum

-- ---- the whole

-- a text that is not too long means what its words do
not_long : (text : List ℕ) → length text ≤ longest → spelt text ≡ meaning most_bytes text
unfolding spelt
not_long text h = rw (le-ltb longest (length text) h)

pub too_long : (text out : List ℕ) → longest < length text → Spells text out out (Err fault.Long)
unfolding spelt
too_long text out h =
    let is : spelt text ≡ long = rw (lt-ltb longest (length text) h) in
    record { answer = rw is; slice = rw is }

-- what is wrong is what the meaning says
is_unspelt : (trace : List ℕ) (m u : Meaning) → told.unspelt u ≡ told 0 trace m → m ≡ u
is_unspelt trace (names items) u e = absurd (let z : ◌≡◌ {A = ℕ} 0 1 = cc in omega arith)
is_unspelt trace (wrong i n) u e = cc
is_unspelt trace (full i) u e = cc
is_unspelt trace long u e = cc

-- what is spelt is the front of the slice
module _ (text trace x out : List ℕ) (n : ℕ) (size : length trace ≡ most_bytes) (wide : length out ≡ most_bytes) where
  fits : (m : Meaning) → Names (λ items. length (forms items) ≤ most_bytes) m → told.spelt n x ≡ told 0 trace m → n ≤ length x
  fits (names items) h e =
      let is-n : n ≡ 0 + length (forms items) = cc in
      let is_x : x ≡ sets trace 0 (forms items) = cc in
      omega (arith, ap length is_x ∙ length-sets trace 0 (forms items))
  fits (wrong i k) h e = absurd (let z : ◌≡◌ {A = ℕ} 0 1 = cc in omega arith)
  fits (full i) h e = absurd (let z : ◌≡◌ {A = ℕ} 0 1 = cc in omega arith)
  fits long h e = absurd (let z : ◌≡◌ {A = ℕ} 0 1 = cc in omega arith)

  front : (m : Meaning) → Names (λ items. length (forms items) ≤ most_bytes) m → told.spelt n x ≡ told 0 trace m → (◌≡◌ {A = Result ℕ Fault} (Ok n) (answered text m)) × (sets out 0 (take n x) ≡ lent out m)
  front (names items) h e =
      let sum : n ≡ 0 + length (forms items) = cc in
      let is-n : n ≡ length (forms items) = omega arith in
      let is_x : x ≡ sets trace 0 (forms items) = cc in
      let split : x ≡ forms items ++ drop (length (forms items)) trace = is_x ∙ front_of trace (forms items) (omega arith) in (
        ap Ok is-n,
        ap (sets out 0) (ap₂ take is-n split ∙ take-append_seam (forms items) (drop (length (forms items)) trace)) ∙ front_of out (forms items) (omega arith),
      )
  front (wrong i k) h e = absurd (let z : ◌≡◌ {A = ℕ} 0 1 = cc in omega arith)
  front (full i) h e = absurd (let z : ◌≡◌ {A = ℕ} 0 1 = cc in omega arith)
  front long h e = absurd (let z : ◌≡◌ {A = ℕ} 0 1 = cc in omega arith)

module _ (text trace x : List ℕ) (short : length text ≤ longest) (size : length trace ≡ most_bytes) (t : Result Here Stop) (p : passed t x ≡ wholly text trace) where
  comes : passed t x ≡ told 0 trace (spelt text)
  comes = p ∙ ap (λ (n : ℕ). told 0 trace (meaning n text)) size ∙ ap (told 0 trace) (sym (not_long text short))

  room : Names (λ items. length (forms items) ≤ most_bytes) (spelt text)
  room = rw (not_long text short) (named_room most_bytes text)

  pub spelt_fits : (here : Here) → t ≡ Ok here → here.at ≤ length x
  spelt_fits here e = fits text trace x trace here.at size size (spelt text) room (rw e at comes)

  pub spelt_whole : (here : Here) (out after : List ℕ) → t ≡ Ok here → length out ≡ most_bytes → after ≡ sets out 0 (take here.at x) → Spells text out after (Ok here.at)
  spelt_whole here out after e wide q =
      let f = front text trace x out here.at size wide (spelt text) room (rw e at comes) in
      record { answer = f.0; slice = q ∙ f.1 }

  pub fault_whole : (out : List ℕ) (why : Stop) (fault : Fault) → t ≡ Err why → fault ≡ fault_of text why → Spells text out out (Err fault)
  fault_whole out (stop.Wrong i n) fault e q =
      let is = is_unspelt trace (spelt text) (wrong i n) (rw e at comes) in
      record { answer = rw (is, q); slice = rw is }
  fault_whole out (stop.Full i) fault e q =
      let is = is_unspelt trace (spelt text) (full i) (rw e at comes) in
      record { answer = rw (is, q); slice = rw is }
