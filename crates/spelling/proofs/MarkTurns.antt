-- A text read mark by mark: what each turn comes to is what the meaning says of the marks that it takes. Assumes nothing.
use mathlib.Core.Path.{◌≡◌, refl, sym, ap, ap₂, ◌∙◌}
use mathlib.Core.List.{List, [], ◌∷◌, ◌++◌}
use Prim.Native.Nat.{ℕ, ◌+◌, ◌-◌}
use native.Mathlib.Omega.{arith}
use borrow.Author.Tests.{le-leb, lt-leb}
use lib.ListN.{length, length-append}
use lib.Seq.{sets, length-sets}
use Rattle.spelling.specs.FormLaws.{forms_append}
use Rattle.spelling.specs.Items.{items_of, forms}
use Rattle.spelling.specs.Lays.{Lays}
use Rattle.spelling.specs.Marks.{Mark, word, line_end}
use Rattle.spelling.specs.Meaning.{Meaning, names, wrong, full, long, here_after, items_said, stepped, part, word_of, said_by, place_of, adds, onward, walk}
use Rattle.spelling.specs.MeaningLaws.{not_ok, goes}
use Rattle.sayings.specs.Says.{said_word, said_end}
use Rattle.spelling.specs.Told.{Acts, spelt, told, rest, followed, Follows}
use Rattle.sayings.specs.declared.says.Said.{Said}
use Rattle.spelling.specs.declared.turns.Here.{Here}
use Rattle.spelling.specs.declared.turns.Stop.{Stop}
use Rattle.spelling.specs.declared.turns.Stop.TheVariants as stop
use Rattle.std.specs.Prelude.{Option, Some, None, Result, Ok, Err}
use Rattle.spelling.proofs.LayTurns.{behind, full as is-full, sets_append}

-- ---- what is said is put

pub act_wrong : (s : List ℕ) (here : Here) (place : ℕ) (w : List ℕ) → Acts s here place w None s (Err (stop.Wrong place here.next))
unfolding stepped
act_wrong s here place w = record { answer = refl; there = λ h q. not_ok q }

module _ (s : List ℕ) (here : Here) (place : ℕ) (w : List ℕ) (said : Said) (x : List ℕ) (l : Option ℕ) (p : Lays s here.at (forms (items_of here.selected w said)) x l) where
  pub act_full : l ≡ None → Acts s here place w (Some said) x (Err (stop.Full place))
  unfolding stepped
  act_full q =
      let n = length (forms (items_of here.selected w said)) in
      let long = is-full (length s) here.at n (sym q ∙ p.answer) in
      record { answer = sym (rw (lt-leb n (length s - here.at) long)); there = λ h q. not_ok q }

  pub act_on : (at : ℕ) (h : Here) → l ≡ Some at → h ≡ here_after here.selected said at → Acts s here place w (Some said) x (Ok h)
  unfolding stepped
  act_on at h q is =
      let n = length (forms (items_of here.selected w said)) in
      let fits = behind (length s) here.at n at (sym q ∙ p.answer) in
      record {
        answer = ap Ok (is ∙ ap (here_after here.selected said) fits.1) ∙ sym (rw (le-leb n (length s - here.at) fits.0));
        there = λ k z. p.there fits.0;
      }

-- ---- a mark is taken

-- items put behind a trace, and then those of the rest, are all of them put
told_adds : (at : ℕ) (out items : List ℕ) (m : Meaning) → told at out (adds items m) ≡ told (at + length (forms items)) (sets out at (forms items)) m
told_adds at out items (names more) =
    let sum : at + length (forms (items ++ more)) ≡ at + length (forms items) + length (forms more) = omega (arith, ap length (forms_append items more), length-append (forms items) (forms more)) in
    ap₂ spelt sum (ap (sets out at) (forms_append items more) ∙ sets_append out at (forms items) (forms more))
told_adds at out items (wrong place n) = refl
told_adds at out items (full place) = refl
told_adds at out items long = refl

module _ (text before after : List ℕ) (here : Here) (m : Mark) (r : Result Here Stop) (a : Acts before here (place_of m) (word_of text m) (said_by text here m) after r) where
  mark_comes : (ms : List Mark) → rest text before here (m ∷ ms) ≡ followed text r after ms
  mark_comes ms = ap (λ (s : Result Here Stop). told here.at before (onward s items (λ h. walk text (length before) h ms))) (sym a.answer) ∙ go r a.answer a.there
    where
      items : List ℕ
      items = items_said here.selected (word_of text m) (said_by text here m)

      go :
          (s : Result Here Stop) → s ≡ stepped (length before) here (place_of m) (word_of text m) (said_by text here m)
          → ((h : Here) → s ≡ Ok h → after ≡ sets before here.at (forms items))
          → told here.at before (onward s items (λ h. walk text (length before) h ms)) ≡ followed text s after ms
      go (Ok h) q there =
          let is = there h refl in
          let size : length before ≡ length after = sym (ap length is ∙ length-sets before here.at (forms items)) in
          told_adds here.at before items (walk text (length before) h ms)
          ∙ ap (λ (k : ℕ). told k (sets before here.at (forms items)) (walk text (length before) h ms)) (sym (goes (length before) here h (place_of m) (word_of text m) (said_by text here m) (sym q)).behind)
          ∙ ap (λ (l : List ℕ). told h.at l (walk text (length before) h ms)) (sym is)
          ∙ ap (λ (k : ℕ). told h.at after (walk text k h ms)) size
      go (Err (stop.Wrong place n)) q there = refl
      go (Err (stop.Full place)) q there = refl

  mark_taken : Follows text before here (m ∷ []) after r
  mark_taken = record { comes = mark_comes }

pub word_taken :
    (text before after : List ℕ) (here : Here) (first end : ℕ) (said : Option Said) (r : Result Here Stop)
    → said ≡ said_word here.next (part first end text) → Acts before here first (part first end text) said after r
    → Follows text before here (word first end ∷ []) after r
word_taken text before after here first end said r e a = mark_taken text before after here (word first end) r (rw e at a)

pub end_taken :
    (text before after : List ℕ) (here : Here) (i : ℕ) (said : Option Said) (r : Result Here Stop)
    → said ≡ said_end here.selected here.next → Acts before here i [] said after r
    → Follows text before here (line_end i ∷ []) after r
end_taken text before after here i said r e a = mark_taken text before after here (line_end i) r (rw e at a)
