-- A text read character by character: the marks that are left after one more, and its end. Assumes nothing.
use mathlib.Core.Path.{◌≡◌, refl, sym, ap, ap₂, ◌∙◌}
use mathlib.Core.Logic.{⊎_elim}
use mathlib.Core.Bool.{Bool, true, false}
use mathlib.Core.List.{List, [], ◌∷◌, ◌++◌}
use Prim.Native.Nat.{ℕ, ◌+◌, ◌≤◌}
use native.Mathlib.Nat.{add-zero, eq-or-lt_of_le}
use native.Mathlib.Numerals.{add-one}
use native.Mathlib.Omega.{arith}
use borrow.Author.Tests.{lt-ltb, le-ltb}
use lib.ListN.{length, drop, get_or, length-append, get_or-append}
use lib.Seq.{drop-cons, get_or_at}
use Rattle.sayings.specs.Characters.{ascii, kind_of}
use Rattle.spelling.specs.Marks.{Mark, char_at, word_ended, line_ended, mode_after, word_marks, line_marks, marks, ModeFits}
use Rattle.spelling.specs.Meaning.{start, ready, meaning}
use Rattle.spelling.specs.Told.{Told, spelt, rest, followed, Follows, passed, finished, wholly}
use Rattle.sayings.specs.declared.chars.Kind.{Kind}
use Rattle.sayings.specs.declared.chars.Kind.TheVariants.{NewLine, Hash, Blank, Letter}
use Rattle.spelling.specs.declared.marks.Mode.{Mode}
use Rattle.spelling.specs.declared.marks.Mode.TheVariants.{Between, Comment, Inside}
use Rattle.spelling.specs.declared.turns.Here.{Here}
use Rattle.spelling.specs.declared.turns.Stop.{Stop}
use Rattle.std.specs.Prelude.{Option, Result, Ok, Err}

-- ---- a word begins before the place where it is read

pub mode_fits : (mode : Mode) (kind : Kind) (i : ℕ) → ModeFits mode i → ModeFits (mode_after mode kind i) (i + 1)
mode_fits mode NewLine i h = tt
mode_fits mode Hash i h = tt
mode_fits Between Blank i h = tt
mode_fits Comment Blank i h = tt
mode_fits (Inside from) Blank i h = tt
mode_fits Between Letter i h = omega arith
mode_fits Comment Letter i h = tt
mode_fits (Inside from) Letter i h = omega arith

-- ---- one character more

abbrev ended : List ℕ → List ℕ
ended text = text ++ ascii "\n"

-- the marks that are still to be read, from a place on
abbrev pub unread : List ℕ → Mode → ℕ → List Mark
unread text mode i = marks mode i (drop i (ended text))

next_char : (text : List ℕ) (i : ℕ) → i ≤ length text → get_or (ended text) i 0 ≡ char_at text i
unfolding char_at
next_char text i h =
    ⊎_elim (λ e. get_or_at text 10 [] 0 i (sym e) ∙ sym (rw (le-ltb i (length text) (omega arith))))
    (λ l. get_or-append text (ascii "\n") 0 i l ∙ sym (rw (lt-ltb i (length text) l)))
    (eq-or-lt_of_le h)

drop_char : (text : List ℕ) (i : ℕ) → i ≤ length text → drop i (ended text) ≡ char_at text i ∷ drop (i + 1) (ended text)
drop_char text i h =
    drop-cons (ended text) i 0 (omega (arith, length-append text (ascii "\n")))
    ∙ ap₂ (λ (c : ℕ) (n : ℕ). c ∷ drop n (ended text)) (next_char text i h) (sym (add-one i))

module _ (text out : List ℕ) (mode : Mode) (here : Here) (i : ℕ) {all : Told} (inv : rest text out here (unread text mode i) ≡ all) where
  module _ (h : i ≤ length text) (c : ℕ) (kind : Kind) (word : Option ℕ) (line : Bool) (is-char : c ≡ char_at text i) (is-kind : kind ≡ kind_of c)
      (is_IsWord : word ≡ word_ended mode kind) (is-line : line ≡ line_ended mode kind) where
    char_marks : unread text mode i ≡ word_marks word i ++ line_marks line i ++ unread text (mode_after mode kind i) (i + 1)
    char_marks =
        ap (marks mode i) (drop_char text i h)
        ∙ rw (← is-char, ← is-kind, ← is_IsWord, ← is-line, add-one i)

    module _ (x : List ℕ) (t : Result Here Stop) (f : Follows text out here (word_marks word i ++ line_marks line i) x t) where
      comes : (s : Result Here Stop) → t ≡ s → followed text s x (unread text (mode_after mode kind i) (i + 1)) ≡ all
      comes s e =
          ap (λ (r : Result Here Stop). followed text r x (unread text (mode_after mode kind i) (i + 1))) (sym e)
          ∙ sym (f.comes (unread text (mode_after mode kind i) (i + 1)))
          ∙ ap (rest text out here) (sym char_marks)
          ∙ inv

      pub char_on : (k : Here) (m : Mode) → t ≡ Ok k → m ≡ mode_after mode kind i → rest text x k (unread text m (i + 1)) ≡ all
      char_on k m e q = rw q (comes (Ok k) e)

      pub char_stop : (why : Stop) → t ≡ Err why → passed (Err why) x ≡ all
      char_stop why e = comes (Err why) e

      go : (b : Bool) → ready here.next ≡ b → passed (finished here (length text)) out ≡ rest text out here []
      go true q = rw q (ap (λ (n : ℕ). spelt n out) (sym (add-zero here.at)))
      go false q = rw q

pub text_start : (text out : List ℕ) → rest text out start (unread text Between 0) ≡ wholly text out
unfolding meaning
text_start text out = refl
