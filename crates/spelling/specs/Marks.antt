-- A text character by character: where words and lines end. Assumes nothing.
use Rattle.std.specs.Prelude.{ℕ, suc, ◌≤◌, Bool, true, false, cond, List, [], ◌∷◌, ◌++◌, Option, Some, None, ltb, length, get_or}
use Rattle.sayings.specs.Characters.{char, kind_of}
use Rattle.sayings.specs.declared.chars.Kind.{Kind}
use Rattle.sayings.specs.declared.chars.Kind.TheVariants.{NewLine, Hash, Blank, Letter}
use Rattle.spelling.specs.declared.marks.Mode.{Mode}
use Rattle.spelling.specs.declared.marks.Mode.TheVariants.{Between, Comment, Inside}

-- the character at a place; behind the last one the text ends as a line does
unfoldable pub char_at : List ℕ → ℕ → ℕ
char_at text i = cond (ltb i (length text)) (get_or text i 0) (char "\n")

-- what a text is made of: a word, from a place up to another; what a line says ends at a place
pub data Mark : Type 0 where
  word : ℕ → ℕ → Mark
  line_end : ℕ → Mark

-- the word that a character ends: any but a letter ends one
abbrev pub word_ended : Mode → Kind → Option ℕ
word_ended Between kind = None
word_ended Comment kind = None
word_ended (Inside from) NewLine = Some from
word_ended (Inside from) Hash = Some from
word_ended (Inside from) Blank = Some from
word_ended (Inside from) Letter = None

-- a line's end and a comment's start end what the line says; in a comment it has ended
abbrev pub ends_line : Kind → Bool
ends_line NewLine = true
ends_line Hash = true
ends_line Blank = false
ends_line Letter = false

abbrev pub line_ended : Mode → Kind → Bool
line_ended Between kind = ends_line kind
line_ended Comment kind = false
line_ended (Inside from) kind = ends_line kind

-- where the next character stands, after one at a place
abbrev pub after_blank : Mode → Mode
after_blank Between = Between
after_blank Comment = Comment
after_blank (Inside from) = Between

abbrev pub after_letter : Mode → ℕ → Mode
after_letter Between i = Inside i
after_letter Comment i = Comment
after_letter (Inside from) i = Inside from

abbrev pub mode_after : Mode → Kind → ℕ → Mode
mode_after mode NewLine i = Between
mode_after mode Hash i = Comment
mode_after mode Blank i = after_blank mode
mode_after mode Letter i = after_letter mode i

-- the marks that a character at a place sets
abbrev pub word_marks : Option ℕ → ℕ → List Mark
word_marks None i = []
word_marks (Some from) i = word from i ∷ []

abbrev pub line_marks : Bool → ℕ → List Mark
line_marks ends i = cond ends (line_end i ∷ []) []

-- the marks of characters, the first of which has a mode and a place
abbrev pub marks : Mode → ℕ → List ℕ → List Mark
marks mode i [] = []
marks mode i (c ∷ cs) =
    let kind = kind_of c in
    word_marks (word_ended mode kind) i ++ line_marks (line_ended mode kind) i ++ marks (mode_after mode kind i) (suc i) cs

-- a word begins before the place where it is read
abbrev pub ModeFits : Mode → ℕ → Type 0
ModeFits Between i = Unit {0}
ModeFits Comment i = Unit {0}
ModeFits (Inside from) i = from ≤ i

abbrev pub EndedFits : Option ℕ → ℕ → Type 0
EndedFits None i = Unit {0}
EndedFits (Some from) i = from ≤ i
