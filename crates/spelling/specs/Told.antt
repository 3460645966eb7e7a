-- What the code of a reading answers, against the meaning of the text. Assumes nothing.
use Rattle.std.specs.Prelude.{ℕ, ◌+◌, ◌≡◌, cond, List, ◌++◌, Option, Result, Ok, Err, length}
use Rattle.std.proofs.lemmas.List.Edits.{sets}
use Rattle.spelling.specs.Items.{forms}
use Rattle.spelling.specs.Marks.{Mark}
use Rattle.spelling.specs.Meaning.{Meaning, names, wrong, full, long, items_said, stepped, stopped, ready, walk, meaning}
use Rattle.sayings.specs.declared.says.Said.{Said}
use Rattle.spelling.specs.declared.turns.Here.{Here}
use Rattle.spelling.specs.declared.turns.Stop.{Stop}
use Rattle.spelling.specs.declared.turns.Stop.TheVariants as stop

-- what `act` does with what is said at a place: its answer, and the slice where it goes on
pub record Acts (before : List ℕ) (here : Here) (place : ℕ) (w : List ℕ) (said : Option Said) (after : List ℕ) (r : Result Here Stop) : Type 0 where
  pub answer : r ≡ stepped (length before) here place w said
  pub there : (h : Here) → r ≡ Ok h → after ≡ sets before here.at (forms (items_said here.selected w said))

-- what a reading comes to: the trace's length and its slice; or what the meaning says is wrong
pub data Told : Type 0 where
  spelt : ℕ → List ℕ → Told
  unspelt : Meaning → Told

-- the items of a meaning put behind a trace that is so long
abbrev pub told : ℕ → List ℕ → Meaning → Told
told at out (names items) = spelt (at + length (forms items)) (sets out at (forms items))
told at out (wrong place n) = unspelt (wrong place n)
told at out (full place) = unspelt (full place)
told at out long = unspelt long

-- what reading the marks that are left comes to, from where it stands
abbrev pub rest : List ℕ → List ℕ → Here → List Mark → Told
rest text out here ms = told here.at out (walk text (length out) here ms)

-- the same after a turn
abbrev pub followed : List ℕ → Result Here Stop → List ℕ → List Mark → Told
followed text (Ok here) out ms = rest text out here ms
followed text (Err why) out ms = unspelt (stopped why)

-- a turn takes some marks, whatever follows them
pub record Follows (text before : List ℕ) (here : Here) (taken : List Mark) (after : List ℕ) (r : Result Here Stop) : Type 0 where
  pub comes : (ms : List Mark) → rest text before here (taken ++ ms) ≡ followed text r after ms

-- what the last turn says of the whole
abbrev pub passed : Result Here Stop → List ℕ → Told
passed (Ok here) out = spelt here.at out
passed (Err why) out = unspelt (stopped why)

-- where no mark is left
abbrev pub finished : Here → ℕ → Result Here Stop
finished here end = cond (ready here.next) (Ok here) (Err (stop.Wrong end here.next))

-- what a whole text comes to
abbrev pub wholly : List ℕ → List ℕ → Told
wholly text out = told 0 out (meaning (length out) text)
