-- What a text spells: the bytes of a trace, or what is wrong, with the line and the column. Assumes nothing.
use Rattle.std.specs.Prelude.{ℕ, ◌+◌, ◌≡◌, cond, List, [], ◌∷◌, ◌++◌, Result, Ok, Err, eqb, ltb, length, take, drop}
use Rattle.sayings.specs.Characters.{char}
use Rattle.spelling.specs.Items.{forms}
use Rattle.spelling.specs.Meaning.{Meaning, names, wrong, full, long, longest, meaning}
use Rattle.spelling.specs.declared.spell.Fault.{Fault}
use Rattle.spelling.specs.declared.spell.Fault.TheVariants as fault
use Rattle.spelling.specs.declared.spell.Place.{Place}
use Rattle.spelling.specs.declared.turns.Stop.{Stop}
use Rattle.spelling.specs.declared.turns.Stop.TheVariants as stop

-- "up to 32,768 bytes, as if the input ended there": the most that the replay reads of a trace
abbrev pub most_bytes : ℕ
most_bytes = 32768

-- the meaning of any text: a trace has room for so many bytes, and a text has so many characters at most
unfoldable pub spelt : List ℕ → Meaning
spelt text = cond (ltb longest (length text)) long (meaning most_bytes text)

-- "line and column (from 1)": the place behind a character, and behind more of them
abbrev pub next_place : Place → ℕ → Place
next_place place c =
    let ends = eqb c (char "\n") in
    record { line = cond ends (place.line + 1) place.line; column = cond ends 1 (place.column + 1) }

abbrev pub place_from : ℕ → ℕ → List ℕ → Place
place_from line column [] = record { line = line; column = column }
place_from line column (c ∷ cs) =
    let next = next_place (record { line = line; column = column }) c in
    place_from next.line next.column cs

-- the place of the character at i
unfoldable pub place_at : List ℕ → ℕ → Place
place_at text i = place_from 1 1 (take i text)

-- why the reading of a text stopped, with line and column
abbrev pub fault_of : List ℕ → Stop → Fault
fault_of text (stop.Wrong i n) = fault.Wrong (place_at text i) n
fault_of text (stop.Full i) = fault.Full (place_at text i)

-- what is answered
abbrev pub answered : List ℕ → Meaning → Result ℕ Fault
answered text (names items) = Ok (length (forms items))
answered text (wrong i n) = Err (fault.Wrong (place_at text i) n)
answered text (full i) = Err (fault.Full (place_at text i))
answered text long = Err fault.Long

-- the lent slice: the trace stands at its front, and the rest is as it was; where nothing is spelt, all of it is
abbrev pub lent : List ℕ → Meaning → List ℕ
lent out (names items) = forms items ++ drop (length (forms items)) out
lent out (wrong i n) = out
lent out (full i) = out
lent out long = out

-- what the call promises of a text: its answer r, and the slice after it
pub record Spells (text before after : List ℕ) (r : Result ℕ Fault) : Type 0 where
  pub answer : r ≡ answered text (spelt text)
  pub slice : after ≡ lent before (spelt text)
