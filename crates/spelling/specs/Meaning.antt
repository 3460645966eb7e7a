-- What a text means: the items that it names, or where it is wrong and what was expected there. Assumes nothing.
use Rattle.std.specs.Prelude.{ℕ, ◌+◌, ◌-◌, Bool, true, false, cond, List, [], ◌∷◌, ◌++◌, Option, Some, None, Result, Ok, Err, leb, length, take, drop}
use Rattle.sayings.specs.Characters.{ascii}
use Rattle.spelling.specs.Items.{items_of, forms}
use Rattle.spelling.specs.Marks.{Mark, word, line_end, marks}
use Rattle.sayings.specs.Says.{said_word, said_end}
use Rattle.spelling.specs.declared.marks.Mode.TheVariants.{Between}
use Rattle.sayings.specs.declared.says.Next.{Next}
use Rattle.sayings.specs.declared.says.Next.TheVariants as next
use Rattle.sayings.specs.declared.says.Said.{Said}
use Rattle.sayings.specs.declared.says.Said.TheVariants as said
use Rattle.spelling.specs.declared.turns.Here.{Here}
use Rattle.spelling.specs.declared.turns.Stop.{Stop}
use Rattle.spelling.specs.declared.turns.Stop.TheVariants as stop

-- the items that a text names; or the place of what is wrong, with what was expected there, of what has no room in the
-- trace; or a text that is too long
pub data Meaning : Type 0 where
  names : List ℕ → Meaning
  wrong : ℕ → Next → Meaning
  full : ℕ → Meaning
  long : Meaning

-- where a text begins: no select, the part is expected, the trace is empty
abbrev pub start : Here
start = record { selected = false; next = next.Part; at = 0 }

-- where the reading stands after what was said, with the trace so long: "/CS goes low before the first" byte of a line
-- "and high at the line's end"
abbrev pub here_after : Bool → Said → ℕ → Here
here_after selected (said.Then n) at = record { selected = selected; next = n; at = at }
here_after selected (said.One item n) at = record { selected = selected; next = n; at = at }
here_after selected (said.Byte byte) at = record { selected = true; next = next.Word; at = at }
here_after selected said.Close at = record { selected = false; next = next.Word; at = at }
here_after selected (said.InHold pulses) at = record { selected = selected; next = next.Word; at = at }
here_after selected said.Clocked at = record { selected = selected; next = next.Word; at = at }

-- what follows what a word says at a place, or a line's end with no word: its items stand behind a trace that has room for
-- so many bytes; nothing that may be said there; no room
unfoldable pub stepped : ℕ → Here → ℕ → List ℕ → Option Said → Result Here Stop
stepped size here place w None = Err (stop.Wrong place here.next)
stepped size here place w (Some said) =
    let n = length (forms (items_of here.selected w said)) in
    cond (leb n (size - here.at)) (Ok (here_after here.selected said (here.at + n))) (Err (stop.Full place))

-- the items of what is said, if anything is
abbrev pub items_said : Bool → List ℕ → Option Said → List ℕ
items_said selected w None = []
items_said selected w (Some said) = items_of selected w said

-- the characters from a place up to another
abbrev pub part : ℕ → ℕ → List ℕ → List ℕ
part first end text = take (end - first) (drop first text)

-- a mark's word, what it says, and its place
abbrev pub word_of : List ℕ → Mark → List ℕ
word_of text (word first end) = part first end text
word_of text (line_end i) = []

abbrev pub said_by : List ℕ → Here → Mark → Option Said
said_by text here (word first end) = said_word here.next (part first end text)
said_by text here (line_end i) = said_end here.selected here.next

abbrev pub place_of : Mark → ℕ
place_of (word first end) = first
place_of (line_end i) = i

-- a text may end where any word may stand: behind the first line, and not in the middle of another
unfoldable pub ready : Next → Bool
ready next.Part = false
ready next.PartNumber = false
ready next.Kept = false
ready next.KeptByte = false
ready next.LineEnd = false
ready next.Word = true
ready (next.Level pin) = false
ready next.Idle = false
ready next.Held = false
ready next.Bits = false
ready next.Item = false

-- items before those of a meaning
abbrev pub adds : List ℕ → Meaning → Meaning
adds items (names more) = names (items ++ more)
adds items (wrong place n) = wrong place n
adds items (full place) = full place
adds items long = long

-- what is wrong where the reading stops
abbrev pub stopped : Stop → Meaning
stopped (stop.Wrong place n) = wrong place n
stopped (stop.Full place) = full place

-- a mark: its items, and then the meaning of what follows; or what is wrong
abbrev pub onward : Result Here Stop → List ℕ → (Here → Meaning) → Meaning
onward (Ok here) items more = adds items (more here)
onward (Err why) items more = stopped why

-- the meaning of marks, one after the other
abbrev pub walk : List ℕ → ℕ → Here → List Mark → Meaning
walk text size here [] = cond (ready here.next) (names []) (wrong (length text) here.next)
walk text size here (m ∷ ms) =
    let said = said_by text here m in
    let w = word_of text m in
    onward (stepped size here (place_of m) w said) (items_said here.selected w said) (λ h. walk text size h ms)

-- the most characters of a text
abbrev pub longest : ℕ
longest = 262144

-- a text that is not too long; its end ends its last line
unfoldable pub meaning : ℕ → List ℕ → Meaning
meaning size text = walk text size start (marks Between 0 (text ++ ascii "\n"))
