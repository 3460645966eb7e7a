-- The items that a text names have room in the trace, and each is a trace number. Assumes nothing.
use Rattle.std.specs.Prelude.{◌≡◌, refl, Bool, true, false, cond, List, [], ◌∷◌, ◌++◌, Option, Some, None, Result, Ok, Err, ℕ, ◌+◌, ◌-◌, ◌≤◌, leb, length, unwrap_or}
use Rattle.std.proofs.Common.{ap, ◌∙◌, arith, leb-true, length-append}
use Rattle.laws.specs.TestLaws.{choose}
use Rattle.sayings.specs.Characters.{ascii}
use Rattle.spelling.specs.FormLaws.{forms_append}
use Rattle.spelling.specs.Items.{bit_items, items_of, forms}
use Rattle.spelling.specs.Lays.{Small}
use Rattle.spelling.specs.Marks.{Mark, word, line_end, marks}
use Rattle.spelling.specs.Meaning.{Meaning, names, wrong, full, long, start, here_after, items_said, stepped, stopped, part, word_of, said_by, place_of, ready, adds, onward, walk, meaning}
use Rattle.sayings.specs.SaysLaws.{AtMost, Fits, FitsIfSaid, digit_small, word_fits, end_fits}
use Rattle.spelling.specs.declared.marks.Mode.TheVariants.{Between}
use Rattle.sayings.specs.declared.says.Said.{Said}
use Rattle.sayings.specs.declared.says.Said.TheVariants as said
use Rattle.spelling.specs.declared.turns.Here.{Here}
use Rattle.spelling.specs.declared.turns.Stop.{Stop}
use Rattle.spelling.specs.declared.turns.Stop.TheVariants as stop
use Rattle.sayings.specs.Characters.{digit_of}

-- ---- a step that goes on

at_after : (selected : Bool) (said : Said) (at : ℕ) → (here_after selected said at).at ≡ at
at_after selected (said.Then n) at = refl
at_after selected (said.One item n) at = refl
at_after selected (said.Byte byte) at = refl
at_after selected said.Close at = refl
at_after selected (said.InHold pulses) at = refl
at_after selected said.Clocked at = refl

pub not_ok : {A : Type 0} {h : Here} {why : Stop} → Err why ≡ Ok h → A
not_ok e = absurd (let z : ◌≡◌ {A = ℕ} 0 1 = cc in omega arith)

-- the trace is as long as its items are, and they had room
pub record Goes (size : ℕ) (here : Here) (n : ℕ) (h : Here) : Type 0 where
  pub behind : h.at ≡ here.at + n
  pub room : n ≤ size - here.at

pub goes :
    (size : ℕ) (here h : Here) (place : ℕ) (w : List ℕ) (said : Option Said) → stepped size here place w said ≡ Ok h
    → Goes size here (length (forms (items_said here.selected w said))) h
unfolding stepped
goes size here h place w None e = not_ok e
goes size here h place w (Some said) e = go (leb n (size - here.at)) refl e
  where
    n : ℕ
    n = length (forms (items_of here.selected w said))

    go : (c : Bool) → leb n (size - here.at) ≡ c → cond c (Ok (here_after here.selected said (here.at + n))) (Err (stop.Full place)) ≡ Ok h → Goes size here n h
    go false t q = not_ok q
    go true t q =
        let is : h ≡ here_after here.selected said (here.at + n) = cc in
        record { behind = ap (λ (x : Here). x.at) is ∙ at_after here.selected said (here.at + n); room = leb-true n (size - here.at) t }

-- ---- what holds of the items that are named

abbrev pub Names : (List ℕ → Type 0) → Meaning → Type 0
Names P (names items) = P items
Names P (wrong place n) = Unit {0}
Names P (full place) = Unit {0}
Names P long = Unit {0}

adds_names : (P : List ℕ → Type 0) (its : List ℕ) (m : Meaning) → Names (λ more. P (its ++ more)) m → Names P (adds its m)
adds_names P its (names more) h = h
adds_names P its (wrong place n) h = tt
adds_names P its (full place) h = tt
adds_names P its long h = tt

stopped_names : (P : List ℕ → Type 0) (why : Stop) → Names P (stopped why)
stopped_names P (stop.Wrong place n) = tt
stopped_names P (stop.Full place) = tt

onward_names :
    (P : List ℕ → Type 0) (s : Result Here Stop) (its : List ℕ) (more : Here → Meaning)
    → ((h : Here) → s ≡ Ok h → Names (λ rest. P (its ++ rest)) (more h)) → Names P (onward s its more)
onward_names P (Ok h) its more f = adds_names P its (more h) (f h refl)
onward_names P (Err why) its more f = stopped_names P why

pub implied : (P Q : List ℕ → Type 0) (m : Meaning) → ((items : List ℕ) → P items → Q items) → Names P m → Names Q m
implied P Q (names items) f h = f items h
implied P Q (wrong place n) f h = tt
implied P Q (full place) f h = tt
implied P Q long f h = tt

-- ---- they have room

abbrev Room : ℕ → ℕ → List ℕ → Type 0
Room size at items = at + length (forms items) ≤ size

walk_room : (text : List ℕ) (size : ℕ) (here : Here) (ms : List Mark) → here.at ≤ size → Names (Room size here.at) (walk text size here ms)
walk_room text size here [] h = choose (Names (Room size here.at)) (ready here.next) (omega arith) tt
walk_room text size here (m ∷ ms) h =
    onward_names (Room size here.at) (stepped size here (place_of m) (word_of text m) (said_by text here m)) (items_said here.selected (word_of text m) (said_by text here m)) (λ k. walk text size k ms)
    (λ k e.
    let g = goes size here k (place_of m) (word_of text m) (said_by text here m) e in
    let its = items_said here.selected (word_of text m) (said_by text here m) in
    implied (Room size k.at) (λ rest. Room size here.at (its ++ rest)) (walk text size k ms)
    (λ rest r. let sum = ap length (forms_append its rest) ∙ length-append (forms its) (forms rest) in omega (arith, g.behind))
    (walk_room text size k ms (omega (arith, g.behind, g.room))))

pub named_room : (size : ℕ) (text : List ℕ) → Names (λ items. length (forms items) ≤ size) (meaning size text)
unfolding meaning
named_room size text =
    implied (Room size 0) (λ items. length (forms items) ≤ size) (walk text size start (marks Between 0 (text ++ ascii "\n"))) (λ items h. omega arith)
    (walk_room text size start (marks Between 0 (text ++ ascii "\n")) (omega arith))

-- ---- they are trace numbers

small_append : (xs ys : List ℕ) → Small xs → Small ys → Small (xs ++ ys)
small_append [] ys p q = q
small_append (x ∷ xs) ys p q = (p.0, small_append xs ys p.1 q)

-- a digit, or 16
pub bit_small : (bit : Option ℕ) → AtMost 15 bit → unwrap_or bit 16 ≤ 16
bit_small None h = omega arith
bit_small (Some d) h = omega arith

bits_small : (w : List ℕ) → Small (bit_items w)
bits_small [] = tt
bits_small (c ∷ cs) = (let few = bit_small (digit_of c) (digit_small c) in omega arith, (omega arith, (omega arith, bits_small cs)))

items_small : (selected : Bool) (w : List ℕ) (said : Said) → Fits said → Small (items_of selected w said)
items_small selected w (said.Then n) h = tt
items_small selected w (said.One item n) h = (h, tt)
items_small selected w (said.Byte byte) h = choose Small selected (omega arith, tt) (omega arith, (omega arith, tt))
items_small selected w said.Close h = (omega arith, tt)
items_small selected w (said.InHold pulses) h = (omega arith, (omega arith, (omega arith, tt)))
items_small selected w said.Clocked h = bits_small w

said_small : (selected : Bool) (w : List ℕ) (said : Option Said) → FitsIfSaid said → Small (items_said selected w said)
said_small selected w None h = tt
said_small selected w (Some said) h = items_small selected w said h

said_fits : (text : List ℕ) (here : Here) (m : Mark) → FitsIfSaid (said_by text here m)
said_fits text here (word first end) = word_fits here.next (part first end text)
said_fits text here (line_end i) = end_fits here.selected here.next

walk_small : (text : List ℕ) (size : ℕ) (here : Here) (ms : List Mark) → Names Small (walk text size here ms)
walk_small text size here [] = choose (Names Small) (ready here.next) tt tt
walk_small text size here (m ∷ ms) =
    let its = items_said here.selected (word_of text m) (said_by text here m) in
    onward_names Small (stepped size here (place_of m) (word_of text m) (said_by text here m)) its (λ k. walk text size k ms)
    (λ k e. implied Small (λ rest. Small (its ++ rest)) (walk text size k ms) (λ rest r. small_append its rest (said_small here.selected (word_of text m) (said_by text here m) (said_fits text here m)) r) (walk_small text size k ms))

pub named_small : (size : ℕ) (text : List ℕ) → Names Small (meaning size text)
unfolding meaning
named_small size text = walk_small text size start (marks Between 0 (text ++ ascii "\n"))
