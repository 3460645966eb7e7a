-- What a word or a line's end says are numbers that a trace has. Assumes nothing.
use Rattle.std.specs.Prelude.{◌≡◌, refl, Bool, true, false, cond, ◌&&◌, List, [], ◌∷◌, Option, Some, None, ℕ, ◌+◌, ◌-◌, ◌*◌, ◌≤◌, leb, ltb, eqb, length, get_or}
use Rattle.std.specs.Option.{option_and_then, option_map}
use Rattle.std.proofs.Common.{arith, leb-true, leb-false}
use Rattle.laws.specs.TestLaws.{right, choose}
use Rattle.trace.specs.Figures.{largest, last_byte}
use Rattle.sayings.specs.Characters.{ascii, char, within, digit_of}
use Rattle.sayings.specs.Words.{named, two_digits, byte_of, longer, digits_after, number_of, all_bits}
use Rattle.sayings.specs.Says.{pins, pin_of, itself, said_verb, pin_or_verb, any_of, said_any, said_name, said_part, said_kept, said_level, most_pulses, only_pulses, pulses_of, said_idle, said_held, said_bits, said_item, said_word, said_end}
use Rattle.sayings.specs.declared.says.Next.{Next}
use Rattle.sayings.specs.declared.says.Next.TheVariants as next
use Rattle.sayings.specs.declared.says.Said.{Said}
use Rattle.sayings.specs.declared.says.Said.TheVariants as said

-- a number, if there is one, is at most so large
abbrev pub AtMost : ℕ → Option ℕ → Type 0
AtMost most None = Unit {0}
AtMost most (Some n) = n ≤ most

-- what comes of a number, where there is one, by what holds of the number
and_then : {B : Type 0} (P : Option B → Type 0) (most : ℕ) (f : ℕ → Option B) (n : Option ℕ) → P None → ((k : ℕ) → k ≤ most → P (f k)) → AtMost most n → P (option_and_then f n)
and_then P most f None z h a = z
and_then P most f (Some n) z h a = h n a

-- ---- digits, and numbers that words are

-- a digit's value is that of one hex digit
pub digit_small : (c : ℕ) → AtMost 15 (digit_of c)
unfolding digit_of
digit_small c =
    bounded_by (within (char "0") (char "9") c) (c - char "0") _ (λ e. omega (arith, leb-true c 57 (right (leb 48 c) (leb c 57) e)))
    (bounded_by (within (char "A") (char "F") c) (c - char "A" + 10) _ (λ e. omega (arith, leb-true c 70 (right (leb 65 c) (leb c 70) e)))
    (bounded_by (within (char "a") (char "f") c) (c - char "a" + 10) _ (λ e. omega (arith, leb-true c 102 (right (leb 97 c) (leb c 102) e)))
    tt))
  where
    bounded_by : (t : Bool) (a : ℕ) (b : Option ℕ) → (t ≡ true → a ≤ 15) → AtMost 15 b → AtMost 15 (cond t (Some a) b)
    bounded_by true a b f q = f refl
    bounded_by false a b f q = q

byte_value : (h l : Option ℕ) → AtMost 15 h → AtMost 15 l → AtMost 255 (two_digits h l)
byte_value None l p q = tt
byte_value (Some h) None p q = tt
byte_value (Some h) (Some l) p q = omega arith

chosen : (most n : ℕ) (t : Bool) → (t ≡ true → n ≤ most) → AtMost most (cond t (Some n) None)
chosen most n true h = h refl
chosen most n false h = tt

pub byte_fits : (w : List ℕ) → AtMost 255 (byte_of w)
unfolding byte_of
byte_fits w = choose (AtMost 255) (eqb (length w) 2) (byte_value (digit_of (get_or w 0 0)) (digit_of (get_or w 1 0)) (digit_small (get_or w 0 0)) (digit_small (get_or w 1 0))) tt

longer_fits : (n : ℕ) (d : Option ℕ) → AtMost largest (longer n d)
longer_fits n None = tt
longer_fits n (Some d) = chosen largest (n * 10 + d) (ltb d 10 && leb (n * 10 + d) largest) (λ e. leb-true (n * 10 + d) largest (right (ltb d 10) (leb (n * 10 + d) largest) e))

digits_fit : (n : ℕ) (w : List ℕ) → n ≤ largest → AtMost largest (digits_after n w)
digits_fit n [] h = h
digits_fit n (c ∷ cs) h = and_then (AtMost largest) largest (λ m. digits_after m cs) (longer n (digit_of c)) tt (λ k l. digits_fit k cs l) (longer_fits n (digit_of c))

pub number_fits : (w : List ℕ) → AtMost largest (number_of w)
unfolding number_of
number_fits w = digits_fit 0 w (omega arith)

pub pulses_fit : (w : List ℕ) → AtMost most_pulses (pulses_of w)
unfolding pulses_of
pulses_fit w =
    and_then (AtMost most_pulses) largest only_pulses (number_of w) tt
    (λ n h. chosen most_pulses n (leb 1 n && leb n most_pulses) (λ e. leb-true n most_pulses (right (leb 1 n) (leb n most_pulses) e))) (number_fits w)

pub bounded : {n most : ℕ} {r a : Option ℕ} → r ≡ a → r ≡ Some n → AtMost most a → n ≤ most
bounded e is h = rw (← e, is) at h

-- ---- what is said

-- what is said is made of trace numbers
abbrev pub Fits : Said → Type 0
Fits (said.Then n) = Unit {0}
Fits (said.One item n) = item ≤ largest
Fits (said.Byte byte) = byte ≤ 255
Fits said.Close = Unit {0}
Fits (said.InHold pulses) = pulses ≤ most_pulses
Fits said.Clocked = Unit {0}

-- the same, where anything is said
abbrev pub FitsIfSaid : Option Said → Type 0
FitsIfSaid None = Unit {0}
FitsIfSaid (Some said) = Fits said

verb_fits : (w : List ℕ) → FitsIfSaid (said_verb w)
unfolding said_verb
verb_fits w =
    choose FitsIfSaid (named w (ascii "cut")) (omega arith)
    (choose FitsIfSaid (named w (ascii "power")) (omega arith)
    (choose FitsIfSaid (named w (ascii "idle")) tt
    (choose FitsIfSaid (named w (ascii "held")) tt
    (choose FitsIfSaid (named w (ascii "bits")) tt
    (choose FitsIfSaid (named w (ascii "item")) tt
    tt)))))

any_fits : (w : List ℕ) → FitsIfSaid (said_any w)
unfolding said_any
any_fits w = go (byte_of w) (byte_fits w)
  where
    named_fits : (pin : Option ℕ) → FitsIfSaid (pin_or_verb pin w)
    named_fits (Some pin) = tt
    named_fits None = verb_fits w

    go : (n : Option ℕ) → AtMost 255 n → FitsIfSaid (any_of n w)
    go (Some n) h = h
    go None h = named_fits (pin_of w)

level_fits : (w : List ℕ) (pin : ℕ) → FitsIfSaid (said_level w pin)
unfolding said_level
level_fits w pin = go (leb pins pin) refl
  where
    go : (t : Bool) → leb pins pin ≡ t → FitsIfSaid (cond t None (cond (named w (ascii "low")) (itself (pin * 2)) (cond (named w (ascii "high")) (itself (pin * 2 + 1)) None)))
    go true e = tt
    go false e =
        let few = leb-false pins pin e in
        choose FitsIfSaid (named w (ascii "low")) (omega arith) (choose FitsIfSaid (named w (ascii "high")) (omega arith) tt)

part_fits : (w : List ℕ) → FitsIfSaid (said_part w)
unfolding said_part
part_fits w = and_then FitsIfSaid largest (λ n. cond (leb n last_byte) (Some (said.One n next.Kept)) None) (number_of w) tt (λ k h. choose FitsIfSaid (leb k last_byte) h tt) (number_fits w)

-- of a word that is a number
mapped_fits : (most : ℕ) (f : ℕ → Said) (n : Option ℕ) → ((k : ℕ) → k ≤ most → Fits (f k)) → AtMost most n → FitsIfSaid (option_map f n)
mapped_fits most f None h a = tt
mapped_fits most f (Some n) h a = h n a

kept_fits : (w : List ℕ) → FitsIfSaid (said_kept w)
unfolding said_kept
kept_fits w = mapped_fits 255 (λ n. said.One n next.LineEnd) (byte_of w) (λ k h. omega arith) (byte_fits w)

idle_fits : (w : List ℕ) → FitsIfSaid (said_idle w)
unfolding said_idle
idle_fits w = and_then FitsIfSaid most_pulses (λ n. itself (last_byte + n)) (pulses_of w) tt (λ k h. omega arith) (pulses_fit w)

held_fits : (w : List ℕ) → FitsIfSaid (said_held w)
unfolding said_held
held_fits w = mapped_fits most_pulses said.InHold (pulses_of w) (λ k h. h) (pulses_fit w)

bits_fit : (w : List ℕ) → FitsIfSaid (said_bits w)
unfolding said_bits
bits_fit w = choose FitsIfSaid (all_bits w) tt tt

item_fits : (w : List ℕ) → FitsIfSaid (said_item w)
unfolding said_item
item_fits w = and_then FitsIfSaid largest itself (number_of w) tt (λ k h. h) (number_fits w)

name_fits : (w name : List ℕ) (n : Next) → FitsIfSaid (said_name w name n)
unfolding said_name
name_fits w name n = choose FitsIfSaid (named w name) tt tt

pub word_fits : (n : Next) (w : List ℕ) → FitsIfSaid (said_word n w)
unfolding said_word
word_fits next.Part w = name_fits w (ascii "part") next.PartNumber
word_fits next.PartNumber w = part_fits w
word_fits next.Kept w = name_fits w (ascii "kept") next.KeptByte
word_fits next.KeptByte w = kept_fits w
word_fits next.LineEnd w = tt
word_fits next.Word w = any_fits w
word_fits (next.Level pin) w = level_fits w pin
word_fits next.Idle w = idle_fits w
word_fits next.Held w = held_fits w
word_fits next.Bits w = bits_fit w
word_fits next.Item w = item_fits w

pub end_fits : (selected : Bool) (n : Next) → FitsIfSaid (said_end selected n)
unfolding said_end
end_fits selected next.Part = tt
end_fits selected next.PartNumber = tt
end_fits selected next.Kept = omega arith
end_fits selected next.KeptByte = tt
end_fits selected next.LineEnd = tt
end_fits selected next.Word = choose FitsIfSaid selected tt tt
end_fits selected (next.Level pin) = tt
end_fits selected next.Idle = tt
end_fits selected next.Held = tt
end_fits selected next.Bits = tt
end_fits selected next.Item = tt
