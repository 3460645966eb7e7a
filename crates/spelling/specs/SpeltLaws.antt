-- Of a text that spells a trace: the trace is short enough for the replay, and its numbers are the items that the text
-- names. Assumes nothing.
--     spelt_short     what is answered as the trace's length is at most what the replay reads
--     round_trip      reading the trace number by number, from its first byte to its end, gives the items
use Rattle.std.specs.Prelude.{◌≡◌, List, [], ◌∷◌, ◌++◌, Result, Ok, ℕ, ◌+◌, ◌≤◌, ltb, length}
use Rattle.std.proofs.Common.{sym, ap, ◌∙◌, append_assoc, append-nil, arith, length-append}
use Rattle.laws.specs.TestLaws.{choose}
use Rattle.trace.specs.Answers.{number_read, ended}
use Rattle.trace.specs.Form.{form}
use Rattle.trace.specs.Number.{reading}
use Rattle.trace.specs.NumberLaws.{reads_back}
use Rattle.trace.specs.ScanLaws.{reading_end}
use Rattle.spelling.specs.Items.{forms}
use Rattle.spelling.specs.Lays.{Small}
use Rattle.spelling.specs.Meaning.{Meaning, names, wrong, full, long, longest, meaning}
use Rattle.spelling.specs.MeaningLaws.{Names, implied, named_room, named_small}
use Rattle.spelling.specs.Spelt.{most_bytes, spelt, answered, Spells}
use Rattle.spelling.specs.declared.spell.Fault.{Fault}

-- ---- the trace is short enough

abbrev Short : List ℕ → Type 0
Short items = length (forms items) ≤ most_bytes

short : (text : List ℕ) → Names Short (spelt text)
unfolding spelt
short text = choose (Names Short) (ltb longest (length text)) tt (named_room most_bytes text)

answered_short : (text : List ℕ) (n : ℕ) (m : Meaning) → Names Short m → Ok n ≡ answered text m → n ≤ most_bytes
answered_short text n (names items) h e = let is : n ≡ length (forms items) = cc in omega arith
answered_short text n (wrong i k) h e = absurd (let z : ◌≡◌ {A = ℕ} 0 1 = cc in omega arith)
answered_short text n (full i) h e = absurd (let z : ◌≡◌ {A = ℕ} 0 1 = cc in omega arith)
answered_short text n long h e = absurd (let z : ◌≡◌ {A = ℕ} 0 1 = cc in omega arith)

pub spelt_short : (text before after : List ℕ) (r : Result ℕ Fault) (n : ℕ) → Spells text before after r → r ≡ Ok n → n ≤ most_bytes
spelt_short text before after r n s e = answered_short text n (spelt text) (short text) (sym e ∙ s.answer)

-- ---- the round trip

-- a trace read from a place on gives items, one after the other, and then its end
pub data Reads (trace : List ℕ) : ℕ → List ℕ → Type 0 where
  done : {at : ℕ} → reading trace at ≡ ended at → Reads trace at []
  more : {at next item : ℕ} {items : List ℕ} → reading trace at ≡ number_read item next → Reads trace next items → Reads trace at (item ∷ items)

reads_on : (front items : List ℕ) → Small items → Reads (front ++ forms items) (length front) items
reads_on front [] s = done (reading_end (front ++ []) (length front) (ap length (sym (append-nil front))))
reads_on front (item ∷ items) s =
    let rest : Reads (front ++ (form item ++ forms items)) (length front + length (form item)) items =
    rw (append_assoc front (form item) (forms items), length-append front (form item)) at (reads_on (front ++ form item) items s.1) in
    more (reads_back front (forms items) item s.0) rest

pub round_trip : (text : List ℕ) → Names (λ items. Reads (forms items) 0 items) (spelt text)
unfolding spelt
round_trip text =
    choose (Names (λ items. Reads (forms items) 0 items)) (ltb longest (length text)) tt
    (implied Small (λ items. Reads (forms items) 0 items) (meaning most_bytes text) (λ items s. reads_on [] items s) (named_small most_bytes text))
