-- Two outcomes that both satisfy a call's promise are the same, for each public call. An answer's number, value and place
-- say which answer it is. Assumes nothing.
use Rattle.std.specs.Prelude.{◌≡◌, refl, List, ℕ, Option, Some, None, Result, Ok, Err}
use Rattle.std.proofs.Common.{sym, ap, ◌∙◌}
use Rattle.std.specs.Borrow.{Bor}
use Rattle.refusals.specs.Refusals.{number_of}
use Rattle.refusals.specs.RefusalLaws.{given_at, given_back}
use Rattle.refusals.specs.declared.refusal.Refusal.{Refusal}
use Rattle.trace.specs.declared.answer.Read.{Read}
use Rattle.trace.specs.declared.answer.Read.TheVariants.{Number, End}
use Rattle.trace.specs.declared.answer.Refused.{Refused}
use Rattle.trace.specs.declared.reader.Reader.{Reader}
use Rattle.trace.specs.Answers.{Value, num, end, Told, read_told, written_told}
use Rattle.trace.specs.Promises.{ReadPromise, WritePromise, NextPromise}
use Rattle.trace.specs.Reader.{reader_at}

-- ---- back from what is told to the answer

abbrev valued : Value → ℕ → Read
valued (num n) place = Number n place
valued end place = End place

-- an answer by its refusal, what it has where there is none, and its place
abbrev answer : {A : Type 0} → Option Refusal → A → ℕ → Result A Refused
answer None a place = Ok a
answer (Some why) a place = Err (record { refusal = why; at = place })

-- the answer of a read by what it tells
abbrev pub read_of : Told → Result Read Refused
read_of t = answer (given_at t.refusal) (valued t.value t.place) t.place

pub read_of_lem : (r : Result Read Refused) → read_of (read_told r) ≡ r
read_of_lem (Ok (Number n next)) = refl
read_of_lem (Ok (End at)) = refl
read_of_lem (Err r) = ap (λ (g : Option Refusal). answer g (Number 0 r.at) r.at) (given_back (Some r.refusal))

-- the answer of a write by what it tells
abbrev pub written_of : Told → Result ℕ Refused
written_of t = answer (given_at t.refusal) t.place t.place

pub written_of_lem : (r : Result ℕ Refused) → written_of (written_told r) ≡ r
written_of_lem (Ok next) = refl
written_of_lem (Err r) = ap (λ (g : Option Refusal). answer g r.at r.at) (given_back (Some r.refusal))

-- ---- one outcome

-- the number of a refusal
pub number_sole : (why : Refusal) (a b : ℕ) → a ≡ number_of why → b ≡ number_of why → a ≡ b
number_sole why a b p q = p ∙ sym q

-- `read_at` and `number_at`
pub read_sole : (s : List ℕ) (at : ℕ) (a b : Result Read Refused) → ReadPromise s at a → ReadPromise s at b → a ≡ b
read_sole s at a b p q = sym (read_of_lem a) ∙ ap read_of (p ∙ sym q) ∙ read_of_lem b

-- `write_at`: the answer, and the slice at exit
pub write_sole :
    (s : List ℕ) (at n : ℕ) (a b : Result ℕ Refused) (x y : List ℕ)
    → WritePromise s at n a x
    → WritePromise s at n b y
    → (a ≡ b) × (x ≡ y)
write_sole s at n a b x y p q = (sym (written_of_lem a) ∙ ap written_of (p.0 ∙ sym q.0) ∙ written_of_lem b, p.1 ∙ sym q.1)

-- `Reader::open`
pub open_sole : (s : Bor (List ℕ)) (at : ℕ) (a b : Reader) → a ≡ reader_at s at → b ≡ reader_at s at → a ≡ b
open_sole s at a b p q = p ∙ sym q

-- `Reader::next`: the answer, and the reader at exit
pub next_sole :
    (r : Reader) (a b : Result Read Refused) (x y : Reader)
    → NextPromise r a x
    → NextPromise r b y
    → (a ≡ b) × (x ≡ y)
next_sole r a b x y p q = (read_sole r.src.now r.at a b p.0 q.0, p.1 ∙ sym q.1)
