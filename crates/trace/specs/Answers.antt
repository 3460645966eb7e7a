-- What a call on trace numbers tells, in document 01's terms: a refusal's number or 0, a value and a place; and what each answer tells. Assumes nothing.
use Rattle.std.specs.Prelude.{ℕ, Result, Ok, Err}
use Rattle.refusals.specs.Refusals.{number_of}
use Rattle.trace.specs.declared.answer.Read.{Read}
use Rattle.trace.specs.declared.answer.Read.TheVariants.{Number, End}
use Rattle.trace.specs.declared.answer.Refused.{Refused}

-- "Reading at the slice's very end answers "end"": a value is a number or "end".
pub data Value : Type 0 where
  num : ℕ → Value
  end : Value

pub record Told : Type 0 where
  pub refusal : ℕ
  pub value : Value
  pub place : ℕ

-- "An accepted read gives the number and the place after it"
abbrev pub number_read : ℕ → ℕ → Told
number_read n next = record { refusal = 0; value = num n; place = next }

-- "Reading at the slice's very end answers "end"." The place is the end's own.
abbrev pub ended : ℕ → Told
ended at = record { refusal = 0; value = end; place = at }

-- "an accepted write gives the place after it": the value that it gives is 0
abbrev pub placed : ℕ → Told
placed next = record { refusal = 0; value = num 0; place = next }

-- "A refused read or write returns its number, the value 0 and the place given."
abbrev pub refused_at : ℕ → ℕ → Told
refused_at row at = record { refusal = row; value = num 0; place = at }

-- what a read tells
abbrev pub read_told : Result Read Refused → Told
read_told (Ok (Number n next)) = number_read n next
read_told (Ok (End at)) = ended at
read_told (Err r) = refused_at (number_of r.refusal) r.at

-- what a write tells
abbrev pub written_told : Result ℕ Refused → Told
written_told (Ok next) = placed next
written_told (Err r) = refused_at (number_of r.refusal) r.at
