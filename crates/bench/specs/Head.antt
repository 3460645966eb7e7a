-- The two numbers that lead a trace. Assumes nothing.
use Rattle.std.specs.Prelude.{ℕ, cond, List, eqb, ltb, Result, Ok, Err}
use Rattle.refusals.specs.RefusalLaws.{refusal_at}
use Rattle.refusals.specs.declared.refusal.Refusal.{Refusal}
use Rattle.refusals.specs.declared.refusal.Refusal.TheVariants.{Malformed, TooLarge}
use Rattle.trace.specs.Answers.{Told, Value, num, end}
use Rattle.trace.specs.Figures.{last_byte}
use Rattle.trace.specs.Number.{reading}
use Rattle.trace.specs.declared.answer.Refused.{Refused}
use Rattle.bench.specs.declared.head.Lead.{Lead}
use Rattle.bench.specs.declared.head.Head.{Head}
use Rattle.bench.specs.declared.head.NoHead.{NoHead}

-- a number that leads no trace: its refusal, and the place where the reading stopped
abbrev pub stopped : Refusal → ℕ → Result Lead Refused
stopped why place = Err (record { refusal = why; at = place })

-- "The first two numbers of a trace stay below 268." "9 is given .. by replay for a leading number above 267, as it is read"
abbrev pub led : Value → ℕ → Result Lead Refused
led (num n) place = cond (ltb last_byte n) (stopped TooLarge place) (Ok (record { value = n; next = place }))
-- ""end" in place of either is refusal 8"
led end place = stopped Malformed place

abbrev pub lead_of : Told → Result Lead Refused
lead_of t = cond (eqb t.refusal 0) (led t.value t.place) (stopped (refusal_at t.refusal) t.place)

unfoldable pub leading : List ℕ → ℕ → Result Lead Refused
leading s at = lead_of (reading s at)

-- where the second number is refused, the part's number is told too, and the place where its reading stopped
abbrev pub both : Lead → Result Lead Refused → Result Head NoHead
both part (Ok kept) = Ok (record { part = part.value; kept = kept.value; items = kept.next })
both part (Err why) = Err (record { refusal = why.refusal; part = part.value; at = why.at })

-- where the part's number is refused, nothing else
abbrev pub no_part : Refused → NoHead
no_part why = record { refusal = why.refusal; part = 0; at = 0 }

abbrev pub first_of : List ℕ → Result Lead Refused → Result Head NoHead
first_of s (Ok part) = both part (leading s part.next)
first_of s (Err why) = Err (no_part why)

-- "It reads both leading numbers before power-up": the first number's refusal comes first
unfoldable pub head_of : List ℕ → Result Head NoHead
head_of s = first_of s (leading s 0)
