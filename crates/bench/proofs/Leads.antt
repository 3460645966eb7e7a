-- A leading number by what was read. Assumes nothing.
use Rattle.std.specs.Prelude.{◌≡◌, List, ℕ, ◌<◌, ◌≤◌, false, eqb, Result, Ok, Err, refl}
use Rattle.std.proofs.Common.{sym, ap, ◌∙◌, lt-ltb, le-ltb}
use Rattle.refusals.specs.Refusals.{number_of}
use Rattle.refusals.specs.RefusalLaws.{refusal_back}
use Rattle.refusals.specs.declared.refusal.Refusal.{Refusal}
use Rattle.refusals.specs.declared.refusal.Refusal.TheVariants.{NoPart, ArrayLength, KeptBits, Unsound, NoEvent, HoldWithSck, HoldWithCs, Malformed, TooLarge, Beyond, NoRoom, FewAnswers, ChipCount, NoChip, SerialLength, CounterCount}
use Rattle.trace.specs.Answers.{number_read, ended, refused_at, read_told}
use Rattle.trace.specs.Figures.{last_byte}
use Rattle.trace.specs.Number.{reading}
use Rattle.trace.specs.declared.answer.Read.{Read}
use Rattle.trace.specs.declared.answer.Read.TheVariants.{Number, End}
use Rattle.trace.specs.declared.answer.Refused.{Refused}
use Rattle.bench.specs.Head.{stopped, leading}
use Rattle.bench.specs.declared.head.Lead.{Lead}

pub no_row_is_0 : (why : Refusal) → eqb (number_of why) 0 ≡ false
no_row_is_0 NoPart = refl
no_row_is_0 ArrayLength = refl
no_row_is_0 KeptBits = refl
no_row_is_0 Unsound = refl
no_row_is_0 NoEvent = refl
no_row_is_0 HoldWithSck = refl
no_row_is_0 HoldWithCs = refl
no_row_is_0 Malformed = refl
no_row_is_0 TooLarge = refl
no_row_is_0 Beyond = refl
no_row_is_0 NoRoom = refl
no_row_is_0 FewAnswers = refl
no_row_is_0 ChipCount = refl
no_row_is_0 NoChip = refl
no_row_is_0 SerialLength = refl
no_row_is_0 CounterCount = refl

abbrev lead : ℕ → ℕ → Lead
lead n place = record { value = n; next = place }

module _ (s : List ℕ) (at : ℕ) (found : Result Read Refused) (read : read_told found ≡ reading s at) where
  -- what is read, by the two matches that tell it
  pub number_there : (r : Read) (n next : ℕ) → found ≡ Ok r → r ≡ Number n next → reading s at ≡ number_read n next
  number_there r n next is kind = sym read ∙ ap read_told (is ∙ ap Ok kind)

  pub end_there : (r : Read) (p : ℕ) → found ≡ Ok r → r ≡ End p → reading s at ≡ ended p
  end_there r p is kind = sym read ∙ ap read_told (is ∙ ap Ok kind)

  pub refused_there : (r : Refused) → found ≡ Err r → reading s at ≡ refused_at (number_of r.refusal) r.at
  refused_there r is = sym read ∙ ap read_told is

  pub lead_high : (r : Read) (n next : ℕ) → found ≡ Ok r → r ≡ Number n next → last_byte < n → stopped TooLarge next ≡ leading s at
  unfolding leading
  lead_high r n next is kind h = rw (number_there r n next is kind, lt-ltb last_byte n h)

  pub lead_low : (r : Read) (n next : ℕ) → found ≡ Ok r → r ≡ Number n next → n ≤ last_byte → Ok (lead n next) ≡ leading s at
  unfolding leading
  lead_low r n next is kind h = rw (number_there r n next is kind, le-ltb last_byte n h)

  pub lead_end : (r : Read) (p : ℕ) → found ≡ Ok r → r ≡ End p → stopped Malformed p ≡ leading s at
  unfolding leading
  lead_end r p is kind = rw (end_there r p is kind)

  pub lead_refused : (r : Refused) → found ≡ Err r → Err r ≡ leading s at
  unfolding leading
  lead_refused r is = rw (refused_there r is, no_row_is_0 r.refusal, refusal_back r.refusal)
