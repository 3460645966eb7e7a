-- No two refusals have one number, and none has 0: a refusal can be read back from it. Assumes nothing.
use Rattle.std.specs.Prelude.{ℕ, ◌≡◌, refl, ◌-◌, cond, eqb, List, [], ◌∷◌, get_or, Option, Some, None}
use Rattle.std.proofs.Common.{sym, ap, ◌∙◌}
use Rattle.refusals.specs.Refusals.{number_of, number_or_0}
use Rattle.refusals.specs.declared.refusal.Refusal.{Refusal}
use Rattle.refusals.specs.declared.refusal.Refusal.TheVariants.{NoPart, ArrayLength, KeptBits, Unsound, NoEvent, HoldWithSck, HoldWithCs, Malformed, TooLarge, Beyond, NoRoom, FewAnswers, ChipCount, NoChip, SerialLength, CounterCount}

-- the rows of the table, the first of which has number 1
abbrev rows : List Refusal
rows = NoPart ∷ ArrayLength ∷ KeptBits ∷ Unsound ∷ NoEvent ∷ HoldWithSck ∷ HoldWithCs ∷ Malformed ∷ TooLarge ∷ Beyond ∷ NoRoom ∷ FewAnswers ∷ ChipCount ∷ NoChip ∷ SerialLength ∷ CounterCount ∷ []

abbrev pub refusal_at : ℕ → Refusal
refusal_at n = get_or rows (n - 1) NoPart

abbrev pub given_at : ℕ → Option Refusal
given_at n = cond (eqb n 0) None (Some (refusal_at n))

pub refusal_back : (refusal : Refusal) → refusal_at (number_of refusal) ≡ refusal
refusal_back NoPart = refl
refusal_back ArrayLength = refl
refusal_back KeptBits = refl
refusal_back Unsound = refl
refusal_back NoEvent = refl
refusal_back HoldWithSck = refl
refusal_back HoldWithCs = refl
refusal_back Malformed = refl
refusal_back TooLarge = refl
refusal_back Beyond = refl
refusal_back NoRoom = refl
refusal_back FewAnswers = refl
refusal_back ChipCount = refl
refusal_back NoChip = refl
refusal_back SerialLength = refl
refusal_back CounterCount = refl

pub given_back : (given : Option Refusal) → given_at (number_or_0 given) ≡ given
given_back None = refl
given_back (Some NoPart) = refl
given_back (Some ArrayLength) = refl
given_back (Some KeptBits) = refl
given_back (Some Unsound) = refl
given_back (Some NoEvent) = refl
given_back (Some HoldWithSck) = refl
given_back (Some HoldWithCs) = refl
given_back (Some Malformed) = refl
given_back (Some TooLarge) = refl
given_back (Some Beyond) = refl
given_back (Some NoRoom) = refl
given_back (Some FewAnswers) = refl
given_back (Some ChipCount) = refl
given_back (Some NoChip) = refl
given_back (Some SerialLength) = refl
given_back (Some CounterCount) = refl

pub refusal_sole : (a b : Refusal) → number_of a ≡ number_of b → a ≡ b
refusal_sole a b e = sym (refusal_back a) ∙ ap refusal_at e ∙ refusal_back b

pub given_sole : (a b : Option Refusal) → number_or_0 a ≡ number_or_0 b → a ≡ b
given_sole a b e = sym (given_back a) ∙ ap given_at e ∙ given_back b
