-- The refusals and their numbers (document 01, "Refusals and their order"; document 02 adds 12 to 16). Assumes nothing.
use Rattle.std.specs.Prelude.{ℕ, Option, Some, None}
use Rattle.refusals.specs.declared.refusal.Refusal.{Refusal}
use Rattle.refusals.specs.declared.refusal.Refusal.TheVariants.{NoPart, ArrayLength, KeptBits, Unsound, NoEvent, HoldWithSck, HoldWithCs, Malformed, TooLarge, Beyond, NoRoom, FewAnswers, ChipCount, NoChip, SerialLength, CounterCount}

abbrev pub number_of : Refusal → ℕ
-- 1 "part not 1 to 3"
number_of NoPart = 1
-- 2 "array length is not the part's"
number_of ArrayLength = 2
-- 3 "kept bits outside the mask"
number_of KeptBits = 3
-- 4 "state fails the soundness test"
number_of Unsound = 4
-- 5 "event code 12 or more"
number_of NoEvent = 5
-- 6 "power on, /HOLD would move with SCK high"
number_of HoldWithSck = 6
-- 7 "power on, /HOLD would rise with /CS moved"
number_of HoldWithCs = 7
-- 8 "trace number cut off, over two bytes, or not shortest"
number_of Malformed = 8
-- 9 "trace number over 267"
number_of TooLarge = 9
-- 10 "place beyond the slice's end"
number_of Beyond = 10
-- 11 "no room to write the number"
number_of NoRoom = 11
-- 12 "answer slice shorter than the event slice"
number_of FewAnswers = 12
-- 13 "no chips or over eight"
number_of ChipCount = 13
-- 14 "no such chip, for an own line only"
number_of NoChip = 14
-- 15 "serial not eight bytes long"
number_of SerialLength = 15
-- 16 "counter slice not one per row"
number_of CounterCount = 16

-- "a refusal number or 0"
abbrev pub number_or_0 : Option Refusal → ℕ
number_or_0 None = 0
number_or_0 (Some refusal) = number_of refusal
