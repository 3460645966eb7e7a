-- What is said of a text that spells no trace: "one line with line and column (from 1) and what was expected there". Assumes nothing.
use Rattle.std.specs.Prelude.{ℕ, List, [], ◌++◌, Result, Ok, Err}
use Rattle.report.specs.Lines.{numbered}
use Rattle.report.specs.Text.{ascii}
use Rattle.sayings.specs.declared.says.Next.{Next}
use Rattle.sayings.specs.declared.says.Next.TheVariants as next
use Rattle.spelling.specs.declared.spell.Fault.{Fault}
use Rattle.spelling.specs.declared.spell.Fault.TheVariants as fault
use Rattle.spelling.specs.declared.spell.Place.{Place}

-- what may stand next, in words
unfoldable pub expected_text : Next → List ℕ
expected_text next.Part = ascii "the part, as in: part 1 kept 00"
expected_text next.PartNumber = ascii "the part's number (0 to 267), as in: part 1 kept 00"
expected_text next.Kept = ascii "kept or the line's end, as in: part 1 kept 00"
expected_text next.KeptByte = ascii "the kept bits as two hex digits, as in: part 1 kept 00"
expected_text next.LineEnd = ascii "the line's end"
expected_text next.Word = ascii "two hex digits or a word (cs sck si hold wp vdd cut power idle held bits item)"
expected_text (next.Level pin) = ascii "low or high"
expected_text next.Idle = ascii "a number of pulses (1 to 268435188)"
expected_text next.Held = ascii "a number of pulses (1 to 268435188)"
expected_text next.Bits = ascii "bits, each 0 or 1"
expected_text next.Item = ascii "an item's number (0 to 268435455)"

-- the most characters of these, and of a place
abbrev pub most_expected : ℕ
most_expected = 80

abbrev pub most_place : ℕ
most_place = 54

-- "line 3, column 7"
unfoldable pub place_text : Place → List ℕ
place_text place = numbered (ascii "line ") place.line ++ numbered (ascii ", column ") place.column

unfoldable pub wrong_text : Place → Next → List ℕ
wrong_text place n = place_text place ++ ascii ": expected " ++ expected_text n ++ ascii "\n"

unfoldable pub full_text : Place → List ℕ
full_text place = place_text place ++ ascii ": expected the text's end, since a trace has at most 32768 bytes\n"

unfoldable pub long_text : List ℕ
long_text = ascii "expected a text of at most 262144 characters\n"

-- the line; none where the text spells a trace
unfoldable pub remark_of : Result ℕ Fault → List ℕ
remark_of (Ok n) = []
remark_of (Err (fault.Wrong place n)) = wrong_text place n
remark_of (Err (fault.Full place)) = full_text place
remark_of (Err fault.Long) = long_text
