-- Every remark fits a line's buffer, and so stands whole at its front. Assumes nothing.
use Rattle.std.proofs.Common.{◌≡◌, refl, sym, ap, ◌∙◌, arith, List, ◌++◌, ℕ, ◌≤◌, length, drop, length-take-le, length-append, length-drop, Result, Ok, Err}
use Rattle.io.specs.Counts.{IsPrefixLen}
use Rattle.report.specs.Text.{ascii, line_room}
use Rattle.report.specs.LineLaws.{joined, four, numbered_fits}
use Rattle.report.specs.Lines.{numbered}
use Rattle.report.specs.Page.{Page, page_of, printed}
use Rattle.report.specs.PageLaws.{printed_whole}
use Rattle.sayings.specs.declared.says.Next.{Next}
use Rattle.sayings.specs.declared.says.Next.TheVariants as next
use Rattle.spelling.specs.declared.spell.Fault.{Fault}
use Rattle.spelling.specs.declared.spell.Fault.TheVariants as fault
use Rattle.spelling.specs.declared.spell.Place.{Place}
use Rattle.speller.specs.Remarks.{most_expected, most_place, expected_text, place_text, wrong_text, full_text, long_text, remark_of}

expected_fits : (n : Next) → length (expected_text n) ≤ most_expected
unfolding expected_text
expected_fits next.Part = omega arith
expected_fits next.PartNumber = omega arith
expected_fits next.Kept = omega arith
expected_fits next.KeptByte = omega arith
expected_fits next.LineEnd = omega arith
expected_fits next.Word = omega arith
expected_fits (next.Level pin) = omega arith
expected_fits next.Idle = omega arith
expected_fits next.Held = omega arith
expected_fits next.Bits = omega arith
expected_fits next.Item = omega arith

place_fits : (place : Place) → length (place_text place) ≤ most_place
unfolding place_text
place_fits place =
    joined (numbered (ascii "line ") place.line) (numbered (ascii ", column ") place.column) 25 29
    (numbered_fits (ascii "line ") place.line 5 refl) (numbered_fits (ascii ", column ") place.column 9 refl)

remark_fits : (answer : Result ℕ Fault) → length (remark_of answer) ≤ line_room
unfolding remark_of wrong_text full_text long_text
remark_fits (Ok n) = omega arith
remark_fits (Err (fault.Wrong place n)) =
    let most = four (place_text place) (ascii ": expected ") (expected_text n) (ascii "\n") most_place 11 most_expected 1 (place_fits place) (omega arith) (expected_fits n) (omega arith) in
    omega (arith, most)
remark_fits (Err (fault.Full place)) =
    let most = joined (place_text place) (ascii ": expected the text's end, since a trace has at most 32768 bytes\n") most_place 100 (place_fits place) (omega arith) in
    omega (arith, most)
remark_fits (Err fault.Long) = omega arith

module _ (a b : List ℕ) (n : ℕ) (answer : Result ℕ Fault) (size : length a ≡ line_room) (e : page_of b n ≡ printed (page_of a 0) (remark_of answer)) where
  whole : page_of b n ≡ page_of (remark_of answer ++ drop (length (remark_of answer)) a) (length (remark_of answer))
  whole = e ∙ printed_whole a (remark_of answer) (omega (arith, size, remark_fits answer))

  pub told : n ≡ length (remark_of answer)
  told = ap (λ (p : Page). p.at) whole

  pub left : b ≡ remark_of answer ++ drop n a
  left = ap (λ (p : Page). p.bytes) whole ∙ ap (λ (k : ℕ). remark_of answer ++ drop k a) (sym told)

  pub front : IsPrefixLen n b
  front = (fit, sym (length-take-le n b fit))
    where
      fit : n ≤ length b
      fit = omega (arith, told, ap length left, length-append (remark_of answer) (drop n a), length-drop n a, remark_fits answer, size)
