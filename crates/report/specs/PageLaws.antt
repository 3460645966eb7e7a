-- A text printed from the slice's start on: as much of it as the slice has room for, then the rest of the slice as it was.
-- Assumes nothing.
use Rattle.std.specs.Prelude.{◌≡◌, List, ◌++◌, ℕ, ◌+◌, ◌≤◌, length, take, drop}
use Rattle.std.proofs.Common.{ap, ◌∙◌, zero-add, length-take}
use Rattle.std.proofs.Math.Nat.{sub-zero, min-le_left}
use Rattle.std.proofs.lemmas.List.{take_all}
use Rattle.std.proofs.lemmas.List.Edits.{sets, sets-eq}
use Rattle.report.specs.Page.{page_of, printed}

abbrev pub cut : List ℕ → List ℕ → List ℕ
cut out text = take (length out) text

pub cut_fits : (out text : List ℕ) → length (cut out text) ≤ length out
cut_fits out text = rw (length-take (length out) text) (min-le_left (length out) (length text))

pub printed_front : (out text : List ℕ)
    → printed (page_of out 0) text ≡ page_of (cut out text ++ drop (length (cut out text)) out) (length (cut out text))
unfolding printed
printed_front out text =
    ap (λ (n : ℕ). page_of (sets out 0 (take n text)) (0 + length (take n text))) (sub-zero (length out))
    ∙ λ i. page_of (front i) (zero-add (length (cut out text)) i)
  where
    fits : 0 + length (cut out text) ≤ length out
    fits = rw (zero-add (length (cut out text))) (cut_fits out text)

    front : sets out 0 (cut out text) ≡ cut out text ++ drop (length (cut out text)) out
    front =
        sets-eq (cut out text) out 0 fits
        ∙ ap (λ (n : ℕ). cut out text ++ drop n out) (zero-add (length (cut out text)))

-- a text that fits the slice stands whole at its front
pub printed_whole : (out text : List ℕ) → length text ≤ length out → printed (page_of out 0) text ≡ page_of (text ++ drop (length text) out) (length text)
printed_whole out text h =
    printed_front out text ∙ ap (λ (t : List ℕ). page_of (t ++ drop (length t) out) (length t)) (take_all (length out) text h)
