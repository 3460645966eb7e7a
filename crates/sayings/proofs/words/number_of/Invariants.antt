-- What is left of the word decides, behind the digits that say n; n is a trace number.
use Rattle.std.proofs.Common.{◌≡◌, ◌≤◌, drop}
use Rattle.trace.specs.Figures.{largest}
use Rattle.sayings.specs.Words.{digits_after}
use Rattle.sayings.proofs.words.number_of.Given as goal

abbrev pub invariant-loop-c : goal.invariant-loop-c
invariant-loop-c l = (l.n ≤ largest) × (digits_after l.n (drop l.c-index l.word) ≡ digits_after 0 l.word)
