-- What is left of the text, from where the reading stands, comes to what the whole text comes to.
use Rattle.std.proofs.Common.{◌≡◌, length}
use Rattle.spelling.specs.Marks.{ModeFits}
use Rattle.spelling.specs.Told.{rest, wholly}
use Rattle.spelling.proofs.TextTurns.{unread}
use Rattle.spelling.proofs.turns.pass.Given as goal

abbrev pub invariant-loop-i : goal.invariant-loop-i
invariant-loop-i l =
    ModeFits l.mode l.i × (length l.out ≡ length l.initial.out) × (rest l.text l.out l.here (unread l.text l.mode l.i) ≡ wholly l.text l.initial.out)
