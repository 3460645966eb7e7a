-- The sums so far and the pieces that are left are all pieces together; no piece is longer than the longest, so the sums fit.
use Rattle.std.proofs.Common.{◌≡◌, ◌+◌, ◌*◌, ◌≤◌, drop}
use Rattle.parts.specs.FigureLaws.{most}
use Rattle.board.specs.Chips.{together, serials_together}
use Rattle.board.proofs.chips.together.Given as goal

abbrev pub invariant-loop-chip : goal.invariant-loop-chip
invariant-loop-chip l =
    record {
      array : l.array + together (drop l.chip-index l.chips) ≡ together l.chips;
      serials : l.serials + serials_together (drop l.chip-index l.chips) ≡ serials_together l.chips;
      array_small : l.array ≤ most * l.chip-index;
      serials_small : l.serials ≤ most * l.chip-index;
    }
