-- The place behind the characters that are left is that behind all; line and column are at most one more than there were turns.
use Rattle.std.proofs.Common.{◌≡◌, ◌+◌, ◌≤◌, drop}
use Rattle.spelling.specs.Spelt.{place_from}
use Rattle.spelling.proofs.spell.place_behind.Given as goal

abbrev pub invariant-loop-c : goal.invariant-loop-c
invariant-loop-c l =
    ((l.place.line ≤ l.c-index + 1) × (l.place.column ≤ l.c-index + 1)) × (place_from l.place.line l.place.column (drop l.c-index l.front) ≡ place_from 1 1 l.front)
