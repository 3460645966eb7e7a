-- Wherever the loop is, the bytes that are left lead from there to where all of them lead from the start.
use Rattle.std.proofs.Common.{◌≡◌, drop}
use Rattle.report.specs.Page.{printed}
use Rattle.report.specs.Prints.{page_in}
use Rattle.words.specs.Dump.{spaced}
use Rattle.words.proofs.dump.print_spaced.Given as goal

abbrev pub invariant-loop-byte : goal.invariant-loop-byte
invariant-loop-byte l =
    (l.page.out.ghost_name ≡ l.initial.page.out.ghost_name) × (printed (page_in l.page) (spaced (drop l.byte-index l.bytes)) ≡ printed (page_in l.initial.page) (spaced l.bytes))
