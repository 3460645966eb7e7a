-- Wherever the loop is, the bytes that are left lead from there to where all of them lead from the start.
use Rattle.std.proofs.Common.{◌≡◌, drop}
use Rattle.report.specs.Page.{printed}
use Rattle.report.specs.Prints.{page_in}
use Rattle.report.specs.Text.{hexes}
use Rattle.report.proofs.page.Page.print_hexes.Given as goal

abbrev pub invariant-loop-byte : goal.invariant-loop-byte
invariant-loop-byte l =
    (l.self.out.ghost_name ≡ l.initial.self.out.ghost_name) × (printed (page_in l.self) (hexes (drop l.byte-index l.bytes)) ≡ printed (page_in l.initial.self) (hexes l.bytes))
