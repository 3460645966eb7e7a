-- A full slice takes nothing; else as much of the text as has room is written over the part that is as long.
use Rattle.std.proofs.Common.{◌≤◌, length, refl, sym, arith}
use Rattle.report.specs.PrintLaws.{print_full, print_part}
use Rattle.report.proofs.page.Page.print.Goals as goal

pub returns-then-room-at : goal.returns-then-room-at
returns-then-room-at c = record { same_slice = refl; page = sym (print_full _ _ _ c.if-room-at.true) }

pub returns : goal.returns
returns c =
    let inside : c.args.self.now.at ≤ length c.args.self.now.out.now = omega arith in
    record {
      same_slice = refl;
      page = print_part _ _ _ _ _ _ inside c.min-n.ensures (omega arith) c.copy_from_slice.ensures.after;
    }
