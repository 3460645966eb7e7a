-- The upper byte, then the lower one.
use Rattle.std.proofs.Common.{◌/◌}
use Rattle.std.proofs.lemmas.Nat.{and_mask}
use Rattle.words.specs.Words.{address}
use Rattle.report.proofs.Pages.{same, ◌then◌}
use Rattle.words.proofs.page.print_address.Goals as goal

pub returns : goal.returns
unfolding address
returns c =
    let place = c.args.place in
    same (simp (and_mask (place / 256) 8, and_mask place 8)) (c.print_hex.ensures then c.print_hex-2.ensures)
