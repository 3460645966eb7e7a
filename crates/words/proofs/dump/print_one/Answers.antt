-- Each piece is printed behind the one before.
use Rattle.words.specs.Dump.{spaced_byte}
use Rattle.report.proofs.Pages.{◌then◌}
use Rattle.words.proofs.dump.print_one.Goals as goal

pub returns : goal.returns
unfolding spaced_byte
returns c =
    c.print.ensures
    then c.print_hex.ensures
