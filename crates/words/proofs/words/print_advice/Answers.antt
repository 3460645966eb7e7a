-- A sentence for each number, and none for others.
use Rattle.std.proofs.Common.{ne_eqb}
use Rattle.report.proofs.Pages.{none}
use Rattle.words.specs.Words.{advice_text}
use Rattle.words.proofs.words.print_advice.Goals as goal

pub returns-in_default : goal.returns-in_default
unfolding advice_text
returns-in_default c =
    let rest = c.in_default.in_default-own.rest in
    let third = rest.0.0.0 in
    rw (ne_eqb _ _ third.0.0.1, ne_eqb _ _ third.0.1, ne_eqb _ _ third.1, ne_eqb _ _ rest.0.0.1, ne_eqb _ _ rest.0.1, ne_eqb _ _ rest.1)
    (none _)
