-- Nothing is refused of the state and what is lent with it, so the code's test decides; a code that passes it is below 12.
use mathlib.Core.Path.{sym, ◌∙◌}
use borrow.Author.Tests.{le-leb, lt-leb}
use Rattle.chip.proofs.EventLaws.{tried_known, tried_unknown}
use Rattle.chip.proofs.run.attempt.Goals as goal

pub returns-then-code-ge12 : goal.returns-then-code-ge12
returns-then-code-ge12 c =
    let a = c.args in
    sym (tried_unknown a.f a.serial.now a.array.now a.state a.code c.requires.nothing_refused (le-leb _ _ c.if-code-ge12.true))

pub returns-else-code-ge12 : goal.returns-else-code-ge12
returns-else-code-ge12 c =
    let a = c.args in
    c.step.ensures
    ∙ sym (tried_known a.f a.serial.now a.array.now a.state a.code c.requires.nothing_refused (lt-leb _ _ c.if-code-ge12.false))
