-- A text that is too long is answered at once.
use Rattle.spelling.proofs.SpellTurns.{too_long}
use Rattle.spelling.proofs.spell.spell.Goals as goal

pub returns-then-text-gt-LONGEST : goal.returns-then-text-gt-LONGEST
returns-then-text-gt-LONGEST c = too_long c.args.text.now c.args.out.now c.if-text-gt-LONGEST.true
