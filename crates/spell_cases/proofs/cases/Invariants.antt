-- Each turn leaves less of the input: a title has a character at least.
use Rattle.std.proofs.Common.{length}
use Rattle.spell_cases.proofs.cases.Given as goal

abbrev pub decreases-loop-rest : goal.decreases-loop-rest
decreases-loop-rest l = length l.rest
