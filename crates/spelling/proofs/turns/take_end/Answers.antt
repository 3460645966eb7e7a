-- What the line's end says fits, and is taken as the meaning does.
use Rattle.sayings.specs.SaysLaws.{end_fits}
use Rattle.spelling.proofs.turns.take_end.Goals as goal

pub act-requires : goal.act-requires
act-requires c = rw c.hear_end-said.ensures (end_fits _ _)
