-- What the word says fits, and is taken as the meaning does.
use Rattle.sayings.specs.SaysLaws.{word_fits}
use Rattle.spelling.proofs.turns.take_word.Goals as goal

pub act-requires : goal.act-requires
act-requires c = rw c.hear-said.ensures (word_fits _ _)
