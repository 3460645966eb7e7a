-- What of a chip the history speaks of. Assumes nothing.
use Rattle.chip.specs.Run.{Chip}
use Rattle.history.specs.History.{World}

abbrev pub world_of : Chip → World
world_of c = record { latch = c.state.latch; kept = c.state.kept; array = c.array }
