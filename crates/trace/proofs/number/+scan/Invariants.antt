-- `scan` calls itself with one group fewer: the measure is the room.
use Rattle.trace.proofs.number.+scan.Given as goal

abbrev pub decreases-scan : goal.decreases-scan
decreases-scan l = l.room
