-- The edges of /CS that a select sees, and sleep. Assumes nothing.
use Rattle.std.specs.Prelude.{Bool, true, false, cond}
use Rattle.parts.specs.declared.figures.Figure.{Figure}
use Rattle.stages.specs.Bits.{no_bits}
use Rattle.stages.specs.Wp.{fall_wp}
use Rattle.stages.specs.declared.stage.Came.TheVariants.{NoByte, NoByteLow, Bytes, BytesLow}
use Rattle.stages.specs.declared.stage.End.{End}
use Rattle.stages.specs.declared.stage.End.TheVariants.{Quiet, Drops, Sleeps}
use Rattle.stages.specs.declared.stage.Stage.{Stage}
use Rattle.stages.specs.declared.stage.Stage.TheVariants.{Closed, Asleep, Code, Upper, Lower, Dummy, Ready, ArrayOut, StatusOut, IdentOut, SerialOut, Writing, Keeping, Over}

-- no select is open
abbrev pub is_closed : Stage → Bool
is_closed Closed = true
is_closed Asleep = true
is_closed (Code wp shift) = false
is_closed (Upper purpose shift) = false
is_closed (Lower purpose shift page) = false
is_closed (Dummy shift at) = false
is_closed (Ready what at) = false
is_closed (ArrayOut level bit at) = false
is_closed (StatusOut level bit) = false
is_closed (IdentOut level bit at) = false
is_closed (SerialOut level bit at) = false
is_closed (Writing came shift last at) = false
is_closed (Keeping wp shift) = false
is_closed (Over end) = false

-- the chip sleeps
abbrev pub is_asleep : Stage → Bool
is_asleep Closed = false
is_asleep Asleep = true
is_asleep (Code wp shift) = false
is_asleep (Upper purpose shift) = false
is_asleep (Lower purpose shift page) = false
is_asleep (Dummy shift at) = false
is_asleep (Ready what at) = false
is_asleep (ArrayOut level bit at) = false
is_asleep (StatusOut level bit) = false
is_asleep (IdentOut level bit at) = false
is_asleep (SerialOut level bit at) = false
is_asleep (Writing came shift last at) = false
is_asleep (Keeping wp shift) = false
is_asleep (Over end) = false

-- what the close does besides
abbrev pub end_of : Stage → End
end_of Closed = Quiet
end_of Asleep = Quiet
end_of (Code wp shift) = Quiet
end_of (Upper purpose shift) = Quiet
end_of (Lower purpose shift page) = Quiet
end_of (Dummy shift at) = Quiet
end_of (Ready what at) = Quiet
end_of (ArrayOut level bit at) = Quiet
end_of (StatusOut level bit) = Quiet
end_of (IdentOut level bit at) = Quiet
end_of (SerialOut level bit at) = Quiet
end_of (Writing NoByte shift last at) = Quiet
end_of (Writing NoByteLow shift last at) = Quiet
end_of (Writing Bytes shift last at) = Drops
end_of (Writing BytesLow shift last at) = Drops
end_of (Keeping wp shift) = Quiet
end_of (Over end) = end

-- "The latch drops at the rise of /CS that ends a WRITE or WRSR with at least one whole data byte, held back or
--  not (H)."
abbrev pub drops_at : End → Bool
drops_at Quiet = false
drops_at Drops = true
drops_at Sleeps = false

abbrev pub drops : Stage → Bool
drops stage = drops_at (end_of stage)

-- "SLEEP B9h takes effect at the rise of /S"
abbrev pub closed_by : End → Stage
closed_by Quiet = Closed
closed_by Drops = Closed
closed_by Sleeps = Asleep

abbrev pub after_close : Stage → Stage
after_close stage = closed_by (end_of stage)

-- "A seen fall of /CS opens a select". "the next fall of /S wakes the chip and the rest of that select is ignored"
unfoldable pub after_fall : Figure → Bool → Stage → Stage
after_fall f wp stage = cond (is_asleep stage) (Over Quiet) (Code (fall_wp f wp) no_bits)
