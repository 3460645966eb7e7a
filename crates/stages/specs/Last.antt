-- The byte of the array that a select touched last (document 02, Wish 9): "a READ or FSTRD byte whose first bit was driven, or a
-- stored byte". Assumes nothing.
use Rattle.std.specs.Prelude.{ℕ, ◌+◌, cond, ltb, Result, Ok, Err}
use Rattle.parts.specs.declared.guards.Reason.{Reason}
use Rattle.stages.specs.declared.stage.Stage.{Stage}
use Rattle.stages.specs.declared.stage.Stage.TheVariants.{Closed, Asleep, Code, Upper, Lower, Dummy, Ready, ArrayOut, StatusOut, IdentOut, SerialOut, Writing, Keeping, Over}

-- it has one form, in four bytes: 0 for none, else the address and one. No part has an address that does not fit.
abbrev pub mark : ℕ → ℕ
mark at = cond (ltb at 0xFFFFFFFF) (at + 1) 0

-- after a data byte of a WRITE: "a stored byte", and none that is held back
abbrev pub last_by : ℕ → ℕ → Result (Unit {0}) Reason → ℕ
last_by last at (Ok done) = mark at
last_by last at (Err reason) = last

-- of a READ or FSTRD it is the byte that is shown: its first bit was driven. A WRITE keeps it.
abbrev pub last_of : Stage → ℕ
last_of Closed = 0
last_of Asleep = 0
last_of (Code wp shift) = 0
last_of (Upper purpose shift) = 0
last_of (Lower purpose shift page) = 0
last_of (Dummy shift at) = 0
last_of (Ready what at) = 0
last_of (ArrayOut level bit at) = mark at
last_of (StatusOut level bit) = 0
last_of (IdentOut level bit at) = 0
last_of (SerialOut level bit at) = 0
last_of (Writing came shift last at) = last
last_of (Keeping wp shift) = 0
last_of (Over end) = 0
