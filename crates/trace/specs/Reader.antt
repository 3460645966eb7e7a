-- The reader: "A reader that holds the trace slice and its place". Assumes nothing.
use Rattle.std.specs.Prelude.{ℕ, List}
use Rattle.std.specs.Borrow.{Bor}
use Rattle.trace.specs.declared.reader.Reader.{Reader}
use Rattle.trace.specs.Number.{reading}

-- a reader of the slice s at a place
abbrev pub reader_at : Bor (List ℕ) → ℕ → Reader
reader_at s place = record { src = s; at = place }

-- The reader after a read: at the place that the answer gives. That is the place after the number where the read is accepted, and where it stood at a refusal and at the end.
abbrev pub moved_on : Reader → Reader
moved_on r = reader_at r.src (reading r.src.now r.at).place
