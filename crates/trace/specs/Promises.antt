-- What the calls on trace numbers promise: the answer in document 01's terms, and what is left of what was lent.
-- Assumes nothing.
use Rattle.std.specs.Prelude.{ℕ, ◌≡◌, List, Result}
use Rattle.trace.specs.Answers.{read_told, written_told}
use Rattle.trace.specs.Number.{reading, writing, slice_written}
use Rattle.trace.specs.Reader.{moved_on}
use Rattle.trace.specs.declared.answer.Read.{Read}
use Rattle.trace.specs.declared.answer.Refused.{Refused}
use Rattle.trace.specs.declared.reader.Reader.{Reader}

-- a read of the slice s at a place: the answer a
abbrev pub ReadPromise : List ℕ → ℕ → Result Read Refused → Type 0
ReadPromise s at a = read_told a ≡ reading s at

-- a write of n: the answer a, and the slice x at exit
abbrev pub WritePromise : List ℕ → ℕ → ℕ → Result ℕ Refused → List ℕ → Type 0
WritePromise s at n a x = (written_told a ≡ writing s at n) × (x ≡ slice_written s at n)

-- a read by the reader r: the answer a, and the reader x at exit
abbrev pub NextPromise : Reader → Result Read Refused → Reader → Type 0
NextPromise r a x = ReadPromise r.src.now r.at a × (x ≡ moved_on r)
