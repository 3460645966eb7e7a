-- What an answer says, in the numbers of document 01. Assumes nothing.
use Rattle.std.specs.Prelude.{ℕ}
use Rattle.parts.specs.Guards.{reason_number}
use Rattle.stages.specs.Bits.{low_bit}
use Rattle.select.specs.declared.notes.Level.{Level}
use Rattle.select.specs.declared.notes.Level.TheVariants.{Low, High, Released}
use Rattle.select.specs.declared.notes.Note.{Note}
use Rattle.select.specs.declared.notes.Note.TheVariants.{Nothing, Latch, Stored, HeldBack, KeptSet, KeptHeldBack, PowerLost}

-- "the level of SO after it (0, 1 or released)", "2 for released" (document 02)
abbrev pub level_number : Level → ℕ
level_number Low = 0
level_number High = 1
level_number Released = 2

-- a note's place in the list of document 01, counted from 0, and its values in the order of their words; 0 where it
-- has none
pub record NoteNumbers : Type 0 where
  pub kind : ℕ
  pub first : ℕ
  pub second : ℕ

-- "nothing; latch, with its new value; stored, with address and byte; held back, with address and reason;
--  kept bits set, with their value; kept bits held back, with reason; power lost"
abbrev pub note_numbers : Note → NoteNumbers
note_numbers Nothing = record { kind = 0; first = 0; second = 0 }
note_numbers (Latch on) = record { kind = 1; first = low_bit on; second = 0 }
note_numbers (Stored at byte) = record { kind = 2; first = at; second = byte }
note_numbers (HeldBack at reason) = record { kind = 3; first = at; second = reason_number reason }
note_numbers (KeptSet kept) = record { kind = 4; first = kept; second = 0 }
note_numbers (KeptHeldBack reason) = record { kind = 5; first = reason_number reason; second = 0 }
note_numbers PowerLost = record { kind = 6; first = 0; second = 0 }
