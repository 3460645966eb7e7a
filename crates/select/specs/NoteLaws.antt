-- The numbers say all: a level and a note are found again from their numbers, so two that have the same numbers are the
-- same. Assumes nothing.
use Rattle.std.specs.Prelude.{ℕ, ◌≡◌, refl, true, false, cond, eqb}
use Rattle.std.proofs.Common.{sym, ap, ◌∙◌}
use Rattle.parts.specs.Guards.{reason_number}
use Rattle.parts.specs.declared.guards.Reason.{Reason}
use Rattle.parts.specs.declared.guards.Reason.TheVariants.{LatchOff, Protect, Block}
use Rattle.select.specs.Notes.{level_number, NoteNumbers, note_numbers}
use Rattle.select.specs.declared.notes.Level.{Level}
use Rattle.select.specs.declared.notes.Level.TheVariants.{Low, High, Released}
use Rattle.select.specs.declared.notes.Note.{Note}
use Rattle.select.specs.declared.notes.Note.TheVariants.{Nothing, Latch, Stored, HeldBack, KeptSet, KeptHeldBack, PowerLost}

level_of : ℕ → Level
level_of n = cond (eqb n 0) Low (cond (eqb n 1) High Released)

level_back : (l : Level) → level_of (level_number l) ≡ l
unfolding level_of
level_back Low = refl
level_back High = refl
level_back Released = refl

pub level_sole : (a b : Level) → level_number a ≡ level_number b → a ≡ b
level_sole a b e = sym (level_back a) ∙ ap level_of e ∙ level_back b

reason_of : ℕ → Reason
reason_of n = cond (eqb n 1) LatchOff (cond (eqb n 2) Protect Block)

note_of : NoteNumbers → Note
note_of n =
    cond (eqb n.kind 0) Nothing
    (cond (eqb n.kind 1) (Latch (eqb n.first 1))
    (cond (eqb n.kind 2) (Stored n.first n.second)
    (cond (eqb n.kind 3) (HeldBack n.first (reason_of n.second))
    (cond (eqb n.kind 4) (KeptSet n.first)
    (cond (eqb n.kind 5) (KeptHeldBack (reason_of n.first))
    PowerLost)))))

reason_back : (r : Reason) → reason_of (reason_number r) ≡ r
unfolding reason_of
reason_back LatchOff = refl
reason_back Protect = refl
reason_back Block = refl

note_back : (n : Note) → note_of (note_numbers n) ≡ n
unfolding note_of
note_back Nothing = refl
note_back (Latch true) = refl
note_back (Latch false) = refl
note_back (Stored at byte) = refl
note_back (HeldBack at reason) = ap (HeldBack at) (reason_back reason)
note_back (KeptSet kept) = refl
note_back (KeptHeldBack reason) = ap KeptHeldBack (reason_back reason)
note_back PowerLost = refl

pub note_sole : (a b : Note) → note_numbers a ≡ note_numbers b → a ≡ b
note_sole a b e = sym (note_back a) ∙ ap note_of e ∙ note_back b
