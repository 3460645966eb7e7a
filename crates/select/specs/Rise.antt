-- A seen rise of SCK in a select (document 01, "A select, clock by clock"). Assumes nothing.
use Rattle.std.specs.Prelude.{ℕ, Bool, true, false, Result, Ok, Err}
use Rattle.std.specs.Int.Bits.{bit_and}
use Rattle.parts.specs.Commands.{command}
use Rattle.parts.specs.Guards.{may_store, may_keep}
use Rattle.parts.specs.declared.figures.Figure.{Figure}
use Rattle.parts.specs.declared.commands.Command.{Command}
use Rattle.parts.specs.declared.commands.Command.TheVariants.{Wren, Wrdi, Rdsr, Wrsr, Read, Fstrd, Write, Rdid, Snr, Sleep, Other}
use Rattle.parts.specs.declared.guards.Reason.{Reason}
use Rattle.stages.specs.Bits.{no_bits, take_bit}
use Rattle.stages.specs.Wp.{is_up, came_up, byte_wp, byte_came}
use Rattle.stages.specs.Last.{last_by}
use Rattle.stages.specs.Address.{after_code, upper_page, after_address, next_address}
use Rattle.select.specs.declared.notes.Note.{Note}
use Rattle.select.specs.declared.notes.Note.TheVariants.{Nothing, Latch, Stored, HeldBack, KeptSet, KeptHeldBack}
use Rattle.stages.specs.declared.bits.Taken.{Taken}
use Rattle.stages.specs.declared.bits.Taken.TheVariants.{Part, Whole}
use Rattle.stages.specs.declared.stage.Came.{Came}
use Rattle.stages.specs.declared.stage.Came.TheVariants.{Bytes}
use Rattle.stages.specs.declared.stage.End.TheVariants.{Quiet, Drops, Sleeps}
use Rattle.stages.specs.declared.stage.Line.{Line}
use Rattle.stages.specs.declared.stage.Purpose.{Purpose}
use Rattle.stages.specs.declared.stage.Purpose.TheVariants.{ToRead, ToReadFast, ToWrite}
use Rattle.stages.specs.declared.stage.What.TheVariants.{Array, Status, Ident, Serial}
use Rattle.stages.specs.declared.stage.Stage.{Stage}
use Rattle.stages.specs.declared.stage.Stage.TheVariants.{Closed, Code, Upper, Lower, Ready, ArrayOut, StatusOut, Writing, Keeping, Over, Dummy, IdentOut, SerialOut, Asleep}
use Rattle.select.specs.declared.rise.Seen.{Seen}
use Rattle.select.specs.declared.rise.Risen.{Risen}

-- to this stage, and nothing else happens
abbrev pub quiet : Seen → Stage → Risen
quiet seen stage = record { stage = stage; latch = seen.latch; kept = seen.kept; note = Nothing }

-- "WREN sets the latch at its eighth rise, WRDI clears it there. Each gives the latch note, changed or not."
abbrev pub latched : Seen → Bool → Risen
latched seen on = record { stage = Over Quiet; latch = on; kept = seen.kept; note = Latch on }

-- "Other op-codes .. do nothing (one op-code per select)."
-- `wp` is the level that was remembered at the fall of /CS.
abbrev pub by_command : Figure → Seen → Line → ℕ → Command → Risen
by_command f seen wp code Wren = latched seen true
by_command f seen wp code Wrdi = latched seen false
by_command f seen wp code Rdsr = quiet seen (Ready Status 0)
by_command f seen wp code Wrsr = quiet seen (Keeping wp no_bits)
by_command f seen wp code Read = quiet seen (after_code f ToRead code)
by_command f seen wp code Fstrd = quiet seen (after_code f ToReadFast code)
by_command f seen wp code Write = quiet seen (after_code f ToWrite code)
by_command f seen wp code Rdid = quiet seen (Ready Ident 0)
by_command f seen wp code Snr = quiet seen (Ready Serial 0)
by_command f seen wp code Sleep = quiet seen (Over Sleeps)
by_command f seen wp code Other = quiet seen (Over Quiet)

-- "The first eight bits are the op-code"
unfoldable pub opened : Figure → Seen → Line → ℕ → Risen
opened f seen wp code = by_command f seen wp code (command f.ops code)

abbrev pub code_taken : Figure → Seen → Line → Taken → Risen
code_taken f seen wp (Part more) = quiet seen (Code wp more)
code_taken f seen wp (Whole code) = opened f seen wp code

unfoldable pub code_rise : Figure → Seen → Line → ℕ → Risen
code_rise f seen wp shift = code_taken f seen wp (take_bit shift seen.si)

-- the upper address byte
abbrev pub upper_taken : Figure → Seen → Purpose → Taken → Risen
upper_taken f seen purpose (Part more) = quiet seen (Upper purpose more)
upper_taken f seen purpose (Whole byte) = quiet seen (Lower purpose no_bits (upper_page f byte))

unfoldable pub upper_rise : Figure → Seen → Purpose → ℕ → Risen
upper_rise f seen purpose shift = upper_taken f seen purpose (take_bit shift seen.si)

-- the last address byte
abbrev pub lower_taken : Figure → Seen → Purpose → ℕ → Taken → Risen
lower_taken f seen purpose page (Part more) = quiet seen (Lower purpose more page)
lower_taken f seen purpose page (Whole byte) = quiet seen (after_address f purpose page byte)

unfoldable pub lower_rise : Figure → Seen → Purpose → ℕ → ℕ → Risen
lower_rise f seen purpose shift page = lower_taken f seen purpose page (take_bit shift seen.si)

-- "FSTRD 0Bh takes a dummy byte after the address": whatever its bits are
abbrev pub dummy_taken : Seen → ℕ → Taken → Risen
dummy_taken seen at (Part more) = quiet seen (Dummy more at)
dummy_taken seen at (Whole byte) = quiet seen (Ready Array at)

unfoldable pub dummy_rise : Seen → ℕ → ℕ → Risen
dummy_rise seen shift at = dummy_taken seen at (take_bit shift seen.si)

-- stored, or "held back, with address and reason"
abbrev pub store_note : ℕ → ℕ → Result (Unit {0}) Reason → Note
store_note at byte (Ok done) = Stored at byte
store_note at byte (Err reason) = HeldBack at reason

-- "WRITE stores each data byte at the eighth rise of that byte, then steps the address, rolling over.
--  A byte held back steps the address too (H)." /WP is the byte's own: `byte_came`.
abbrev pub wrote_by : Figure → Seen → ℕ → ℕ → ℕ → Result (Unit {0}) Reason → Risen
wrote_by f seen last at byte verdict =
    record {
      stage = Writing Bytes no_bits (last_by last at verdict) (next_address f at);
      latch = seen.latch;
      kept = seen.kept;
      note = store_note at byte verdict;
    }

abbrev pub write_taken : Figure → Seen → Came → ℕ → ℕ → Taken → Risen
write_taken f seen came last at (Part more) = quiet seen (Writing came more last at)
write_taken f seen came last at (Whole byte) = wrote_by f seen last at byte (may_store f seen.latch seen.kept (came_up came) at)

unfoldable pub write_rise : Figure → Seen → Came → ℕ → ℕ → ℕ → Risen
write_rise f seen came shift last at = write_taken f seen (byte_came came shift seen.wp) last at (take_bit shift seen.si)

-- "keeps the byte under the part's mask. Further bytes do nothing (H)."
abbrev pub kept_by : Figure → Seen → ℕ → Result (Unit {0}) Reason → Risen
kept_by f seen byte (Ok done) =
    record { stage = Over Drops; latch = seen.latch; kept = bit_and byte f.kept; note = KeptSet (bit_and byte f.kept) }
kept_by f seen byte (Err reason) =
    record { stage = Over Drops; latch = seen.latch; kept = seen.kept; note = KeptHeldBack reason }

-- "WRSR takes the first data byte at its eighth rise". /WP is the byte's own: `byte_wp`.
abbrev pub keep_taken : Figure → Seen → Line → Taken → Risen
keep_taken f seen wp (Part more) = quiet seen (Keeping wp more)
keep_taken f seen wp (Whole byte) = kept_by f seen byte (may_keep f seen.latch seen.kept (is_up wp))

unfoldable pub keep_rise : Figure → Seen → Line → ℕ → Risen
keep_rise f seen wp shift = keep_taken f seen (byte_wp f wp shift seen.wp) (take_bit shift seen.si)

-- a seen rise of SCK, by what stands; "later bits that no rule names do nothing"
unfoldable pub rise : Figure → Seen → Stage → Risen
rise f seen Closed = quiet seen Closed
rise f seen (Code wp shift) = code_rise f seen wp shift
rise f seen (Upper purpose shift) = upper_rise f seen purpose shift
rise f seen (Lower purpose shift page) = lower_rise f seen purpose shift page
rise f seen (Ready what at) = quiet seen (Ready what at)
rise f seen (ArrayOut level bit at) = quiet seen (ArrayOut level bit at)
rise f seen (StatusOut level bit) = quiet seen (StatusOut level bit)
rise f seen (Writing came shift last at) = write_rise f seen came shift last at
rise f seen (Keeping wp shift) = keep_rise f seen wp shift
rise f seen (Over end) = quiet seen (Over end)
rise f seen (Dummy shift at) = dummy_rise seen shift at
rise f seen (IdentOut level bit at) = quiet seen (IdentOut level bit at)
rise f seen (SerialOut level bit at) = quiet seen (SerialOut level bit at)
rise f seen Asleep = quiet seen Asleep
