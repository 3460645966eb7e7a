-- The part of the soundness test that looks at the stage: it fails "an address not below the part's size, a partial
-- byte or bit count that no number of clocks gives". Assumes nothing.
use Rattle.std.specs.Prelude.{ℕ, ◌*◌, Bool, true, ◌&&◌, ◌||◌, eqb, leb, ltb}
use Rattle.parts.specs.Figures.{ident_bytes}
use Rattle.parts.specs.declared.figures.Figure.{Figure}
use Rattle.stages.specs.Bits.{no_bits}
use Rattle.stages.specs.Wp.{is_up, came_up, some_came}
use Rattle.stages.specs.declared.stage.Came.{Came}
use Rattle.stages.specs.declared.stage.What.{What}
use Rattle.stages.specs.declared.stage.What.TheVariants.{Array, Status, Ident, Serial}
use Rattle.stages.specs.declared.stage.Stage.{Stage}
use Rattle.stages.specs.declared.stage.Stage.TheVariants.{Closed, Asleep, Code, Upper, Lower, Dummy, Ready, ArrayOut, StatusOut, IdentOut, SerialOut, Writing, Keeping, Over}

-- under eight bits after the 1: eight would be a whole byte
abbrev pub sound_shift : ℕ → Bool
sound_shift shift = ltb 0 shift && ltb shift 256

-- a data byte's level of /WP has one form where no bit of it came: up
abbrev pub sound_wp : Bool → ℕ → Bool
sound_wp up shift = ltb no_bits shift || up

-- the level that is remembered at the fall of /CS is up where the part does not read it there
abbrev pub sound_fall : Figure → Bool → Bool
sound_fall f up = f.wp_at_fall || up

-- how many bytes there are to show
abbrev pub shown_length : Figure → What → ℕ
shown_length f Array = f.size
shown_length f Status = 1
shown_length f Ident = ident_bytes
shown_length f Serial = f.serial

-- the byte stored last has an address of the array, and one form where no byte came: none
abbrev pub sound_last : Figure → Came → ℕ → Bool
sound_last f came last = leb last f.size && (eqb last 0 || some_came came)

-- an upper address byte comes only where the part has two, a dummy byte only where it has one
unfoldable pub sound_stage : Figure → Stage → Bool
sound_stage f Closed = true
sound_stage f Asleep = true
sound_stage f (Code wp shift) = sound_shift shift && sound_fall f (is_up wp)
sound_stage f (Upper purpose shift) = eqb f.address_bytes 2 && sound_shift shift
sound_stage f (Lower purpose shift page) = ltb (page * 256) f.size && sound_shift shift
sound_stage f (Dummy shift at) = eqb f.dummy 1 && ltb at f.size && sound_shift shift
sound_stage f (Ready what at) = ltb at (shown_length f what)
sound_stage f (ArrayOut level bit at) = ltb at f.size && ltb bit 8
sound_stage f (StatusOut level bit) = ltb bit 8
sound_stage f (IdentOut level bit at) = ltb at ident_bytes && ltb bit 8
sound_stage f (SerialOut level bit at) = ltb at f.serial && ltb bit 8
sound_stage f (Writing came shift last at) = ltb at f.size && sound_shift shift && sound_wp (came_up came) shift && sound_last f came last
sound_stage f (Keeping wp shift) = sound_shift shift && (ltb no_bits shift || sound_fall f (is_up wp))
sound_stage f (Over end) = true
