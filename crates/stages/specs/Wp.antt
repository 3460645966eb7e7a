-- /WP and the data byte under way (document 02, Wishes 2 and 3). Assumes nothing.
use Rattle.std.specs.Prelude.{ℕ, Bool, true, false, cond, not, ◌&&◌, eqb}
use Rattle.parts.specs.declared.figures.Figure.{Figure}
use Rattle.stages.specs.Bits.{no_bits}
use Rattle.stages.specs.declared.stage.Came.{Came}
use Rattle.stages.specs.declared.stage.Came.TheVariants.{NoByte, NoByteLow, Bytes, BytesLow}
use Rattle.stages.specs.declared.stage.Line.{Line}
use Rattle.stages.specs.declared.stage.Line.TheVariants.{Down, Up}

-- a level as WRSR's stage remembers it
abbrev pub line_of : Bool → Line
line_of false = Down
line_of true = Up

abbrev pub is_up : Line → Bool
is_up Down = false
is_up Up = true

-- the level that a WRITE's stage remembers with what came
abbrev pub came_up : Came → Bool
came_up NoByte = true
came_up NoByteLow = false
came_up Bytes = true
came_up BytesLow = false

-- whether a whole byte came
abbrev pub some_came : Came → Bool
some_came NoByte = false
some_came NoByteLow = false
some_came Bytes = true
some_came BytesLow = true

-- what came, with another level
abbrev pub came_with : Came → Bool → Came
came_with NoByte wp = cond wp NoByte NoByteLow
came_with NoByteLow wp = cond wp NoByte NoByteLow
came_with Bytes wp = cond wp Bytes BytesLow
came_with BytesLow wp = cond wp Bytes BytesLow

-- "it is read at the byte's first rise and remembered for that byte, a rise of /WP in mid-byte included"
abbrev pub at_first : {A : Type 0} → ℕ → A → A → A
at_first shift reads remembers = cond (eqb shift no_bits) reads remembers

-- "its level at the fall of /S counts for the whole select", where the row says so; else the level has one form there: up
unfoldable pub fall_wp : Figure → Bool → Line
fall_wp f pin = cond (f.wp_at_fall && not pin) Down Up

-- "This holds for WRITE and WRSR on all parts."
unfoldable pub byte_wp : Figure → Line → ℕ → Bool → Line
byte_wp f wp shift pin = cond f.wp_at_fall wp (at_first shift (line_of pin) wp)

unfoldable pub byte_came : Came → ℕ → Bool → Came
byte_came came shift pin = at_first shift (came_with came pin) came
