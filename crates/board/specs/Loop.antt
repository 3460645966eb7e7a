-- What the loop over the chips has of SO on the way. Assumes nothing.
use Rattle.std.specs.Prelude.{List, [], ◌∷◌}
use Rattle.select.specs.declared.notes.Level.{Level}
use Rattle.select.specs.declared.notes.Level.TheVariants as level
use Rattle.pins.specs.Levels.{so_level}
use Rattle.pins.specs.declared.state.State.{State}
use Rattle.board.specs.declared.so.BoardSo.{BoardSo}
use Rattle.board.specs.declared.so.BoardSo.TheVariants.{Low, High, Released, Fight}

-- one more chip that drives the line: it fights with one that is there
abbrev pub driven_by : BoardSo → BoardSo → BoardSo
driven_by Released own = own
driven_by Low own = Fight
driven_by High own = Fight
driven_by Fight own = Fight

-- one more chip on the line
abbrev pub joined : BoardSo → Level → BoardSo
joined so level.Low = driven_by so Low
joined so level.High = driven_by so High
joined so level.Released = so

-- all of them, one after the other
unfoldable pub joined_all : BoardSo → List State → BoardSo
joined_all so [] = so
joined_all so (s ∷ ss) = joined_all (joined so (so_level s)) ss
