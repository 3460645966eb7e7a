-- "The board's SO is released, the one driver's level, or "fight" where two or more drive, even if they agree." Assumes
-- nothing.
use Rattle.std.specs.Prelude.{ℕ, List, [], ◌∷◌}
use Rattle.select.specs.declared.notes.Level.{Level}
use Rattle.select.specs.declared.notes.Level.TheVariants as level
use Rattle.pins.specs.Levels.{so_level}
use Rattle.pins.specs.declared.state.State.{State}
use Rattle.board.specs.declared.so.BoardSo.{BoardSo}
use Rattle.board.specs.declared.so.BoardSo.TheVariants.{Low, High, Released, Fight}

-- "0, 1, or 2 for released" (Wish 1), and fight beside them
abbrev pub so_number : BoardSo → ℕ
so_number Low = 0
so_number High = 1
so_number Released = 2
so_number Fight = 3

-- the levels of those that drive
unfoldable pub driven : List Level → List Level
driven [] = []
driven (level.Low ∷ ls) = level.Low ∷ driven ls
driven (level.High ∷ ls) = level.High ∷ driven ls
driven (level.Released ∷ ls) = driven ls

abbrev pub alone : Level → BoardSo
alone level.Low = Low
alone level.High = High
alone level.Released = Released

-- "released, the one driver's level, or "fight" where two or more drive, even if they agree"
unfoldable pub line : List Level → BoardSo
line [] = Released
line (l ∷ []) = alone l
line (l ∷ m ∷ more) = Fight

unfoldable pub levels : List State → List Level
levels [] = []
levels (s ∷ ss) = so_level s ∷ levels ss

unfoldable pub board_so : List State → BoardSo
board_so ss = line (driven (levels ss))
