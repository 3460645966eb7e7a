-- The fold over the chips is SO of all.
use Rattle.std.proofs.Common.{◌∙◌, rules}
use Rattle.std.proofs.lemmas.Iterator.{YieldsList-from_slice}
use Rattle.std.proofs.lemmas.Iterator.Consumers.{fold_from_yields_List}
use Rattle.pins.specs.Levels.{so_level}
use Rattle.board.specs.Loop.{joined}
use Rattle.board.specs.declared.so.BoardSo.TheVariants.{Released}
use Rattle.board.proofs.SoLaws.{joined_line, joined_fold}
use Rattle.board.proofs.so.board_so.Goals as goal

pub returns : goal.returns
returns c =
    fold_from_yields_List _ (λ so s. joined so (so_level s)) Released _ c.fold.ensures.ran (YieldsList-from_slice c.args.chips.now cc)
    (λ a x b q k. search rules)
    ∙ joined_fold _ _
    ∙ joined_line _
