-- A text printed on a page that a program has. Assumes nothing.
use Rattle.std.specs.Prelude.{◌≡◌, List, ℕ}
use Rattle.report.specs.Page.{Page, page_of, printed}
use Rattle.report.specs.declared.page.Page.{Page as Lent}

-- the slice's bytes, and how many of them are put
abbrev pub page_in : Lent → Page
page_in p = page_of p.out.now p.at

-- the page after a text was printed behind what it had, cut where the slice ends; the slice is the one that was lent
pub record Prints (before : Lent) (text : List ℕ) (after : Lent) : Type 0 where
  pub same_slice : after.out.ghost_name ≡ before.out.ghost_name
  pub page : page_in after ≡ printed (page_in before) text
