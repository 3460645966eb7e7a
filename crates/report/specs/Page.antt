-- Text put into a lent slice, as far as the slice has room. Assumes nothing.
use Rattle.std.specs.Prelude.{ℕ, ◌+◌, ◌-◌, List, length, take}
use Rattle.std.proofs.lemmas.List.Edits.{sets}

-- a slice's bytes, and how many of them are put
pub record Page : Type 0 where
  pub bytes : List ℕ
  pub at : ℕ

abbrev pub page_of : List ℕ → ℕ → Page
page_of bytes at = record { bytes = bytes; at = at }

-- what there is room for
abbrev pub fits : Page → List ℕ → List ℕ
fits p text = take (length p.bytes - p.at) text

-- a text behind what is put, cut where the slice ends; the rest of the slice stays
unfoldable pub printed : Page → List ℕ → Page
printed p text = page_of (sets p.bytes p.at (fits p text)) (p.at + length (fits p text))
