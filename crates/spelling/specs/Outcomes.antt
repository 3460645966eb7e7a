-- What the call promises fixes its outcome: two outcomes of one text and one slice are the same. Assumes nothing.
use Rattle.std.specs.Prelude.{◌≡◌, List, Result, ℕ}
use Rattle.laws.specs.TestLaws.{sole}
use Rattle.spelling.specs.Spelt.{Spells}
use Rattle.spelling.specs.declared.spell.Fault.{Fault}

pub one_outcome : (text before x y : List ℕ) (r s : Result ℕ Fault) → Spells text before x r → Spells text before y s → (r ≡ s) × (x ≡ y)
one_outcome text before x y r s p q = (sole p.answer q.answer, sole p.slice q.slice)
