-- The pairs of letters are all alike exactly where the words are, their lengths being the same.
use Rattle.std.proofs.Common.{ℕ, ◌∙◌, rules, tests, nat_eq}
use Rattle.std.proofs.lemmas.Iterator.{YieldsList-from_slice, YieldsList-from_zip}
use Rattle.std.proofs.lemmas.Iterator.Search.{all_from_yields_List}
use Rattle.std.specs.Char.{to_ascii_lowercase}
use Rattle.sayings.specs.Words.{named}
use Rattle.sayings.proofs.words.same.Goals as goal

pub returns-then-word-name : goal.returns-then-word-name
unfolding named
returns-then-word-name c =
    all_from_yields_List {s = c.zip.result} (λ (p : ℕ × ℕ). nat_eq (to_ascii_lowercase p.0) p.1) c.all.new.self _ _ c.all.ensures.ran
    (YieldsList-from_zip (YieldsList-from_slice c.args.word.now (cc)) (YieldsList-from_slice c.args.name.now (cc)))
    (λ x b q k. search (rules, tests))
    ∙ search rules
