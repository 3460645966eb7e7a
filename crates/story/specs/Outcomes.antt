-- Two outcomes of `story` that both satisfy its promise are the same: the answer, and every byte of the lent slice. Assumes
-- nothing.
use Rattle.std.specs.Prelude.{ℕ, ◌≡◌, List}
use Rattle.std.proofs.Common.{ap}
use Rattle.laws.specs.TestLaws.{sole}
use Rattle.report.specs.Page.{Page, page_of, printed}
use Rattle.story.specs.Story.{story}

pub story_one : (s out : List ℕ) (a b : ℕ) (xs ys : List ℕ)
    → page_of xs a ≡ printed (page_of out 0) (story s) → page_of ys b ≡ printed (page_of out 0) (story s) → (a ≡ b) × (xs ≡ ys)
story_one s out a b xs ys p q =
    let same : page_of xs a ≡ page_of ys b = sole p q in
    (ap (λ (x : Page). x.at) same, ap (λ (x : Page). x.bytes) same)
