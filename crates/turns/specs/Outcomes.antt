-- "Two outcomes that both satisfy it are proved the same": what is promised of a desk fixes the answer and every lent byte.
-- Assumes nothing.
use Rattle.std.specs.Prelude.{◌≡◌}
use Rattle.std.proofs.Common.{sym, ◌∙◌}
use Rattle.turns.specs.Bench.{Desk, desk_of}
use Rattle.turns.specs.declared.turn.Bench.{Bench as Lent}

pub desk_one : (desk : Desk) (x y : Lent) → desk_of x ≡ desk → desk_of y ≡ desk
    → (x.refusal ≡ y.refusal)
    × ((x.stand ≡ y.stand)
    × ((x.page.now.at ≡ y.page.now.at) × ((x.array.now ≡ y.array.now) × ((x.shown ≡ y.shown) × (x.page.now.out.now ≡ y.page.now.out.now)))))
desk_one desk x y p q =
    let e : desk_of x ≡ desk_of y = p ∙ sym q in (
      (λ i. (e i).refusal),
      ((λ i. (e i).stand), ((λ i. (e i).page.at), ((λ i. (e i).array), ((λ i. (e i).shown), (λ i. (e i).page.bytes))))),
    )
