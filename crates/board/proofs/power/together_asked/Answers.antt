-- The parts' lengths one by one; no piece is longer than the longest, so eight of them can be summed.
use Rattle.std.proofs.Common.{arith, rules, ◌∙◌, ◌<◌, ◌^◌}
use Rattle.std.specs.List.{sum_by}
use Rattle.std.proofs.lemmas.Iterator.{YieldsList-from_slice, YieldsList-from_map}
use Rattle.std.proofs.lemmas.Iterator.Consumers.{sum_by_from_yields_List, fits_by_from_yields_list}
use Rattle.board.specs.Chips.{piece_length}
use Rattle.board.proofs.PowerLaws.{asked_sum, asked_small}
use Rattle.board.specs.declared.power.Asked.{Asked}
use Rattle.board.proofs.power.together_asked.Goals as goal

pub sum-requires-clause-fits : goal.sum-requires-clause-fits
sum-requires-clause-fits c =
    let small : sum_by (λ (a : Asked). piece_length a.part) c.args.chips.now < 2 ^ 64 =
    omega (arith, asked_sum c.args.chips.now, asked_small c.args.chips.now, c.requires) in
    fits_by_from_yields_list (λ (a : Asked). piece_length a.part) c.args.chips.now c.map.result _
    (YieldsList-from_map _ (λ (a : Asked). piece_length a.part) (YieldsList-from_slice c.args.chips.now cc) c.map.ensures.closure
    (λ x r q k. search rules))
    small

pub returns : goal.returns
returns c =
    sum_by_from_yields_List (λ (a : Asked). piece_length a.part) c.args.chips.now c.map.result _ c.sum.ensures.ran
    (YieldsList-from_map _ (λ (a : Asked). piece_length a.part) (YieldsList-from_slice c.args.chips.now cc) c.map.ensures.closure
    (λ x r q k. search rules))
    ∙ asked_sum c.args.chips.now
