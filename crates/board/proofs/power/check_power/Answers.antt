-- The tests come in the order of the refusals; what is past the first has at most eight chips.
use Rattle.std.proofs.Common.{sym, ◌∙◌, ◌≡◌, true, false, eqb, eq-eqb, ne_eqb, rules}
use Rattle.std.proofs.lemmas.Iterator.{YieldsList-from_slice}
use Rattle.std.proofs.lemmas.Iterator.Search.{all_from_yields_List}
use Rattle.parts.specs.Figures.{is_part, in_mask}
use Rattle.board.proofs.CheckLaws.{few}
use Rattle.board.proofs.PowerLaws.{parts_all, masked_all}
use Rattle.board.specs.Checks.{no_board}
use Rattle.board.specs.Power.{asked, all_parts, together_asked, all_masked, power_refusal}
use Rattle.board.specs.declared.power.Asked.{Asked}
use Rattle.board.proofs.power.check_power.Goals as goal

pub shared_ref_as_front-chips : goal.shared_ref_as_front-chips
shared_ref_as_front-chips c = few _ (sym c.no_board.ensures ∙ c.if-no_board.false)

pub returns-then-no_board : goal.returns-then-no_board
unfolding power_refusal
returns-then-no_board c = rw (sym c.no_board.ensures ∙ c.if-no_board.true)

pub returns-then-not-all : goal.returns-then-not-all
unfolding power_refusal
returns-then-not-all c =
    let qs = asked c.args.plan in
    let some : no_board c.args.plan.count ≡ false = sym c.no_board.ensures ∙ c.if-no_board.false in
    let parts : c.all.result ≡ all_parts qs =
    all_from_yields_List (λ (a : Asked). is_part a.part) _ _ _ c.all.ensures.ran (YieldsList-from_slice qs cc) (λ x b q k. search rules)
    ∙ parts_all qs in
    rw (some, sym parts ∙ c.if-not-all.true)

pub returns-then-len-together_asked : goal.returns-then-len-together_asked
unfolding power_refusal
returns-then-len-together_asked c =
    let qs = asked c.args.plan in
    let some : no_board c.args.plan.count ≡ false = sym c.no_board.ensures ∙ c.if-no_board.false in
    let parts : c.all.result ≡ all_parts qs =
    all_from_yields_List (λ (a : Asked). is_part a.part) _ _ _ c.all.ensures.ran (YieldsList-from_slice qs cc) (λ x b q k. search rules)
    ∙ parts_all qs in
    let other : eqb c.args.len (together_asked qs) ≡ false =
    ne_eqb _ _ (λ e. c.if-len-together_asked.true (e ∙ sym c.together_asked.ensures)) in
    rw (some, sym parts ∙ c.if-not-all.false, other)

pub returns-then-not-all-2 : goal.returns-then-not-all-2
unfolding power_refusal
returns-then-not-all-2 c =
    let qs = asked c.args.plan in
    let some : no_board c.args.plan.count ≡ false = sym c.no_board.ensures ∙ c.if-no_board.false in
    let parts : c.all.result ≡ all_parts qs =
    all_from_yields_List (λ (a : Asked). is_part a.part) _ _ _ c.all.ensures.ran (YieldsList-from_slice qs cc) (λ x b q k. search rules)
    ∙ parts_all qs in
    let masked : c.all-2.result ≡ all_masked qs =
    all_from_yields_List (λ (a : Asked). in_mask a.part a.kept) _ _ _ c.all-2.ensures.ran (YieldsList-from_slice qs cc) (λ x b q k. search rules)
    ∙ masked_all qs in
    let long : eqb c.args.len (together_asked qs) ≡ true = eq-eqb _ _ (c.if-len-together_asked.false ∙ c.together_asked.ensures) in
    rw (some, sym parts ∙ c.if-not-all.false, long, sym masked ∙ c.if-not-all-2.true)

pub returns : goal.returns
unfolding power_refusal
returns c =
    let qs = asked c.args.plan in
    let some : no_board c.args.plan.count ≡ false = sym c.no_board.ensures ∙ c.if-no_board.false in
    let parts : c.all.result ≡ all_parts qs =
    all_from_yields_List (λ (a : Asked). is_part a.part) _ _ _ c.all.ensures.ran (YieldsList-from_slice qs cc) (λ x b q k. search rules)
    ∙ parts_all qs in
    let masked : c.all-2.result ≡ all_masked qs =
    all_from_yields_List (λ (a : Asked). in_mask a.part a.kept) _ _ _ c.all-2.ensures.ran (YieldsList-from_slice qs cc) (λ x b q k. search rules)
    ∙ masked_all qs in
    let long : eqb c.args.len (together_asked qs) ≡ true = eq-eqb _ _ (c.if-len-together_asked.false ∙ c.together_asked.ensures) in
    rw (some, sym parts ∙ c.if-not-all.false, long, sym masked ∙ c.if-not-all-2.false)
