-- The tests come in the order of the refusals; what is past the first has at most eight chips.
use Rattle.std.proofs.Common.{sym, ◌∙◌, ◌≡◌, true, false, ◌&&◌, eqb, leb, eq-eqb, ne_eqb, rules}
use borrow.Author.Tests.{le-leb, lt-leb}
use Rattle.std.proofs.lemmas.Iterator.{YieldsList-from_slice}
use Rattle.std.proofs.lemmas.Iterator.Search.{all_from_yields_List}
use Rattle.pins.specs.Sound.{sound}
use Rattle.board.proofs.CheckLaws.{few, sounds_all}
use Rattle.board.specs.Checks.{is_own, no_board, all_sound, checks}
use Rattle.board.specs.Chips.{fitted, together, serials_together}
use Rattle.board.proofs.checks.checks.Goals as goal

pub shared_ref_as_front-chips : goal.shared_ref_as_front-chips
shared_ref_as_front-chips c = few _ (sym c.no_board.ensures ∙ c.if-no_board.false)

pub returns-then-no_board : goal.returns-then-no_board
unfolding checks
returns-then-no_board c = rw (sym c.no_board.ensures ∙ c.if-no_board.true)

pub returns-then-is_own-count : goal.returns-then-is_own-count
unfolding checks
returns-then-is_own-count c =
    let some : no_board c.args.board.count ≡ false = sym c.no_board.ensures ∙ c.if-no_board.false in
    let gone : (is_own c.args.code && leb c.args.board.count c.args.chip) ≡ true = rw c.is_own.ensures at c.if-is_own-count.true in
    rw (some, gone)

pub returns-then-not-all : goal.returns-then-not-all
unfolding checks
returns-then-not-all c =
    let ss = fitted c.args.board in
    let some : no_board c.args.board.count ≡ false = sym c.no_board.ensures ∙ c.if-no_board.false in
    let sounds : c.all.result ≡ all_sound ss =
    all_from_yields_List sound _ _ _ c.all.ensures.ran (YieldsList-from_slice ss cc) (λ x b q k. search rules) ∙ sounds_all ss in
    let there : (is_own c.args.code && leb c.args.board.count c.args.chip) ≡ false = rw c.is_own.ensures at c.if-is_own-count.false in
    rw (some, there, sym sounds ∙ c.if-not-all.true)

pub returns-then-len-whole : goal.returns-then-len-whole
unfolding checks
returns-then-len-whole c =
    let ss = fitted c.args.board in
    let some : no_board c.args.board.count ≡ false = sym c.no_board.ensures ∙ c.if-no_board.false in
    let sounds : c.all.result ≡ all_sound ss =
    all_from_yields_List sound _ _ _ c.all.ensures.ran (YieldsList-from_slice ss cc) (λ x b q k. search rules) ∙ sounds_all ss in
    let there : (is_own c.args.code && leb c.args.board.count c.args.chip) ≡ false = rw c.is_own.ensures at c.if-is_own-count.false in
    let other : eqb c.args.len (together ss) ≡ false = ne_eqb _ _ (λ e. c.if-len-whole.true (e ∙ sym c.together-whole.ensures.array)) in
    rw (some, there, sym sounds ∙ c.if-not-all.false, other)

pub returns-then-serials-whole : goal.returns-then-serials-whole
unfolding checks
returns-then-serials-whole c =
    let ss = fitted c.args.board in
    let some : no_board c.args.board.count ≡ false = sym c.no_board.ensures ∙ c.if-no_board.false in
    let sounds : c.all.result ≡ all_sound ss =
    all_from_yields_List sound _ _ _ c.all.ensures.ran (YieldsList-from_slice ss cc) (λ x b q k. search rules) ∙ sounds_all ss in
    let there : (is_own c.args.code && leb c.args.board.count c.args.chip) ≡ false = rw c.is_own.ensures at c.if-is_own-count.false in
    let long : eqb c.args.len (together ss) ≡ true = eq-eqb _ _ (c.if-len-whole.false ∙ c.together-whole.ensures.array) in
    let other : eqb c.args.serials (serials_together ss) ≡ false = ne_eqb _ _ (λ e. c.if-serials-whole.true (e ∙ sym c.together-whole.ensures.serials)) in
    rw (some, there, sym sounds ∙ c.if-not-all.false, long, other)

pub returns-then-code-ge12 : goal.returns-then-code-ge12
unfolding checks
returns-then-code-ge12 c =
    let ss = fitted c.args.board in
    let some : no_board c.args.board.count ≡ false = sym c.no_board.ensures ∙ c.if-no_board.false in
    let sounds : c.all.result ≡ all_sound ss =
    all_from_yields_List sound _ _ _ c.all.ensures.ran (YieldsList-from_slice ss cc) (λ x b q k. search rules) ∙ sounds_all ss in
    let there : (is_own c.args.code && leb c.args.board.count c.args.chip) ≡ false = rw c.is_own.ensures at c.if-is_own-count.false in
    let long : eqb c.args.len (together ss) ≡ true = eq-eqb _ _ (c.if-len-whole.false ∙ c.together-whole.ensures.array) in
    let numbered : eqb c.args.serials (serials_together ss) ≡ true = eq-eqb _ _ (c.if-serials-whole.false ∙ c.together-whole.ensures.serials) in
    rw (some, there, sym sounds ∙ c.if-not-all.false, long, numbered, le-leb _ _ c.if-code-ge12.true)

pub returns : goal.returns
unfolding checks
returns c =
    let ss = fitted c.args.board in
    let some : no_board c.args.board.count ≡ false = sym c.no_board.ensures ∙ c.if-no_board.false in
    let sounds : c.all.result ≡ all_sound ss =
    all_from_yields_List sound _ _ _ c.all.ensures.ran (YieldsList-from_slice ss cc) (λ x b q k. search rules) ∙ sounds_all ss in
    let there : (is_own c.args.code && leb c.args.board.count c.args.chip) ≡ false = rw c.is_own.ensures at c.if-is_own-count.false in
    let long : eqb c.args.len (together ss) ≡ true = eq-eqb _ _ (c.if-len-whole.false ∙ c.together-whole.ensures.array) in
    let numbered : eqb c.args.serials (serials_together ss) ≡ true = eq-eqb _ _ (c.if-serials-whole.false ∙ c.together-whole.ensures.serials) in
    rw (some, there, sym sounds ∙ c.if-not-all.false, long, numbered, lt-leb _ _ c.if-code-ge12.false)
