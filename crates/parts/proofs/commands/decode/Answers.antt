-- An entry with the op-code has the command that is looked up; any other is passed, and past the last there is none.
use Rattle.std.proofs.Common.{ℕ, ◌+◌, ◌<◌, ◌≡◌, List, length, drop, get_or, arith, sym, ◌∙◌}
use Rattle.std.proofs.lemmas.Bool.{ne_eqb}
use Rattle.std.proofs.lemmas.List.{at_drop_more, at_drop_all}
use Rattle.parts.specs.Commands.{command}
use Rattle.parts.specs.declared.commands.Op.{Op}
use Rattle.parts.proofs.commands.decode.Goals as goal

pub returns-then-code-op : goal.returns-then-code-op
unfolding command
returns-then-code-op c =
    grind (arith, c.loop-op.invariant, at_drop_more (λ ops. command ops c.args.code) c.args.ops c.loop-op.op-index)

passed :
    (ops : List Op) (code i : ℕ) (op : Op) → i < length ops → (code ≡ (get_or ops i op).code → ⊥)
    → command (drop (i + 1) ops) code ≡ command (drop i ops) code
unfolding command
passed ops code i op h e = sym (rw (ne_eqb _ _ e) at (at_drop_more (λ ops. command ops code) ops i op h))

pub loop-op-preserved : goal.loop-op-preserved
loop-op-preserved c =
    passed c.args.ops c.args.code c.loop-op.op-index _ (rw c.well_formed.0.1.0.1 c.loop-op-test.true) c.if-code-op.false
    ∙ c.loop-op.invariant

pub returns : goal.returns
unfolding command
returns c = grind (arith, c.loop-op.invariant, at_drop_all (λ ops. command ops c.args.code) c.args.ops c.loop-op.op-index)
