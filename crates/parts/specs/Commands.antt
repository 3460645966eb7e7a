-- Op-codes. Assumes nothing.
use Rattle.std.specs.Prelude.{ℕ, eqb, cond, List, [], ◌∷◌}
use Rattle.parts.specs.declared.commands.Op.{Op}
use Rattle.parts.specs.declared.commands.Command.{Command}
use Rattle.parts.specs.declared.commands.Command.TheVariants.{Other}

-- "The first eight bits are the op-code": the command beside it in the part's list. "Other op-codes .. do nothing".
unfoldable pub command : List Op → ℕ → Command
command [] code = Other
command (op ∷ ops) code = cond (eqb code op.code) op.command (command ops code)
