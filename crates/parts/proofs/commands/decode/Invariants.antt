-- The command of the entries from here on is the command of the whole list.
use Rattle.std.proofs.Common.{◌≡◌, drop}
use Rattle.parts.specs.Commands.{command}
use Rattle.parts.proofs.commands.decode.Given as goal

abbrev pub invariant-loop-op : goal.invariant-loop-op
invariant-loop-op l = command (drop l.op-index l.op-items) l.code ≡ command l.fn.ops l.fn.code
