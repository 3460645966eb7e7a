-- `put` stores the form of a number: what is stored up to a byte and the form of what is left make the form of the whole.
use Rattle.trace.specs.Form.{form}
use Rattle.trace.proofs.Storing.{Stored}
use Rattle.trace.proofs.number.put.Given as goal

abbrev pub invariant-loop-byte : goal.invariant-loop-byte
invariant-loop-byte l = Stored l.own l.byte-index l.rest (form l.value)
