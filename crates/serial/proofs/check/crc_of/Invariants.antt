-- Wherever the loop is, the bytes that are left lead from the check byte so far to that of all of them.
use Rattle.std.proofs.Common.{◌≡◌, drop}
use Rattle.serial.specs.Table.{crc_of}
use Rattle.serial.proofs.check.crc_of.Given as goal

abbrev pub invariant-loop-byte : goal.invariant-loop-byte
invariant-loop-byte l = crc_of (drop l.byte-index l.bytes) l.crc ≡ crc_of l.bytes 0
