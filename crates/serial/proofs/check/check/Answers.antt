-- The table's way gives the check byte that the long division gives; it is held against the last byte.
use Rattle.serial.proofs.CheckLaws.{says, says_fifteen}
use Rattle.serial.proofs.check.check.Goals as goal

pub returns-then-serial-ne-SERIAL : goal.returns-then-serial-ne-SERIAL
returns-then-serial-ne-SERIAL c = says_fifteen _ c.if-serial-ne-SERIAL.true

pub returns : goal.returns
returns c = says c.args.serial.now (λ i. (c.type_inv.serial i).fits) c.crc_of.ensures c.if-serial-ne-SERIAL.false
