-- Words of the story: addresses, reasons, commands by name, and what to do about a refusal. Assumes nothing.
use Rattle.std.specs.Prelude.{ℕ, ◌/◌, ◌%◌, cond, eqb, List, [], ◌++◌}
use Rattle.parts.specs.declared.commands.Command.{Command}
use Rattle.parts.specs.declared.commands.Command.TheVariants.{Wren, Wrdi, Rdsr, Wrsr, Read, Fstrd, Write, Rdid, Snr, Sleep, Other}
use Rattle.parts.specs.declared.guards.Reason.{Reason}
use Rattle.parts.specs.declared.guards.Reason.TheVariants.{LatchOff, Protect, Block}
use Rattle.report.specs.Text.{ascii, hex}

-- an address: two bytes in hex
unfoldable pub address : ℕ → List ℕ
address place = hex (place / 256 % 256) ++ hex (place % 256)

-- "Reasons: 1 latch off, 2 /WP, 3 block"
unfoldable pub reason_text : Reason → List ℕ
reason_text LatchOff = ascii "latch off"
reason_text Protect = ascii "/WP low"
reason_text Block = ascii "block protected"

-- the commands' names in the data sheets
unfoldable pub command_text : Command → List ℕ
command_text Wren = ascii "WREN"
command_text Wrdi = ascii "WRDI"
command_text Rdsr = ascii "RDSR"
command_text Wrsr = ascii "WRSR"
command_text Read = ascii "READ"
command_text Fstrd = ascii "FSTRD"
command_text Write = ascii "WRITE"
command_text Rdid = ascii "RDID"
command_text Snr = ascii "SNR"
command_text Sleep = ascii "SLEEP"
command_text Other = ascii "names no command"

-- what a refusal that a trace can get means, and what to do about it; no trace gets another
unfoldable pub advice_text : ℕ → List ℕ
advice_text row =
    cond (eqb row 1) (ascii ": no such part; begin with the part, 1 to 5")
    (cond (eqb row 3) (ascii ": bits that the part does not keep; take bits of 0C on parts 1 and 2, of 8C on parts 3 to 5")
    (cond (eqb row 6) (ascii ": /HOLD would move with SCK high; lower SCK first")
    (cond (eqb row 7) (ascii ": /HOLD would rise with /CS moved; put /CS back first")
    (cond (eqb row 8) (ascii ": number missing, cut off, over four bytes or not shortest; write it whole, in its shortest form")
    (cond (eqb row 9) (ascii ": leading number over 267; begin with the part and the kept bits")
    [])))))
