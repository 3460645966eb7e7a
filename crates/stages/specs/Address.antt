-- The address: "op-code bit 3 is the top bit, then one byte", or "two bytes, upper five bits ignored", or "two-byte address with
-- the upper two bits ignored". Assumes nothing.
use Rattle.std.specs.Prelude.{ℕ, ◌+◌, ◌*◌, cond, eqb, leb}
use Rattle.std.specs.Int.Bits.{bit_and}
use Rattle.parts.specs.declared.figures.Figure.{Figure}
use Rattle.stages.specs.Bits.{no_bits}
use Rattle.stages.specs.declared.stage.Stage.{Stage}
use Rattle.stages.specs.declared.stage.Stage.TheVariants.{Upper, Lower, Dummy, Ready, Writing}
use Rattle.stages.specs.declared.stage.Purpose.{Purpose}
use Rattle.stages.specs.declared.stage.Purpose.TheVariants.{ToRead, ToReadFast, ToWrite}
use Rattle.stages.specs.declared.stage.What.TheVariants.{Array}
use Rattle.stages.specs.declared.stage.Came.TheVariants.{NoByte}

-- "bit 3 being A8"
abbrev pub code_page : Figure → ℕ → ℕ
code_page f code = cond (eqb (bit_and code f.top) 0) 0 1

-- "upper five bits ignored", or two
abbrev pub upper_page : Figure → ℕ → ℕ
upper_page f byte = bit_and byte f.upper

-- the stage after the op-code of a READ or WRITE
unfoldable pub after_code : Figure → Purpose → ℕ → Stage
after_code f purpose code =
    cond (eqb f.address_bytes 2) (Upper purpose no_bits) (Lower purpose no_bits (code_page f code))

-- the stage after the whole address; "FSTRD 0Bh takes a dummy byte after the address"
unfoldable pub after_address : Figure → Purpose → ℕ → ℕ → Stage
after_address f ToRead page byte = Ready Array (page * 256 + byte)
after_address f ToReadFast page byte = cond (eqb f.dummy 1) (Dummy no_bits (page * 256 + byte)) (Ready Array (page * 256 + byte))
after_address f ToWrite page byte = Writing NoByte no_bits 0 (page * 256 + byte)

-- "then the next address, rolling from the last to 0"
unfoldable pub next_address : Figure → ℕ → ℕ
next_address f at = cond (leb f.size (at + 1)) 0 (at + 1)
