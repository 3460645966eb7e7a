-- "Add a call that says yes exactly when the long division gives a serial number's check byte." (document 02, Wish 8). The bytes are
-- "in the same order as they are read from the part - i.e. byte7, byte6, byte5, byte4, byte3, byte2, byte1" and then byte0, the check byte
-- (source document 004): the customer's two come first and are divided too. Assumes nothing.
use Rattle.std.specs.Prelude.{ℕ, ◌-◌, Bool, true, false, cond, List, [], ◌∷◌, eqb, length, take, get_or, Result, Ok, Err}
use Rattle.parts.specs.Figures.{serial_bytes}
use Rattle.serial.specs.Division.{check_byte}
use Rattle.refusals.specs.Refusals.{number_of}
use Rattle.refusals.specs.declared.refusal.Refusal.{Refusal}
use Rattle.refusals.specs.declared.refusal.Refusal.TheVariants.{SerialLength}

-- "The calculation is performed on the 7 bytes"
abbrev pub divided : List ℕ → List ℕ
divided serial = take (serial_bytes - 1) serial

-- "the final byte out from the part which is byte0, the 8-bit CRC value"
abbrev pub last_byte : List ℕ → ℕ
last_byte serial = get_or serial (serial_bytes - 1) 0

-- "serial not eight bytes long"; "says yes exactly when the long division gives a serial number's check byte"
unfoldable pub checked : List ℕ → Result Bool Refusal
checked serial = cond (eqb (length serial) serial_bytes) (Ok (eqb (check_byte (divided serial)) (last_byte serial))) (Err SerialLength)

-- what each answer is in the paper's numbers: the refusal, or 0; and 1 for yes
abbrev pub check_numbers : Result Bool Refusal → List ℕ
check_numbers (Ok true) = 0 ∷ 1 ∷ []
check_numbers (Ok false) = 0 ∷ 0 ∷ []
check_numbers (Err refusal) = number_of refusal ∷ 0 ∷ []
