-- What the check call promises. Assumes nothing.
use Rattle.std.specs.Prelude.{ℕ, ◌≡◌, Bool, List, Result}
use Rattle.serial.specs.Check.{checked, check_numbers}
use Rattle.refusals.specs.declared.refusal.Refusal.{Refusal}

-- the check of a serial number: the answer a in the paper's numbers
abbrev pub CheckPromise : List ℕ → Result Bool Refusal → Type 0
CheckPromise serial a = check_numbers a ≡ check_numbers (checked serial)
