-- What the check call finds by the table is what the long division says. Assumes nothing.
use Rattle.std.specs.Prelude.{ℕ, zero, suc, ◌-◌, ◌<◌, ◌≡◌, List, [], ◌∷◌, length, take, get_or, eqb, Ok, Err}
use Rattle.std.proofs.Common.{sym, ◌∙◌}
use borrow.Author.Tests.{eq-eqb, ne_eqb}
use Rattle.parts.specs.Figures.{serial_bytes}
use Rattle.serial.specs.Check.{divided, last_byte, checked}
use Rattle.serial.specs.Division.{check_byte}
use Rattle.serial.proofs.DivisionLaws.{Bytes, by_table}
use Rattle.serial.specs.Promises.{CheckPromise}
use Rattle.serial.specs.Table.{crc_of}
use Rattle.refusals.specs.declared.refusal.Refusal.TheVariants.{SerialLength}

-- the first bytes of a slice are bytes
bytes_of : (s : List ℕ) (n : ℕ) → ((i : ℕ) → get_or s i 0 < 256) → Bytes (take n s)
bytes_of s zero small = tt
bytes_of [] (suc n) small = tt
bytes_of (x ∷ s) (suc n) small = (small 0, bytes_of s n (λ i. small (suc i)))

-- the call, by its tests
module _ (s : List ℕ) (small : (i : ℕ) → get_or s i 0 < 256) {crc : ℕ} (told : crc ≡ crc_of (divided s) 0) where
  by_division : check_byte (divided s) ≡ crc
  by_division = by_table (divided s) (bytes_of s (serial_bytes - 1) small) ∙ sym told

  pub says : length s ≡ serial_bytes → CheckPromise s (Ok (eqb crc (last_byte s)))
  unfolding checked
  says long = rw (eq-eqb _ _ long, by_division)

pub says_fifteen : (s : List ℕ) → (length s ≡ serial_bytes → ⊥) → CheckPromise s (Err SerialLength)
unfolding checked
says_fifteen s e = rw (ne_eqb _ _ e)
