-- The table keeps the rule behind it; and the check byte by the table, byte by byte. Assumes nothing.
use Rattle.std.specs.Prelude.{ℕ, zero, suc, ◌+◌, ◌≤◌, ◌<◌, ◌≡◌, refl, Bool, true, false, ◌&&◌, List, [], ◌∷◌, map, eqb, ltb, length, drop, get_or}
use Rattle.std.proofs.Common.{zero-le, sym, ap, ◌∙◌, add-one, arith, eqb-true, ltb-true, lit<, drop-cons}
use Rattle.std.proofs.lemmas.Bool.{eqb-false}
use Rattle.std.specs.Int.Bits.{bit_xor}
use Rattle.std.proofs.Math.Seq.{drop-length}
use Rattle.laws.specs.TestLaws.{left, right}
use Rattle.serial.specs.Division.{check_byte}
use Rattle.serial.specs.Table.{table, crc_of, up_from, ruled}

-- "shown once for the whole table"
pub table_ruled : table ≡ ruled
unfolding table check_byte
table_ruled = refl

-- ---- one entry

-- two lists that were computed over the same numbers and are equal say the same of each
pub equal_at : {A : Type 0} (f g : ℕ → A) (n i k : ℕ) → map f (up_from i n) ≡ map g (up_from i n) → i ≤ k → k < i + n → f k ≡ g k
equal_at f g zero i k e low high = absurd (omega (arith, low, high))
equal_at {A} f g (suc n) i k e low high = go (eqb k i) refl (λ above. equal_at f g n (suc i) k (ap (drop 1) e) above (omega (arith, high)))
  where
    go : (t : Bool) → eqb k i ≡ t → (suc i ≤ k → f k ≡ g k) → f k ≡ g k
    go true is later = let here = eqb-true k i is in ap f here ∙ ap (λ (xs : List A). get_or xs 0 (f i)) e ∙ sym (ap g here)
    go false is later = let differs = eqb-false k i is in later (omega (arith, low, differs))

each_entry : map (λ (i : ℕ). get_or table i 0) (up_from 0 256) ≡ table
unfolding table
each_entry = refl

pub entry_at : (i : ℕ) → i < 256 → get_or table i 0 ≡ check_byte (i ∷ [])
entry_at i h = equal_at (λ (n : ℕ). get_or table n 0) (λ (n : ℕ). check_byte (n ∷ [])) 256 0 i (each_entry ∙ table_ruled) zero-le h

-- the entries are bytes
abbrev all_small : List ℕ → Bool
all_small [] = true
all_small (n ∷ ns) = ltb n 256 && all_small ns

table_small : all_small table ≡ true
unfolding table
table_small = refl

small_in : (ns : List ℕ) (i : ℕ) → all_small ns ≡ true → get_or ns i 0 < 256
small_in [] i h = lit< tt
small_in (n ∷ ns) zero h = ltb-true n 256 (left (ltb n 256) (all_small ns) h)
small_in (n ∷ ns) (suc i) h = small_in ns i (right (ltb n 256) (all_small ns) h)

pub entry_small : (i : ℕ) → get_or table i 0 < 256
entry_small i = small_in table i table_small

-- ---- byte by byte

-- one more byte
pub crc_goes : (crcs bytes : List ℕ) (crc i at next : ℕ)
    → i < length bytes
    → crcs ≡ table
    → at ≡ bit_xor crc (get_or bytes i 0)
    → next ≡ get_or crcs at 0
    → crc_of (drop (i + 1) bytes) next ≡ crc_of (drop i bytes) crc
crc_goes crcs bytes crc i at next more row place read =
    ap (crc_of (drop (i + 1) bytes)) (read ∙ (λ k. get_or (row k) (place k) 0))
    ∙ sym (ap (λ (bs : List ℕ). crc_of bs crc) (drop-cons bytes i 0 more ∙ ap (λ (n : ℕ). get_or bytes i 0 ∷ drop n bytes) (sym (add-one i))))

-- none is left
pub crc_ends : (bytes : List ℕ) (crc i : ℕ) → i ≡ length bytes → crc_of (drop i bytes) crc ≡ crc
crc_ends bytes crc i e = ap (λ (n : ℕ). crc_of (drop n bytes) crc) e ∙ ap (λ (bs : List ℕ). crc_of bs crc) (drop-length bytes)

pub crc_small : (bytes : List ℕ) (crc : ℕ) → crc < 256 → crc_of bytes crc < 256
crc_small [] crc h = h
crc_small (byte ∷ bytes) crc h = crc_small bytes (get_or table (bit_xor crc byte) 0) (entry_small (bit_xor crc byte))
