-- The table's way is the long division: a byte's eight steps leave what stood behind it plus its own remainder. Assumes nothing.
use Rattle.std.specs.Prelude.{ℕ, zero, suc, ◌+◌, ◌*◌, ◌/◌, ◌%◌, ◌^◌, ◌<◌, ◌≡◌, refl, Bool, true, false, cond, List, [], ◌∷◌, ◌++◌, map, eqb, length, get_or}
use Rattle.std.proofs.Common.{zero-le, sym, ap, ◌∙◌, append_assoc, arith, zero-add, mod-lt, lit<}
use Rattle.std.specs.Int.Bits.{bit_xor, differ, xor_step}
use Rattle.std.proofs.lemmas.Nat.{xor_shr, xor_lt}
use Rattle.serial.specs.Division.{divisor, plus_bit, plus, remainder, bit, bits_of, all_bits, byte_of, zeros, check_byte}
use Rattle.serial.specs.Table.{table, crc_of, up_from}
use Rattle.serial.proofs.TableLaws.{equal_at, entry_at, entry_small, crc_small}

-- ---- sums

swap_bit : (a b c : Bool) → plus_bit a (plus_bit b c) ≡ plus_bit b (plus_bit a c)
swap_bit true true c = refl
swap_bit true false c = refl
swap_bit false true c = refl
swap_bit false false c = refl

plus_bit_comm : (a b : Bool) → plus_bit a b ≡ plus_bit b a
plus_bit_comm true true = refl
plus_bit_comm true false = refl
plus_bit_comm false true = refl
plus_bit_comm false false = refl

plus_none : (p : List Bool) → plus p [] ≡ p
plus_none [] = refl
plus_none (a ∷ p) = refl

plus_comm : (p q : List Bool) → plus p q ≡ plus q p
plus_comm [] q = sym (plus_none q)
plus_comm (a ∷ p) [] = refl
plus_comm (a ∷ p) (b ∷ q) = λ i. plus_bit_comm a b i ∷ plus_comm p q i

swap : (p q r : List Bool) → plus p (plus q r) ≡ plus q (plus p r)
swap [] q r = refl
swap (a ∷ p) [] r = refl
swap (a ∷ p) (b ∷ q) [] = plus_comm (a ∷ p) (b ∷ q)
swap (a ∷ p) (b ∷ q) (c ∷ r) = λ i. swap_bit a b c i ∷ swap p q r i

-- ---- steps of the division

remainder_none : (n : ℕ) → remainder n [] ≡ []
remainder_none zero = refl
remainder_none (suc n) = refl

one_more_lem : (m n : ℕ) → suc m + n ≡ suc (m + n)
one_more_lem m n = omega arith

remainder_more : (m n : ℕ) (bs : List Bool) → remainder (m + n) bs ≡ remainder n (remainder m bs)
remainder_more zero n bs = ap (λ (k : ℕ). remainder k bs) (zero-add n)
remainder_more (suc m) n [] = remainder_none (suc m + n) ∙ sym (remainder_none n)
remainder_more (suc m) n (b ∷ bs) =
    ap (λ (k : ℕ). remainder k (b ∷ bs)) (one_more_lem m n) ∙ remainder_more m n (cond b (plus divisor bs) bs)

-- so many zeros before a polynomial
abbrev pad : ℕ → List Bool → List Bool
pad zero w = w
pad (suc n) w = false ∷ pad n w

pad_done : (n : ℕ) (w : List Bool) → remainder n (pad n w) ≡ w
pad_done zero w = refl
pad_done (suc n) w = pad_done n w

-- what is added behind the powers that are done with stays added
linear : (n : ℕ) (w u : List Bool) → remainder n (plus (pad n w) u) ≡ plus w (remainder n u)
linear zero w u = refl
linear (suc n) w [] = pad_done n w ∙ sym (plus_none w)
linear (suc n) w (b ∷ u) = go b (λ v. linear n w v)
  where
    go : (t : Bool) → ((v : List Bool) → remainder n (plus (pad n w) v) ≡ plus w (remainder n v))
        → remainder n (cond t (plus divisor (plus (pad n w) u)) (plus (pad n w) u)) ≡ plus w (remainder n (cond t (plus divisor u) u))
    go true later = ap (remainder n) (swap divisor (pad n w) u) ∙ later (plus divisor u)
    go false later = later u

-- ---- a byte

plus_zero : (b : Bool) → plus_bit b false ≡ b
plus_zero true = refl
plus_zero false = refl

-- eight zeros added to at least eight coefficients
plus_zeros : (byte : ℕ) (r : List Bool) → plus (bits_of byte ++ r) zeros ≡ bits_of byte ++ r
plus_zeros byte r = λ i.
    plus_zero (bit byte 7) i ∷ plus_zero (bit byte 6) i ∷ plus_zero (bit byte 5) i ∷ plus_zero (bit byte 4) i
    ∷ plus_zero (bit byte 3) i ∷ plus_zero (bit byte 2) i ∷ plus_zero (bit byte 1) i ∷ plus_zero (bit byte 0) i ∷ plus_none r i

-- a byte's eight steps, with at least eight coefficients behind it
byte_steps : (byte next : ℕ) (r : List Bool)
    → remainder 8 (bits_of byte ++ (bits_of next ++ r)) ≡ plus (bits_of next ++ r) (remainder 8 (bits_of byte ++ zeros))
byte_steps byte next r =
    ap (λ (w : List Bool). remainder 8 (bits_of byte ++ w)) (sym (plus_zeros next r))
    ∙ linear 8 (bits_of next ++ r) (bits_of byte ++ zeros)

-- ---- the machine's `^` adds bit by bit

digit_small : (p q : ℕ) → p < 2 → q < 2 → differ p q < 2
digit_small zero q hp hq = hq
digit_small (suc zero) zero hp hq = hp
digit_small (suc zero) (suc zero) hp hq = lit< tt
digit_small (suc zero) (suc (suc q)) hp hq = absurd (omega arith)
digit_small (suc (suc p)) q hp hq = absurd (omega arith)

digit_sum : (p q : ℕ) → p < 2 → q < 2 → eqb (differ p q) 1 ≡ plus_bit (eqb p 1) (eqb q 1)
digit_sum zero q hp hq = refl
digit_sum (suc zero) zero hp hq = refl
digit_sum (suc zero) (suc zero) hp hq = refl
digit_sum (suc zero) (suc (suc q)) hp hq = absurd (omega arith)
digit_sum (suc (suc p)) q hp hq = absurd (omega arith)

odd : (x y r : ℕ) → r < 2 → x ≡ y * 2 + r → x % 2 ≡ r
odd x y r h e = omega arith

lowest : (x y : ℕ) → bit_xor x y % 2 ≡ differ (x % 2) (y % 2)
lowest x y = odd (bit_xor x y) (bit_xor (x / 2) (y / 2)) (differ (x % 2) (y % 2)) (digit_small (x % 2) (y % 2) (mod-lt x (lit< tt)) (mod-lt y (lit< tt))) (xor_step x y)

xor_bit : (a b i : ℕ) → bit (bit_xor a b) i ≡ plus_bit (bit a i) (bit b i)
xor_bit a b i =
    ap (λ (n : ℕ). eqb (n % 2) 1) (xor_shr a b i)
    ∙ ap (λ (n : ℕ). eqb n 1) (lowest (a / 2 ^ i) (b / 2 ^ i))
    ∙ digit_sum (a / 2 ^ i % 2) (b / 2 ^ i % 2) (mod-lt (a / 2 ^ i) (lit< tt)) (mod-lt (b / 2 ^ i) (lit< tt))

-- ---- a byte's bits say which byte it is

bits_said : map (λ (i : ℕ). byte_of (bits_of i)) (up_from 0 256) ≡ map (λ (i : ℕ). i) (up_from 0 256)
bits_said = refl

byte_of_bits : (i : ℕ) → i < 256 → byte_of (bits_of i) ≡ i
byte_of_bits i h = equal_at (λ (n : ℕ). byte_of (bits_of n)) (λ (n : ℕ). n) 256 0 i bits_said zero-le h

-- what eight steps leave of one byte is a byte's bits
abbrev leaves : ℕ → List Bool
leaves byte = remainder 8 (bits_of byte ++ zeros)

bits_left : map (λ (i : ℕ). bits_of (byte_of (leaves i))) (up_from 0 256) ≡ map leaves (up_from 0 256)
bits_left = refl

-- the table's rule at each entry, by bits
entry : (i : ℕ) → i < 256 → bits_of (get_or table i 0) ≡ leaves i
unfolding check_byte
entry i h = ap bits_of (entry_at i h) ∙ equal_at (λ (n : ℕ). bits_of (byte_of (leaves n))) leaves 256 0 i bits_left zero-le h

-- ---- bytes one after the other

-- what stands behind the first byte: the other bytes and the zeros, so at least eight coefficients
abbrev behind : List ℕ → List Bool
behind bytes = all_bits bytes ++ zeros

-- they begin with a byte's bits
record Begins (bytes : List ℕ) : Type 0 where
  next : ℕ
  rest : List Bool
  is : behind bytes ≡ bits_of next ++ rest

begins : (bytes : List ℕ) → Begins bytes
begins [] = record { next = 0; rest = []; is = refl }
begins (byte ∷ bytes) = record { next = byte; rest = behind bytes; is = append_assoc (bits_of byte) (all_bits bytes) zeros }

abbrev pub Bytes : List ℕ → Type 0
Bytes [] = Unit {0}
Bytes (byte ∷ bytes) = (byte < 256) × Bytes bytes

-- the byte that is done with, and all that stand behind it
fold_in : (crc byte : ℕ) (bytes : List ℕ) → plus (bits_of crc) (behind (byte ∷ bytes)) ≡ bits_of (bit_xor crc byte) ++ behind bytes
fold_in crc byte bytes = λ i.
    sym (xor_bit crc byte 7) i ∷ sym (xor_bit crc byte 6) i ∷ sym (xor_bit crc byte 5) i ∷ sym (xor_bit crc byte 4) i
    ∷ sym (xor_bit crc byte 3) i ∷ sym (xor_bit crc byte 2) i ∷ sym (xor_bit crc byte 1) i ∷ sym (xor_bit crc byte 0) i ∷ behind bytes

one_byte : (x : ℕ) (bytes : List ℕ) → x < 256 → remainder 8 (bits_of x ++ behind bytes) ≡ plus (bits_of (get_or table x 0)) (behind bytes)
one_byte x bytes h =
    let b = begins bytes in
    ap (λ (r : List Bool). remainder 8 (bits_of x ++ r)) b.is
    ∙ byte_steps x b.next b.rest
    ∙ (λ i. plus (sym b.is i) (sym (entry x h) i))
    ∙ plus_comm (behind bytes) (bits_of (get_or table x 0))

eight_more : (n : ℕ) → suc n * 8 ≡ 8 + n * 8
eight_more n = omega arith

steps_in : (bytes : List ℕ) (crc : ℕ) → crc < 256 → Bytes bytes
    → remainder (length bytes * 8) (plus (bits_of crc) (behind bytes)) ≡ bits_of (crc_of bytes crc)
steps_in [] crc h all = plus_zeros crc []
steps_in (byte ∷ bytes) crc h all =
    ap (λ (n : ℕ). remainder n (plus (bits_of crc) (behind (byte ∷ bytes)))) (eight_more (length bytes))
    ∙ remainder_more 8 (length bytes * 8) (plus (bits_of crc) (behind (byte ∷ bytes)))
    ∙ ap (λ (r : List Bool). remainder (length bytes * 8) (remainder 8 r)) (fold_in crc byte bytes)
    ∙ ap (remainder (length bytes * 8)) (one_byte (bit_xor crc byte) bytes (xor_lt 8 crc byte h all.0))
    ∙ steps_in bytes (get_or table (bit_xor crc byte) 0) (entry_small (bit_xor crc byte)) all.1

zero_plus : (bytes : List ℕ) → plus (bits_of 0) (behind bytes) ≡ behind bytes
zero_plus bytes = let b = begins bytes in ap (plus (bits_of 0)) b.is ∙ sym b.is

-- what the table gives is what the long division gives
pub by_table : (bytes : List ℕ) → Bytes bytes → check_byte bytes ≡ crc_of bytes 0
unfolding check_byte
by_table bytes all =
    ap (λ (r : List Bool). byte_of (remainder (length bytes * 8) r)) (sym (zero_plus bytes))
    ∙ ap byte_of (steps_in bytes 0 (lit< tt) all)
    ∙ byte_of_bits (crc_of bytes 0) (crc_small bytes 0 (lit< tt))
