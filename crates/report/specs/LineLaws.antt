-- Every line of the report fits a buffer of `line_room` bytes. Assumes nothing.
use Rattle.std.specs.Prelude.{◌≡◌, Bool, true, false, cond, ◌||◌, List, [], ◌∷◌, ◌++◌, ℕ, zero, suc, ◌+◌, ◌*◌, ◌/◌, ◌%◌, ◌≤◌, length, take, eqb, leb, ltb}
use Rattle.std.proofs.Common.{refl, arith, length-append, length-take-le, leb-true}
use Rattle.report.specs.Text.{ascii, hex, hexes, decimal_in, decimal, most_digits, line_room}
use Rattle.report.specs.Record.{code_clocks, most_shown}
use Rattle.report.specs.Lines.{code_text, shown_text, numbered, part_line, counts_text, select_line, end_line}
use Rattle.report.specs.declared.record.Record.{Record}

-- texts of so many bytes at most, one behind the other
pub joined : (a b : List ℕ) (m n : ℕ) → length a ≤ m → length b ≤ n → length (a ++ b) ≤ m + n
joined a b m n p q = omega (arith, length-append a b)

pub four : (a b c d : List ℕ) (k l m n : ℕ) → length a ≤ k → length b ≤ l → length c ≤ m → length d ≤ n → length (a ++ b ++ c ++ d) ≤ k + l + m + n
four a b c d k l m n p q r s = joined (a ++ b ++ c) d (k + l + m) n (joined (a ++ b) c (k + l) m (joined a b k l p q) r) s

five : (a b c d e : List ℕ) (j k l m n : ℕ) → length a ≤ j → length b ≤ k → length c ≤ l → length d ≤ m → length e ≤ n
    → length (a ++ b ++ c ++ d ++ e) ≤ j + k + l + m + n
five a b c d e j k l m n o p q r s = joined (a ++ b ++ c ++ d) e (j + k + l + m) n (four a b c d j k l m o p q r) s

pub digits_fit : (most n : ℕ) → length (decimal_in most n) ≤ most
digits_fit zero n = omega arith
digits_fit (suc most) n = go (ltb n 10) (digits_fit most (n / 10))
  where
    go : (t : Bool) → length (decimal_in most (n / 10)) ≤ most
        → length (cond t ((48 + n) ∷ []) (decimal_in most (n / 10) ++ ((48 + n % 10) ∷ []))) ≤ suc most
    go true h = omega arith
    go false h = omega (arith, length-append (decimal_in most (n / 10)) ((48 + n % 10) ∷ []))

-- a word of k bytes, and a number
pub numbered_fits : (word : List ℕ) (n k : ℕ) → length word ≡ k → length (numbered word n) ≤ k + most_digits
unfolding decimal
numbered_fits word n k size = joined word (decimal n) k most_digits (omega (arith, size)) (digits_fit most_digits n)

pub hex_fits : (byte : ℕ) → length (hex byte) ≡ 2
unfolding hex
hex_fits byte = refl

hexes_fit : (bytes : List ℕ) → length (hexes bytes) ≡ 2 * length bytes
hexes_fit [] = refl
hexes_fit (b ∷ bs) = omega (arith, length-append (hex b) (hexes bs), hex_fits b, hexes_fit bs)

shown_fits : (firsts : List ℕ) (whole : ℕ) → length firsts ≡ most_shown → length (shown_text firsts whole) ≤ 2 * most_shown + 1
unfolding shown_text
shown_fits firsts whole size = go (eqb whole 0) (leb whole most_shown) refl
  where
    go : (none few : Bool) → leb whole most_shown ≡ few
        → length (cond none (ascii "-") (cond few (hexes (take whole firsts)) (hexes firsts ++ ascii "+"))) ≤ 2 * most_shown + 1
    go true few e = omega arith
    go false true e =
        omega (arith, hexes_fit (take whole firsts), length-take-le whole firsts (omega (arith, leb-true whole most_shown e, size)), leb-true whole most_shown e)
    go false false e = omega (arith, length-append (hexes firsts) (ascii "+"), hexes_fit firsts, size)

code_fits : (ignored : Bool) (clocks code : ℕ) → length (code_text ignored clocks code) ≡ 2
unfolding code_text
code_fits ignored clocks code = go (ignored || ltb clocks code_clocks)
  where
    go : (t : Bool) → length (cond t (ascii "--") (hex code)) ≡ 2
    go true = refl
    go false = hex_fits code

counts_fit : (told : Record) → length (counts_text told) ≤ 62
unfolding counts_text
counts_fit told =
    let most = four (ascii " op ") (code_text told.ignored told.clocks told.code) (numbered (ascii " clocks ") told.clocks) (numbered (ascii " stored ") told.stored) 4 2 28 28
    (omega arith) (omega (arith, code_fits told.ignored told.clocks told.code))
    (numbered_fits (ascii " clocks ") told.clocks 8 refl) (numbered_fits (ascii " stored ") told.stored 8 refl) in
    omega (arith, most)

pub part_fits : (part size kept : ℕ) → length (part_line part size kept) ≤ line_room
unfolding part_line
part_fits part size kept =
    let most = five (numbered (ascii "part ") part) (numbered (ascii " bytes ") size) (ascii " kept ") (hex kept) (ascii "\n") 25 27 6 2 1
    (numbered_fits (ascii "part ") part 5 refl) (numbered_fits (ascii " bytes ") size 7 refl) (omega arith) (omega (arith, hex_fits kept)) (omega arith) in
    omega (arith, most)

pub select_fits : (number : ℕ) (told : Record) (firsts : List ℕ) → length firsts ≡ most_shown → length (select_line number told firsts) ≤ line_room
unfolding select_line
select_fits number told firsts size =
    let most = five (numbered (ascii "sel ") number) (ascii " so ") (shown_text firsts told.shown) (counts_text told) (ascii "\n") 24 4 129 62 1
    (numbered_fits (ascii "sel ") number 4 refl) (omega arith) (shown_fits firsts told.shown size) (counts_fit told) (omega arith) in
    omega (arith, most)

pub end_fits : (kept refusal : ℕ) (latch : Bool) → length (end_line kept latch refusal) ≤ line_room
unfolding end_line
end_fits kept refusal latch =
    let most = five (ascii "end kept ") (hex kept) (numbered (ascii " latch ") (cond latch 1 0)) (numbered (ascii " refused ") refusal) (ascii "\n") 9 2 27 29 1
    (omega arith) (omega (arith, hex_fits kept)) (numbered_fits (ascii " latch ") (cond latch 1 0) 7 refl) (numbered_fits (ascii " refused ") refusal 9 refl) (omega arith) in
    omega (arith, most)
