-- What every rule may rely on in a part's row, whichever part it is. A new row is checked here, once. Assumes nothing.
use Rattle.std.specs.Prelude.{ℕ, zero, suc, ◌+◌, ◌*◌, ◌<◌, ◌≤◌, ◌-◌, ◌^◌, ◌≡◌, refl, Bool, true, false, cond, ◌&&◌, ◌||◌, List, [], ◌∷◌, eqb, leb, ltb, get_or, length}
use Rattle.std.proofs.Common.{sym, ◌∙◌, arith, leb-true, ltb-true, lit<, lit≤}
use Rattle.std.proofs.lemmas.Bool.{eqb-false}
use Rattle.parts.specs.Commands.{command}
use Rattle.parts.specs.Figures.{none, fm25l04, fm25c160, fm25v01, fm25vn01, rows, parts, figure_of, is_part}
use Rattle.laws.specs.TestLaws.{left, right}
use Rattle.parts.specs.declared.commands.Command.{Command}
use Rattle.parts.specs.declared.commands.Command.TheVariants.{Wren, Wrdi, Rdsr, Wrsr, Read, Fstrd, Write, Rdid, Snr, Sleep, Other}
use Rattle.parts.specs.declared.commands.Op.{Op}
use Rattle.parts.specs.declared.figures.Figure.{Figure}

-- where the address stands: its top bit in the op-code and the rest in one byte, or two bytes
pub data Header (count top : ℕ) : Type 0 where
  one : (k : ℕ) → count ≡ 1 → top ≡ 2 ^ k → Header count top
  two : count ≡ 2 → top ≡ 0 → Header count top

-- whether one of these op-codes is SNR
abbrev is_snr : Command → Bool
is_snr Wren = false
is_snr Wrdi = false
is_snr Rdsr = false
is_snr Wrsr = false
is_snr Read = false
is_snr Fstrd = false
is_snr Write = false
is_snr Rdid = false
is_snr Snr = true
is_snr Sleep = false
is_snr Other = false

abbrev has_snr : List Op → Bool
has_snr [] = false
has_snr (op ∷ ops) = is_snr op.command || has_snr ops

-- how the array lies in rows: they are not counted, or so many of them, at least two, fill it
pub data Rowed (size row : ℕ) : Type 0 where
  unrowed : row ≡ 0 → Rowed size row
  rowed : (count : ℕ) → 2 ≤ count → 0 < row → size ≡ count * row → Rowed size row

clash : false ≡ true → ◌≡◌ {A = ℕ} 0 1
clash h = cc

pub record Fair (f : Figure) : Type 0 where
  -- the kept bits are bits of a byte
  pub mask : f.kept < 256
  -- the upper address bits and one byte address the whole array and no more
  pub pages : f.size ≡ (f.upper + 1) * 256
  -- the op-code's address bit is one of the upper address bits
  pub top : 1 ≤ f.upper
  -- the upper address bits are the lowest so many of their byte
  pub bits : ℕ
  pub low : f.upper ≡ 2 ^ bits - 1
  pub header : Header f.address_bytes f.top
  -- a part has a serial number exactly if it knows SNR
  pub numbered : has_snr f.ops ≡ ltb 0 f.serial
  pub rows : Rowed f.size f.row
  -- an address and one fit four bytes
  pub short : f.size ≤ 0xFFFFFFFF
  -- one dummy byte, or none
  pub waits : f.dummy ≤ 1

pub data AllFair : List Figure → Type 0 where
  done : AllFair []
  also : {f : Figure} {fs : List Figure} → Fair f → AllFair fs → AllFair (f ∷ fs)

-- each row; a new one has its line here
like_part_1 : Fair fm25l04
like_part_1 =
    record { mask = lit< tt; pages = refl; top = lit≤ tt; bits = 1; low = refl; header = one 3 refl refl; numbered = refl; rows = unrowed refl; short = lit≤ tt; waits = lit≤ tt }

like_part_3 : Fair fm25c160
like_part_3 =
    record { mask = lit< tt; pages = refl; top = lit≤ tt; bits = 3; low = refl; header = two refl refl; numbered = refl; rows = rowed 512 (lit≤ tt) (lit< tt) refl; short = lit≤ tt; waits = lit≤ tt }

like_part_4 : Fair fm25v01
like_part_4 =
    record { mask = lit< tt; pages = refl; top = lit≤ tt; bits = 6; low = refl; header = two refl refl; numbered = refl; rows = rowed 2048 (lit≤ tt) (lit< tt) refl; short = lit≤ tt; waits = lit≤ tt }

like_part_5 : Fair fm25vn01
like_part_5 =
    record { mask = lit< tt; pages = refl; top = lit≤ tt; bits = 6; low = refl; header = two refl refl; numbered = refl; rows = rowed 2048 (lit≤ tt) (lit< tt) refl; short = lit≤ tt; waits = lit≤ tt }

all_fair : AllFair rows
all_fair = also like_part_1 (also like_part_1 (also like_part_3 (also like_part_4 (also like_part_5 done))))

-- a row that is there
fair_at : (fs : List Figure) → AllFair fs → (k : ℕ) → k < length fs → Fair (get_or fs k none)
fair_at (f ∷ fs) (also here more) zero h = here
fair_at (f ∷ fs) (also here more) (suc k) h = fair_at fs more k (omega arith)
fair_at [] done k h = absurd (eqb-false 0 1 refl (omega arith))

pub below_count : (part : ℕ) → is_part part ≡ true → part < length parts
below_count part h = ltb-true part (length parts) (right (ltb 0 part) (ltb part (length parts)) h)

pub fair : (part : ℕ) → is_part part ≡ true → Fair (figure_of part)
unfolding figure_of
fair zero h = absurd (eqb-false 0 1 refl (clash h))
fair (suc k) h = fair_at rows all_fair k (omega (arith, below_count (suc k) h))

every : (Figure → Bool) → List Figure → Bool
every test [] = true
every test (f ∷ fs) = test f && every test fs

row : (test : Figure → Bool) (fs : List Figure) → every test fs ≡ true → test none ≡ true → (k : ℕ) → test (get_or fs k none) ≡ true
unfolding every
row test [] h n k = n
row test (f ∷ fs) h n zero = left (test f) (every test fs) h
row test (f ∷ fs) h n (suc k) = row test fs (right (test f) (every test fs) h) n k

-- LARGEST (src/figures.rt). No part's array is larger; a number that is no part's has none.
abbrev pub most : ℕ
most = 16384

pub largest : (part : ℕ) → (figure_of part).size ≤ most
unfolding figure_of every
largest part = leb-true (figure_of part).size most (row (λ f. leb f.size most) parts refl refl part)

-- no serial number is longer than the largest array, so that those of a board can be counted
pub serial_short : (part : ℕ) → (figure_of part).serial ≤ most
unfolding figure_of every
serial_short part = leb-true (figure_of part).serial most (row (λ f. leb f.serial most) parts refl refl part)

-- "Parts 1 and 2 behave alike.": every rule reads a part's row, and theirs is one
pub parts_alike : figure_of 1 ≡ figure_of 2
unfolding figure_of
parts_alike = refl

-- where an op-code is SNR, the part has a serial number
either : (t : Bool) → (t || true) ≡ true
either true = refl
either false = refl

snr_told : (ops : List Op) (code : ℕ) → command ops code ≡ Snr → has_snr ops ≡ true
unfolding command
snr_told [] code h = cc
snr_told (op ∷ ops) code h = go (eqb code op.code) (snr_told ops code) h
  where
    go :
        (t : Bool) → (command ops code ≡ Snr → has_snr ops ≡ true) → cond t op.command (command ops code) ≡ Snr
        → (is_snr op.command || has_snr ops) ≡ true
    go true later e = rw e
    go false later e = rw (later e) (either (is_snr op.command))

pub snr_numbered : (f : Figure) → Fair f → (code : ℕ) → command f.ops code ≡ Snr → ltb 0 f.serial ≡ true
snr_numbered f fair code h = sym fair.numbered ∙ snr_told f.ops code h
