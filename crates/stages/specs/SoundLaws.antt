-- A bit taken and an address made leave a sound stage, over any part's figures. Assumes nothing.
use Rattle.std.specs.Prelude.{ℕ, ◌+◌, ◌*◌, ◌%◌, ◌^◌, ◌<◌, ◌≤◌, ◌≡◌, Bool, ltb}
use Rattle.std.proofs.Common.{zero-le, mod-eq_of_lt, mod-lt, arith, lit<}
use Rattle.std.proofs.Math.Path.{refl}
use Rattle.std.proofs.Math.Bool.{true, false, cond}
use borrow.Author.Tests.{lt-ltb, le-leb, ltb-true, leb-false}
use Rattle.std.specs.Int.Bits.{bit_and}
use Rattle.std.proofs.lemmas.Nat.{or_shifted}
use Rattle.std.proofs.Math.Dec.{eqb, leb}
use Rattle.parts.specs.FigureLaws.{Fair}
use Rattle.laws.specs.TestLaws.{both, left, right}
use Rattle.parts.specs.declared.figures.Figure.{Figure}
use Rattle.stages.specs.Address.{code_page, after_code, after_address, next_address}
use Rattle.stages.specs.Bits.{no_bits, low_bit, shifted, take_bit}
use Rattle.stages.specs.Sound.{sound_shift, sound_stage}
use Rattle.stages.specs.declared.stage.Purpose.{Purpose}
use Rattle.stages.specs.declared.stage.Purpose.TheVariants.{ToRead, ToReadFast, ToWrite}
use Rattle.stages.specs.declared.stage.Stage.TheVariants.{Upper, Lower, Dummy, Ready}
use Rattle.stages.specs.declared.stage.What.TheVariants.{Array}
use Rattle.stages.specs.declared.bits.Taken.{Taken}
use Rattle.stages.specs.declared.bits.Taken.TheVariants.{Part, Whole}

-- a byte's bits that came so far are sound, and a whole byte is a byte
abbrev pub SoundTaken : Taken → Type 0
SoundTaken (Part more) = sound_shift more ≡ true
SoundTaken (Whole byte) = byte < 2 ^ 8

low_bit_lem : (si : Bool) → low_bit si < 2
low_bit_lem false = lit< tt
low_bit_lem true = lit< tt

double : (shift : ℕ) → shift < 256 → shift * 2 < 65536
double shift h = omega arith

-- below 256 a shift loses nothing
pub shifted_is : (shift : ℕ) (si : Bool) → shift < 256 → shifted shift si ≡ shift * 2 + low_bit si
shifted_is shift si h = rw (mod-eq_of_lt (double shift h)) (or_shifted shift 1 (low_bit si) (low_bit_lem si))

grown : (shift low : ℕ) → 0 < shift → 0 < shift * 2 + low
grown shift low h = omega arith

pub take_sound : (shift : ℕ) (si : Bool) → sound_shift shift ≡ true → SoundTaken (take_bit shift si)
unfolding take_bit
take_sound shift si h = go (ltb (shifted shift si) 256) refl
  where
    some : 0 < shifted shift si
    some =
        rw (shifted_is shift si (ltb-true shift 256 (right (ltb 0 shift) (ltb shift 256) h)))
        (grown shift (low_bit si) (ltb-true 0 shift (left (ltb 0 shift) (ltb shift 256) h)))

    go : (t : Bool) → ltb (shifted shift si) 256 ≡ t → SoundTaken (cond t (Part (shifted shift si)) (Whole (shifted shift si % 256)))
    go true e = both (lt-ltb 0 (shifted shift si) some) e
    go false e = mod-lt (shifted shift si) (lit< tt)

-- of a data byte: a bit of it came, so that its level of /WP is free
abbrev pub DataTaken : Taken → Type 0
DataTaken (Part more) = (sound_shift more ≡ true) × (ltb no_bits more ≡ true)
DataTaken (Whole byte) = byte < 2 ^ 8

doubled : (shift low : ℕ) → 0 < shift → 1 < shift * 2 + low
doubled shift low h = omega arith

pub data_sound : (shift : ℕ) (si : Bool) → sound_shift shift ≡ true → DataTaken (take_bit shift si)
unfolding take_bit
data_sound shift si h = go (ltb (shifted shift si) 256) refl
  where
    begun : 1 < shifted shift si
    begun =
        rw (shifted_is shift si (ltb-true shift 256 (right (ltb 0 shift) (ltb shift 256) h)))
        (doubled shift (low_bit si) (ltb-true 0 shift (left (ltb 0 shift) (ltb shift 256) h)))

    go : (t : Bool) → ltb (shifted shift si) 256 ≡ t → DataTaken (cond t (Part (shifted shift si)) (Whole (shifted shift si % 256)))
    go true e = (both (lt-ltb 0 (shifted shift si) (omega (arith, begun))) e, lt-ltb 1 (shifted shift si) begun)
    go false e = mod-lt (shifted shift si) (lit< tt)

module _ (f : Figure) (fair : Fair f) where
  -- a page that begins in the array lies in it
  paged : (page : ℕ) {byte : ℕ} → page * 256 < f.size → byte < 2 ^ 8 → page * 256 + byte < f.size
  paged page p h = rw fair.pages (omega (arith, rw fair.pages at p))

  pub next_sound : (at : ℕ) → next_address f at < f.size
  unfolding next_address
  next_sound at = go (leb f.size (at + 1)) refl
    where
      go : (t : Bool) → leb f.size (at + 1) ≡ t → cond t 0 (at + 1) < f.size
      go true e = rw fair.pages (omega arith)
      go false e = leb-false f.size (at + 1) e

  -- a page under the upper address bits begins in the array
  pub within : {page : ℕ} → page ≤ f.upper → page * 256 < f.size
  within p = rw fair.pages (omega (arith, p))

  code_page_lem : (code : ℕ) → code_page f code ≤ f.upper
  code_page_lem code = go (eqb (bit_and code f.top) 0)
    where
      go : (t : Bool) → cond t 0 1 ≤ f.upper
      go true = zero-le
      go false = fair.top

  pub after_code_lem : (purpose : Purpose) (code : ℕ) → sound_stage f (after_code f purpose code) ≡ true
  unfolding after_code sound_stage
  after_code_lem purpose code = go (eqb f.address_bytes 2) refl
    where
      go : (t : Bool) → eqb f.address_bytes 2 ≡ t
          → sound_stage f (cond t (Upper purpose no_bits) (Lower purpose no_bits (code_page f code))) ≡ true
      go true e = rw e
      go false e = rw (lt-ltb (code_page f code * 256) f.size (within (code_page_lem code)))

  pub after_address_lem : (purpose : Purpose) (page : ℕ) {byte : ℕ} → page * 256 < f.size → byte < 2 ^ 8 → sound_stage f (after_address f purpose page byte) ≡ true
  unfolding after_address sound_stage
  after_address_lem ToRead page p h = lt-ltb _ _ (paged page p h)
  after_address_lem ToReadFast page {byte} p h = go (eqb f.dummy 1) refl
    where
      go : (t : Bool) → eqb f.dummy 1 ≡ t → sound_stage f (cond t (Dummy no_bits (page * 256 + byte)) (Ready Array (page * 256 + byte))) ≡ true
      go true e = rw (e, lt-ltb _ _ (paged page p h))
      go false e = lt-ltb _ _ (paged page p h)
  after_address_lem ToWrite page p h = rw (lt-ltb _ _ (paged page p h), le-leb 0 f.size zero-le)
