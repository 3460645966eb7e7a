-- A seen rise and a seen fall of SCK keep a stage sound, over any part's figures. Assumes nothing.
use Rattle.std.specs.Prelude.{ℕ, ◌+◌, ◌-◌, ◌*◌, ◌<◌, ◌≡◌, Bool, cond, ◌&&◌, ◌||◌, List, eqb, leb, Result, Ok, Err}
use Rattle.std.proofs.Math.Path.{refl}
use Rattle.std.proofs.Math.Bool.{true, false}
use Rattle.std.proofs.Common.{arith}
use borrow.Author.Tests.{lt-ltb, le-leb, ltb-true}
use Rattle.std.specs.Int.Bits.{bit_and}
use Rattle.std.proofs.lemmas.Nat.{and_le_r}
use Rattle.std.proofs.Math.Dec.{ltb}
use Rattle.parts.specs.Commands.{command}
use Rattle.parts.specs.Figures.{ident_bytes}
use Rattle.parts.specs.FigureLaws.{Fair, snr_numbered}
use Rattle.laws.specs.MaskLaws.{under_twice}
use Rattle.laws.specs.TestLaws.{both, left, right}
use Rattle.parts.specs.declared.figures.Figure.{Figure}
use Rattle.parts.specs.declared.commands.Command.{Command}
use Rattle.parts.specs.declared.commands.Command.TheVariants.{Wren, Wrdi, Rdsr, Wrsr, Read, Fstrd, Write, Rdid, Snr, Sleep, Other}
use Rattle.parts.specs.Guards.{may_store, may_keep}
use Rattle.parts.specs.declared.guards.Reason.{Reason}
use Rattle.stages.specs.Address.{upper_page, next_address}
use Rattle.stages.specs.Bits.{no_bits, take_bit}
use Rattle.stages.specs.Last.{last_by}
use Rattle.stages.specs.Wp.{is_up, came_up, some_came, came_with, byte_wp, byte_came}
use Rattle.select.specs.Fall.{show_array, show_status, show_ident, next_ident, show_serial, next_serial, fall}
use Rattle.select.specs.Rise.{by_command, opened, code_taken, code_rise, upper_taken, upper_rise, lower_taken, lower_rise, dummy_taken, dummy_rise}
use Rattle.select.specs.Rise.{write_taken, write_rise, kept_by, keep_taken, keep_rise, rise}
use Rattle.stages.specs.SoundLaws.{within, SoundTaken, take_sound, next_sound, after_code_lem, after_address_lem, DataTaken, data_sound}
use Rattle.stages.specs.Sound.{sound_shift, sound_wp, sound_fall, sound_last, sound_stage}
use Rattle.stages.specs.declared.stage.Came.{Came}
use Rattle.stages.specs.declared.stage.Came.TheVariants.{NoByte, NoByteLow, Bytes, BytesLow}
use Rattle.stages.specs.declared.stage.End.TheVariants.{Quiet}
use Rattle.stages.specs.declared.stage.Line.{Line}
use Rattle.stages.specs.declared.stage.Purpose.{Purpose}
use Rattle.stages.specs.declared.stage.Purpose.TheVariants.{ToRead, ToReadFast, ToWrite}
use Rattle.stages.specs.declared.stage.What.TheVariants.{Array, Status, Ident, Serial}
use Rattle.stages.specs.declared.stage.Stage.{Stage}
use Rattle.stages.specs.declared.stage.Stage.TheVariants.{Closed, Code, Upper, Lower, Ready, ArrayOut, StatusOut, Writing, Keeping, Over, Dummy, IdentOut, SerialOut, Asleep}
use Rattle.select.specs.declared.rise.Seen.{Seen}
use Rattle.stages.specs.declared.bits.Taken.{Taken}
use Rattle.stages.specs.declared.bits.Taken.TheVariants.{Part, Whole}

module _ (f : Figure) (fair : Fair f) where
  -- the kept bits stay under the mask
  kept_masked : (seen : Seen) (byte : ℕ) (v : Result (Unit {0}) Reason) → bit_and seen.kept f.kept ≡ seen.kept
      → bit_and (kept_by f seen byte v).kept f.kept ≡ (kept_by f seen byte v).kept
  kept_masked seen byte (Ok done) h = under_twice byte f.kept fair.mask
  kept_masked seen byte (Err reason) h = h

  begun_masked : (seen : Seen) (wp : Line) (code : ℕ) (c : Command) → (by_command f seen wp code c).kept ≡ seen.kept
  begun_masked seen wp code Wren = refl
  begun_masked seen wp code Wrdi = refl
  begun_masked seen wp code Rdsr = refl
  begun_masked seen wp code Wrsr = refl
  begun_masked seen wp code Read = refl
  begun_masked seen wp code Write = refl
  begun_masked seen wp code Fstrd = refl
  begun_masked seen wp code Rdid = refl
  begun_masked seen wp code Snr = refl
  begun_masked seen wp code Sleep = refl
  begun_masked seen wp code Other = refl

  code_masked : (seen : Seen) (wp : Line) (t : Taken) → (code_taken f seen wp t).kept ≡ seen.kept
  unfolding opened
  code_masked seen wp (Part more) = refl
  code_masked seen wp (Whole code) = begun_masked seen wp code (command f.ops code)

  upper_masked : (seen : Seen) (purpose : Purpose) (t : Taken) → (upper_taken f seen purpose t).kept ≡ seen.kept
  upper_masked seen purpose (Part more) = refl
  upper_masked seen purpose (Whole byte) = refl

  lower_masked : (seen : Seen) (purpose : Purpose) (page : ℕ) (t : Taken) → (lower_taken f seen purpose page t).kept ≡ seen.kept
  lower_masked seen purpose page (Part more) = refl
  lower_masked seen purpose page (Whole byte) = refl

  dummy_masked : (seen : Seen) (at : ℕ) (t : Taken) → (dummy_taken seen at t).kept ≡ seen.kept
  dummy_masked seen at (Part more) = refl
  dummy_masked seen at (Whole byte) = refl

  write_masked : (seen : Seen) (came : Came) (last at : ℕ) (t : Taken) → (write_taken f seen came last at t).kept ≡ seen.kept
  write_masked seen came last at (Part more) = refl
  write_masked seen came last at (Whole byte) = refl

  keep_masked : (seen : Seen) (wp : Line) (t : Taken) → bit_and seen.kept f.kept ≡ seen.kept
      → bit_and (keep_taken f seen wp t).kept f.kept ≡ (keep_taken f seen wp t).kept
  keep_masked seen wp (Part more) h = h
  keep_masked seen wp (Whole byte) h = kept_masked seen byte (may_keep f seen.latch seen.kept (is_up wp)) h

  pub rise_masked : (seen : Seen) (stage : Stage) → bit_and seen.kept f.kept ≡ seen.kept
      → bit_and (rise f seen stage).kept f.kept ≡ (rise f seen stage).kept
  unfolding rise code_rise upper_rise lower_rise dummy_rise write_rise keep_rise
  rise_masked seen Closed h = h
  rise_masked seen (Code wp shift) h = rw (code_masked seen wp (take_bit shift seen.si)) h
  rise_masked seen (Upper purpose shift) h = rw (upper_masked seen purpose (take_bit shift seen.si)) h
  rise_masked seen (Lower purpose shift page) h = rw (lower_masked seen purpose page (take_bit shift seen.si)) h
  rise_masked seen (Ready what at) h = h
  rise_masked seen (ArrayOut level bit at) h = h
  rise_masked seen (StatusOut level bit) h = h
  rise_masked seen (Writing came shift last at) h = rw (write_masked seen (byte_came came shift seen.wp) last at (take_bit shift seen.si)) h
  rise_masked seen (Keeping wp shift) h = keep_masked seen (byte_wp f wp shift seen.wp) (take_bit shift seen.si) h
  rise_masked seen (Over end) h = h
  rise_masked seen (Dummy shift at) h = rw (dummy_masked seen at (take_bit shift seen.si)) h
  rise_masked seen (IdentOut level bit at) h = h
  rise_masked seen (SerialOut level bit at) h = h
  rise_masked seen Asleep h = h

  begun_sound : (seen : Seen) (wp : Line) (code : ℕ) (c : Command) → command f.ops code ≡ c → sound_fall f (is_up wp) ≡ true
      → sound_stage f (by_command f seen wp code c).stage ≡ true
  unfolding sound_stage
  begun_sound seen wp code Wren e up = refl
  begun_sound seen wp code Wrdi e up = refl
  begun_sound seen wp code Rdsr e up = refl
  begun_sound seen wp code Wrsr e up = rw up
  begun_sound seen wp code Read e up = after_code_lem f fair ToRead code
  begun_sound seen wp code Fstrd e up = after_code_lem f fair ToReadFast code
  begun_sound seen wp code Write e up = after_code_lem f fair ToWrite code
  begun_sound seen wp code Rdid e up = refl
  begun_sound seen wp code Snr e up = snr_numbered f fair code e
  begun_sound seen wp code Sleep e up = refl
  begun_sound seen wp code Other e up = refl

  code_sound : (seen : Seen) (wp : Line) (t : Taken) → sound_fall f (is_up wp) ≡ true → SoundTaken t → sound_stage f (code_taken f seen wp t).stage ≡ true
  unfolding sound_stage opened
  code_sound seen wp (Part more) up h = both h up
  code_sound seen wp (Whole code) up h = begun_sound seen wp code (command f.ops code) refl up

  upper_sound : (seen : Seen) (purpose : Purpose) (t : Taken) → eqb f.address_bytes 2 ≡ true → SoundTaken t
      → sound_stage f (upper_taken f seen purpose t).stage ≡ true
  unfolding sound_stage
  upper_sound seen purpose (Part more) two h = both two h
  upper_sound seen purpose (Whole byte) two h = rw (lt-ltb (upper_page f byte * 256) f.size (within f fair (and_le_r byte f.upper)))

  lower_sound : (seen : Seen) (purpose : Purpose) (page : ℕ) (t : Taken) → ltb (page * 256) f.size ≡ true → SoundTaken t
      → sound_stage f (lower_taken f seen purpose page t).stage ≡ true
  unfolding sound_stage
  lower_sound seen purpose page (Part more) p h = both p h
  lower_sound seen purpose page (Whole byte) p h = after_address_lem f fair purpose page (ltb-true (page * 256) f.size p) h

  dummy_sound : (seen : Seen) (at : ℕ) (t : Taken) → eqb f.dummy 1 && ltb at f.size ≡ true → SoundTaken t → sound_stage f (dummy_taken seen at t).stage ≡ true
  unfolding sound_stage
  dummy_sound seen at (Part more) p h = both p h
  dummy_sound seen at (Whole byte) p h = right (eqb f.dummy 1) _ p

  -- the byte stored last is one of the array
  last_sound : (last at : ℕ) (v : Result (Unit {0}) Reason) → ltb at f.size ≡ true → leb last f.size ≡ true → leb (last_by last at v) f.size ≡ true
  last_sound last at (Ok done) p h =
      let inside : at < f.size = ltb-true at f.size p in
      rw (lt-ltb at 0xFFFFFFFF (omega (arith, inside, fair.short))) (le-leb (at + 1) f.size (omega (arith, inside)))
  last_sound last at (Err reason) p h = h

  either : (t : Bool) → (t || true) ≡ true
  either true = refl
  either false = refl

  write_sound : (seen : Seen) (came : Came) (last at : ℕ) (t : Taken) → ltb at f.size ≡ true → sound_last f came last ≡ true → DataTaken t
      → sound_stage f (write_taken f seen came last at t).stage ≡ true
  unfolding sound_stage
  write_sound seen came last at (Part more) p l h = rw (p, h.0, h.1) l
  write_sound seen came last at (Whole byte) p l h =
      let v = may_store f seen.latch seen.kept (came_up came) at in
      rw (lt-ltb _ _ (next_sound f fair at), last_sound last at v p (left (leb last f.size) _ l)) (either (eqb (last_by last at v) 0))

  -- whether a byte came stays within a byte
  came_some : (came : Came) (wp : Bool) → some_came (came_with came wp) ≡ some_came came
  came_some NoByte true = refl
  came_some NoByte false = refl
  came_some NoByteLow true = refl
  came_some NoByteLow false = refl
  came_some Bytes true = refl
  came_some Bytes false = refl
  came_some BytesLow true = refl
  came_some BytesLow false = refl

  came_sound : (came : Came) (shift last : ℕ) (wp : Bool) → sound_last f came last ≡ true → sound_last f (byte_came came shift wp) last ≡ true
  unfolding byte_came
  came_sound came shift last wp h = go (eqb shift no_bits)
    where
      go : (t : Bool) → sound_last f (cond t (came_with came wp) came) last ≡ true
      go true = rw (came_some came wp) h
      go false = h

  kept_sound : (seen : Seen) (byte : ℕ) (v : Result (Unit {0}) Reason) → sound_stage f (kept_by f seen byte v).stage ≡ true
  unfolding sound_stage
  kept_sound seen byte (Ok done) = refl
  kept_sound seen byte (Err reason) = refl

  keep_sound : (seen : Seen) (wp : Line) (t : Taken) → DataTaken t → sound_stage f (keep_taken f seen wp t).stage ≡ true
  unfolding sound_stage
  keep_sound seen wp (Part more) h = rw (h.0, h.1)
  keep_sound seen wp (Whole byte) h = kept_sound seen byte (may_keep f seen.latch seen.kept (is_up wp))

  pub rise_sound : (seen : Seen) (stage : Stage) → sound_stage f stage ≡ true → sound_stage f (rise f seen stage).stage ≡ true
  unfolding sound_stage rise code_rise upper_rise lower_rise dummy_rise write_rise keep_rise
  rise_sound seen Closed h = refl
  rise_sound seen (Code wp shift) h =
      code_sound seen wp (take_bit shift seen.si) (right (sound_shift shift) _ h) (take_sound shift seen.si (left (sound_shift shift) _ h))
  rise_sound seen (Upper purpose shift) h =
      upper_sound seen purpose (take_bit shift seen.si) (left _ _ h) (take_sound shift seen.si (right (eqb f.address_bytes 2) _ h))
  rise_sound seen (Lower purpose shift page) h =
      lower_sound seen purpose page (take_bit shift seen.si) (left _ _ h) (take_sound shift seen.si (right (ltb (page * 256) f.size) _ h))
  rise_sound seen (Ready what at) h = h
  rise_sound seen (ArrayOut level bit at) h = h
  rise_sound seen (StatusOut level bit) h = h
  rise_sound seen (Writing came shift last at) h =
      let tests = ltb at f.size && sound_shift shift && sound_wp (came_up came) shift in
      let sure = left (ltb at f.size && sound_shift shift) (sound_wp (came_up came) shift) (left tests (sound_last f came last) h) in
      write_sound seen (byte_came came shift seen.wp) last at (take_bit shift seen.si) (left _ _ sure)
      (came_sound came shift last seen.wp (right tests (sound_last f came last) h)) (data_sound shift seen.si (right (ltb at f.size) _ sure))
  rise_sound seen (Keeping wp shift) h =
      keep_sound seen (byte_wp f wp shift seen.wp) (take_bit shift seen.si) (data_sound shift seen.si (left (sound_shift shift) _ h))
  rise_sound seen (Over end) h = refl
  rise_sound seen (Dummy shift at) h =
      dummy_sound seen at (take_bit shift seen.si) (left _ _ h) (take_sound shift seen.si (right (eqb f.dummy 1 && ltb at f.size) _ h))
  rise_sound seen (IdentOut level bit at) h = h
  rise_sound seen (SerialOut level bit at) h = h
  rise_sound seen Asleep h = refl

  -- one bit less
  lower_bit : (bit : ℕ) → ltb bit 8 ≡ true → ltb (bit - 1) 8 ≡ true
  lower_bit bit h = lt-ltb (bit - 1) 8 (omega (arith, ltb-true bit 8 h))

  pub fall_sound : (serial xs : List ℕ) (status : ℕ) (stage : Stage) → sound_stage f stage ≡ true → sound_stage f (fall f serial xs status stage) ≡ true
  unfolding sound_stage fall show_array show_status show_ident next_ident show_serial next_serial
  fall_sound serial xs status Closed h = h
  fall_sound serial xs status (Code wp shift) h = h
  fall_sound serial xs status (Upper purpose shift) h = h
  fall_sound serial xs status (Lower purpose shift page) h = h
  fall_sound serial xs status (Ready Array at) h = both h refl
  fall_sound serial xs status (Ready Status at) h = refl
  fall_sound serial xs status (Ready Ident at) h = both h refl
  fall_sound serial xs status (Ready Serial at) h = both h refl
  fall_sound serial xs status (ArrayOut level bit at) h = go (eqb bit 0)
    where
      go : (t : Bool) → sound_stage f (cond t (show_array xs (next_address f at) 7) (show_array xs at (bit - 1))) ≡ true
      go true = both (lt-ltb _ _ (next_sound f fair at)) refl
      go false = both (left (ltb at f.size) (ltb bit 8) h) (lower_bit bit (right (ltb at f.size) (ltb bit 8) h))
  fall_sound serial xs status (StatusOut level bit) h = go (eqb bit 0)
    where
      go : (t : Bool) → sound_stage f (cond t (Over Quiet) (show_status status (bit - 1))) ≡ true
      go true = refl
      go false = lower_bit bit h
  fall_sound serial xs status (Writing came shift last at) h = h
  fall_sound serial xs status (Keeping wp shift) h = h
  fall_sound serial xs status (Over end) h = h
  fall_sound serial xs status (Dummy shift at) h = h
  fall_sound serial xs status (IdentOut level bit at) h = go (eqb bit 0)
    where
      next : (t : Bool) → ltb at (ident_bytes - 1) ≡ t → sound_stage f (cond t (show_ident f (at + 1) 7) (Over Quiet)) ≡ true
      next true e = both (lt-ltb (at + 1) ident_bytes (omega (arith, ltb-true at (ident_bytes - 1) e))) refl
      next false e = refl

      go : (t : Bool) → sound_stage f (cond t (next_ident f at) (show_ident f at (bit - 1))) ≡ true
      go true = next (ltb at (ident_bytes - 1)) refl
      go false = both (left (ltb at ident_bytes) (ltb bit 8) h) (lower_bit bit (right (ltb at ident_bytes) (ltb bit 8) h))
  fall_sound serial xs status (SerialOut level bit at) h = go (eqb bit 0)
    where
      next : (t : Bool) → ltb (at + 1) f.serial ≡ t → sound_stage f (cond t (show_serial serial (at + 1) 7) (Over Quiet)) ≡ true
      next true e = both e refl
      next false e = refl

      go : (t : Bool) → sound_stage f (cond t (next_serial f serial at) (show_serial serial at (bit - 1))) ≡ true
      go true = next (ltb (at + 1) f.serial) refl
      go false = both (left (ltb at f.serial) (ltb bit 8) h) (lower_bit bit (right (ltb at f.serial) (ltb bit 8) h))
  fall_sound serial xs status Asleep h = refl
