-- The list call among the others: it leaves what the chip's run over the accepted events leaves, and a list in two pieces is
-- the list in one. Assumes nothing.
use Rattle.std.specs.Prelude.{ℕ, suc, ◌+◌, ◌≤◌, ◌≡◌, Bool, true, false, cond, length, set, take, drop, Option, Some, None, is_none}
use Rattle.std.proofs.Math.Path.{refl, ap}
use Rattle.std.proofs.Common.{sym, ◌∙◌, add_assoc, zero-add, arith, length-set, length-drop, take-append-drop, length-take-le}
use mathlib.Core.List.{List, [], ◌∷◌, ◌++◌}
use Rattle.std.proofs.Math.Nat.{add-zero}
use borrow.Author.Tests.{le-ltb}
use Rattle.std.proofs.Math.ListN.{length-append}
use Rattle.pins.specs.declared.state.State.{State}
use Rattle.select.specs.Notes.{level_number}
use Rattle.select.specs.declared.notes.Note.{Note}
use Rattle.step.specs.Step.{written}
use Rattle.refusals.specs.declared.refusal.Refusal.{Refusal}
use Rattle.supply.specs.CheckedLaws.{some_given, given_not_none}
use Rattle.chip.specs.Event.{lend_refusal, event}
use Rattle.chip.specs.List.{Course, set_all_out, took_one, stops_at, turn, course, list_refusal, listed}
use Rattle.chip.proofs.ListLaws.{course_stays, listed_runs, listed_stops, list_passed, list_none}
use Rattle.chip.proofs.EventLaws.{Lends, lend_passed, lend_none}
use Rattle.chip.specs.Run.{Chip, course_chip, next, run}
use Rattle.chip.proofs.RunLaws.{run_part, run_length, run_sound}
use Rattle.chip.specs.declared.event.Answer.{Answer}

-- what the list call tells: all but the note
abbrev pub Same : Course → Course → Type 0
Same c d =
    (c.refusal ≡ d.refusal) × (c.count ≡ d.count) × (c.state ≡ d.state) × (c.array ≡ d.array) × (c.levels ≡ d.levels)

module _ (serial : List ℕ) where
  -- how many more a course accepts
  unfoldable more : Course → List ℕ → ℕ
  more c [] = 0
  more c (code ∷ codes) =
      cond (is_none (event serial c.array c.state code).refusal) (suc (more (turn c (event serial c.array c.state code)) codes)) 0

  one_on : (n m : ℕ) → n + 1 + m ≡ n + suc m
  one_on n m = omega arith

  from_none : (n : ℕ) → 0 + n ≡ n
  from_none n = omega arith

  -- the count, and the chip that those events make
  abbrev Runs : Course → List ℕ → Type 0
  Runs c codes = ((course serial c codes).count ≡ c.count + more c codes) × (course_chip serial (course serial c codes) ≡ run (course_chip serial c) (take (more c codes) codes))

  runs : (c : Course) (codes : List ℕ) → is_none c.refusal ≡ true → Runs c codes
  unfolding more course run next
  runs c [] fine = (rw add-zero, refl)
  runs c (code ∷ codes) fine = rw fine (go (runs (took_one c a) codes refl) (is_none a.refusal) refl)
    where
      a : Answer
      a = event serial c.array c.state code

      on : Course
      on = took_one c a

      end : Course
      end = stops_at c a.refusal

      go : Runs on codes → (t : Bool) → is_none a.refusal ≡ t
          → ((course serial (cond t on end) codes).count ≡ c.count + cond t (suc (more (cond t on end) codes)) 0)
          × (course_chip serial (course serial (cond t on end) codes) ≡ run (course_chip serial c) (take (cond t (suc (more (cond t on end) codes)) 0) (code ∷ codes)))
      go later true e = (later.0 ∙ one_on c.count (more on codes), later.1)
      go later false e = (ap (λ (d : Course). d.count) (course_stays serial end codes e) ∙ sym (rw add-zero), ap (course_chip serial) (course_stays serial end codes e))

  -- "the count of events accepted and the state and memory those made", at every outcome
  module _ (xs : List ℕ) (s : State) (codes levels : List ℕ) where
    abbrev chip : Chip
    chip = record { state = s; array = xs; serial = serial }

    pub listed_run : course_chip serial (listed serial xs s codes levels) ≡ run chip (take (listed serial xs s codes levels).count codes)
    unfolding run
    listed_run = go (list_refusal s (length xs) (length serial) (length codes) (length levels)) refl
      where
        Goal : Course → Type 0
        Goal c = course_chip serial c ≡ run chip (take c.count codes)

        ran : Goal (course serial (set_all_out None s xs levels) codes)
        ran =
            (runs (set_all_out None s xs levels) codes refl).1
            ∙ ap (λ (n : ℕ). run chip (take n codes)) (sym ((runs (set_all_out None s xs levels) codes refl).0 ∙ from_none (more (set_all_out None s xs levels) codes)))

        go : (given : Option Refusal) → list_refusal s (length xs) (length serial) (length codes) (length levels) ≡ given → Goal (listed serial xs s codes levels)
        go None e = rw (listed_runs serial xs s codes levels e) ran
        go (Some why) e = rw (listed_stops serial xs s codes levels e) refl

  -- ---- a list in two pieces

  pub course_append : (c : Course) (ps qs : List ℕ) → course serial c (ps ++ qs) ≡ course serial (course serial c ps) qs
  unfolding course
  course_append c [] qs = refl
  course_append c (p ∷ ps) qs = go (course_append (turn c (event serial c.array c.state p)) ps qs) (is_none c.refusal) refl
    where
      on : Course
      on = turn c (event serial c.array c.state p)

      go : course serial on (ps ++ qs) ≡ course serial (course serial on ps) qs → (t : Bool) → is_none c.refusal ≡ t
          → cond t (course serial on (ps ++ qs)) c ≡ course serial (cond t (course serial on ps) c) qs
      go later true e = later
      go later false e = sym (course_stays serial c qs e)

  -- a course whose answers stand behind others
  abbrev pub behind : List ℕ → Course → Course
  behind front c =
      record {
        refusal = c.refusal;
        count = length front + c.count;
        note = c.note;
        state = c.state;
        array = c.array;
        levels = front ++ c.levels;
      }

  suc_on : (n i : ℕ) → suc n + i ≡ suc (n + i)
  suc_on n i = omega arith

  set_behind : (front levels : List ℕ) (i v : ℕ) → set (front ++ levels) (length front + i) v ≡ front ++ set levels i v
  set_behind [] levels i v = rw zero-add
  set_behind (x ∷ front) levels i v =
      ap (λ (n : ℕ). set (x ∷ (front ++ levels)) n v) (suc_on (length front) i) ∙ ap (λ (l : List ℕ). x ∷ l) (set_behind front levels i v)

  turn_behind : (front : List ℕ) (c : Course) (a : Answer) → turn (behind front c) a ≡ behind front (turn c a)
  turn_behind front c a = go (is_none a.refusal)
    where
      go : (t : Bool) → cond t (took_one (behind front c) a) (stops_at (behind front c) a.refusal) ≡ behind front (cond t (took_one c a) (stops_at c a.refusal))
      go true = λ i.
          record {
            refusal = None;
            count = add_assoc (length front) c.count 1 i;
            note = a.note;
            state = a.state;
            array = written a.note c.array;
            levels = set_behind front c.levels c.count (level_number a.so) i;
          }
      go false = refl

  pub course_behind : (front : List ℕ) (c : Course) (codes : List ℕ) → course serial (behind front c) codes ≡ behind front (course serial c codes)
  unfolding course
  course_behind front c [] = refl
  course_behind front c (code ∷ codes) =
      go (course_behind front (turn c (event serial c.array c.state code)) codes) (is_none c.refusal)
    where
      on : Course
      on = turn c (event serial c.array c.state code)

      later_on : course serial (behind front on) codes ≡ behind front (course serial on codes)
          → course serial (turn (behind front c) (event serial c.array c.state code)) codes ≡ behind front (course serial on codes)
      later_on h = ap (λ (d : Course). course serial d codes) (turn_behind front c (event serial c.array c.state code)) ∙ h

      go : course serial (behind front on) codes ≡ behind front (course serial on codes) → (t : Bool)
          → cond t (course serial (turn (behind front c) (event serial c.array c.state code)) codes) (behind front c) ≡ behind front (cond t (course serial on codes) c)
      go h true = later_on h
      go h false = refl

  -- a course that was not stopped took every code
  took_all : (c : Course) (codes : List ℕ) → is_none c.refusal ≡ true → (course serial c codes).refusal ≡ None → more c codes ≡ length codes
  unfolding more course
  took_all c [] fine h = refl
  took_all c (code ∷ codes) fine h = go (took_all (took_one c a) codes refl) (is_none a.refusal) refl (rw fine at h)
    where
      a : Answer
      a = event serial c.array c.state code

      on : Course
      on = took_one c a

      end : Course
      end = stops_at c a.refusal

      go : ((course serial on codes).refusal ≡ None → more on codes ≡ length codes) → (t : Bool) → is_none a.refusal ≡ t
          → (course serial (cond t on end) codes).refusal ≡ None → cond t (suc (more (cond t on end) codes)) 0 ≡ suc (length codes)
      go later true e h = ap suc (later h)
      go later false e h = absurd (given_not_none _ e (ap (λ (d : Course). d.refusal) (sym (course_stays serial end codes e)) ∙ h))

  levels_length : (c : Course) (codes : List ℕ) → length (course serial c codes).levels ≡ length c.levels
  unfolding course
  levels_length c [] = refl
  levels_length c (code ∷ codes) = go (levels_length (turn c a) codes) (is_none c.refusal) (is_none a.refusal)
    where
      a : Answer
      a = event serial c.array c.state code

      turned : (t : Bool) → length (cond t (took_one c a) (stops_at c a.refusal)).levels ≡ length c.levels
      turned true = length-set c.levels c.count (level_number a.so)
      turned false = refl

      go : length (course serial (turn c a) codes).levels ≡ length (turn c a).levels → (t u : Bool)
          → length (cond t (course serial (turn c a) codes) c).levels ≡ length c.levels
      go later true u = later ∙ turned (is_none a.refusal)
      go later false u = refl

  -- the note that a course begins with is not told
  abbrev from : Note → State → List ℕ → List ℕ → Course
  from note s xs levels = record { refusal = None; count = 0; note = note; state = s; array = xs; levels = levels }

  note_untold : (note : Note) (s : State) (xs levels codes : List ℕ) → Same (course serial (from note s xs levels) codes) (course serial (set_all_out None s xs levels) codes)
  unfolding course
  note_untold note s xs levels [] = (refl, refl, refl, refl, refl)
  note_untold note s xs levels (code ∷ codes) = (refl, refl, refl, refl, refl)

  module _ (xs : List ℕ) (s : State) (ps qs levels : List ℕ) (enough : length ps + length qs ≤ length levels) where
    abbrev one : Course
    one = listed serial xs s ps levels

    -- there is room for the first piece too
    checks_alike : list_refusal s (length xs) (length serial) (length (ps ++ qs)) (length levels) ≡ list_refusal s (length xs) (length serial) (length ps) (length levels)
    unfolding list_refusal
    checks_alike = rw (le-ltb (length levels) (length (ps ++ qs)) (rw length-append enough), le-ltb (length levels) (length ps) (omega (arith, enough)))

    whole : listed serial xs s (ps ++ qs) levels ≡ course serial one qs
    unfolding listed
    whole =
        ap (λ (given : Option Refusal). course serial (set_all_out given s xs levels) (ps ++ qs)) checks_alike
        ∙ course_append (set_all_out (list_refusal s (length xs) (length serial) (length ps) (length levels)) s xs levels) ps qs

    -- the first piece stopped: so does the whole, and there
    pub first_stops : (one.refusal ≡ None → ⊥) → listed serial xs s (ps ++ qs) levels ≡ one
    first_stops h = whole ∙ course_stays serial one qs (some_given _ h)

    -- else the second call, on what the first left, with the answers from the first's on
    module _ (fine : one.refusal ≡ None) where
      abbrev front : List ℕ
      front = take (length ps) one.levels

      abbrev rest : List ℕ
      rest = drop (length ps) one.levels

      abbrev two : Course
      two = listed serial one.array one.state qs rest

      abbrev start : Course
      start = set_all_out None s xs levels

      passed : list_refusal s (length xs) (length serial) (length ps) (length levels) ≡ None
      passed = go (list_refusal s (length xs) (length serial) (length ps) (length levels)) refl
        where
          go : (given : Option Refusal) → list_refusal s (length xs) (length serial) (length ps) (length levels) ≡ given → given ≡ None
          go None e = refl
          go (Some why) e = sym (ap (λ (c : Course). c.refusal) (listed_stops serial xs s ps levels e)) ∙ fine

      is : one ≡ course serial start ps
      is = listed_runs serial xs s ps levels passed

      count_is : one.count ≡ length ps
      count_is =
          ap (λ (c : Course). c.count) is ∙ (runs start ps refl).0 ∙ from_none (more start ps)
          ∙ took_all start ps refl (ap (λ (c : Course). c.refusal) (sym is) ∙ fine)

      levels_is : length one.levels ≡ length levels
      levels_is = ap (λ (c : Course). length c.levels) is ∙ levels_length start ps

      front_length : length front ≡ length ps
      front_length = length-take-le (length ps) one.levels (rw levels_is (omega (arith, enough)))

      rest_length : length qs ≤ length rest
      rest_length = rw (length-drop, levels_is) (omega (arith, enough))

      one_behind : one ≡ behind front (from one.note one.state one.array rest)
      one_behind = λ i.
          record {
            refusal = fine i;
            count = (count_is ∙ sym (add-zero (length front) ∙ front_length)) i;
            note = one.note;
            state = one.state;
            array = one.array;
            levels = sym (take-append-drop (length ps) one.levels) i;
          }

      -- the second call's checks pass: the first kept the part, the length and soundness
      lent : lend_refusal one.state (length one.array) (length serial) ≡ None
      lent =
          ap (λ (c : Chip). lend_refusal c.state (length c.array) (length serial)) (listed_run xs s ps levels)
          ∙ lend_none made.state (length made.array) (length serial) (
            run_sound before accepted was.0,
            rw (run_part before accepted, run_length before accepted) was.1,
            rw (run_part before accepted) was.2,
          )
        where
          before : Chip
          before = record { state = s; array = xs; serial = serial }

          accepted : List ℕ
          accepted = take one.count ps

          made : Chip
          made = run before accepted

          was : Lends s (length xs) (length serial)
          was = lend_passed s (length xs) (length serial) (list_passed s (length xs) (length serial) (length ps) (length levels) passed).0

      two_is : two ≡ course serial (set_all_out None one.state one.array rest) qs
      two_is = listed_runs serial one.array one.state qs rest (list_none one.state (length one.array) (length serial) (length qs) (length rest) lent rest_length)

      whole_behind : listed serial xs s (ps ++ qs) levels ≡ behind front (course serial (from one.note one.state one.array rest) qs)
      whole_behind = whole ∙ ap (λ (c : Course). course serial c qs) one_behind ∙ course_behind front (from one.note one.state one.array rest) qs

      untold : Same (course serial (from one.note one.state one.array rest) qs) two
      untold = rw two_is (note_untold one.note one.state one.array rest qs)

      pub pieces : Same (listed serial xs s (ps ++ qs) levels) (behind front two)
      pieces = (
        ap (λ (c : Course). c.refusal) whole_behind ∙ untold.0,
        ap (λ (c : Course). c.count) whole_behind ∙ ap (λ (n : ℕ). length front + n) untold.1,
        ap (λ (c : Course). c.state) whole_behind ∙ untold.2,
        ap (λ (c : Course). c.array) whole_behind ∙ untold.3,
        ap (λ (c : Course). c.levels) whole_behind ∙ ap (λ (l : List ℕ). front ++ l) untold.4,
      )
