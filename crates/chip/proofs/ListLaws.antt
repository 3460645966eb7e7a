-- A list of events turn by turn: how one more code moves its course, and what a refused one leaves. Assumes nothing.
use Rattle.std.specs.Prelude.{ℕ, ◌+◌, ◌<◌, ◌≤◌, ◌≡◌, Bool, true, false, cond, ltb, length, set, drop, get_or, Option, Some, None, is_none, Result, Ok, Err}
use Rattle.std.proofs.Math.Path.{refl, sym, ap}
use Rattle.std.proofs.Common.{◌∙◌, add-one, drop-cons}
use Rattle.std.proofs.lemmas.Option.{none-some}
use mathlib.Core.List.{List, [], ◌∷◌}
use borrow.Author.Tests.{ltb-false, le-ltb}
use Rattle.std.proofs.Math.Seq.{drop-length}
use Rattle.parts.specs.Figures.{figure_of, fits_part, fits_serial}
use Rattle.parts.specs.declared.figures.Figure.{Figure}
use Rattle.select.specs.Notes.{level_number}
use Rattle.select.specs.declared.notes.Level.{Level}
use Rattle.select.specs.declared.notes.Note.{Note}
use Rattle.pins.specs.Levels.{so_level}
use Rattle.pins.specs.Sound.{sound}
use Rattle.pins.specs.declared.state.State.{State}
use Rattle.pins.specs.declared.state.Moved.{Moved}
use Rattle.refusals.specs.declared.refusal.Refusal.{Refusal}
use Rattle.refusals.specs.declared.refusal.Refusal.TheVariants.{FewAnswers}
use Rattle.step.specs.Step.{written}
use Rattle.step.specs.StepLaws.{written_length}
use Rattle.supply.specs.Power.{checked}
use Rattle.supply.specs.CheckedLaws.{some_given, checked_none, checked_some}
use Rattle.chip.specs.Event.{answer_of, first, unless_refused, lend_refusal, tried, event}
use Rattle.chip.specs.List.{Course, set_all_out, stops_at, turn, course, list_refusal, listed}
use Rattle.chip.proofs.EventLaws.{event_lends, lend_passed, lend_none}
use Rattle.chip.proofs.RunLaws.{event_part}
use Rattle.chip.proofs.SoundLaws.{event_sound}
use Rattle.chip.specs.declared.event.Answer.{Answer}

pub turn_stops : (c : Course) (a : Answer) → (a.refusal ≡ None → ⊥) → turn c a ≡ stops_at c a.refusal
turn_stops c a e = rw (some_given _ e)

-- what the first checks let through: the state and what is lent with it, and the answers have room for every event
pub list_passed : (s : State) (len serial codes levels : ℕ) → list_refusal s len serial codes levels ≡ None
    → (lend_refusal s len serial ≡ None) × (codes ≤ levels)
unfolding list_refusal
list_passed s len serial codes levels = go (lend_refusal s len serial) (ltb levels codes) refl
  where
    go : (given : Option Refusal) (short : Bool) → ltb levels codes ≡ short
        → first given (cond short (Some FewAnswers) None) ≡ None → (given ≡ None) × (codes ≤ levels)
    go None true e h = absurd (none-some FewAnswers (sym h))
    go None false e h = (refl, ltb-false _ _ e)
    go (Some why) short e h = absurd (none-some why (sym h))

pub list_none : (s : State) (len serial codes levels : ℕ) → lend_refusal s len serial ≡ None → codes ≤ levels → list_refusal s len serial codes levels ≡ None
unfolding list_refusal
list_none s len serial codes levels fine enough = rw (fine, le-ltb levels codes enough)

module _ (serial : List ℕ) where
  -- "It stops at the first refusal"
  pub course_stays : (c : Course) (codes : List ℕ) → is_none c.refusal ≡ false → course serial c codes ≡ c
  unfolding course
  course_stays c [] e = refl
  course_stays c (code ∷ codes) e = rw e

  pub course_turns : (c : Course) (code : ℕ) (codes : List ℕ) → is_none c.refusal ≡ true
      → course serial c (code ∷ codes) ≡ course serial (turn c (event serial c.array c.state code)) codes
  unfolding course
  course_turns c code codes e = rw e

  -- ---- the loop, at its turn number i

  -- no code is left
  pub loop_ends : (c : Course) (codes : List ℕ) (i : ℕ) → i ≡ length codes → c ≡ course serial c (drop i codes)
  unfolding course
  loop_ends c codes i e = sym (ap (λ (n : ℕ). course serial c (drop n codes)) e ∙ ap (course serial c) (drop-length codes))

  module _ (xs : List ℕ) (s : State) (levels codes : List ℕ) (note : Note) (i : ℕ) (more : i < length codes) where
    abbrev here : Course
    here = record { refusal = None; count = i; note = note; state = s; array = xs; levels = levels }

    abbrev code : ℕ
    code = get_or codes i 0

    one_more_lem : course serial here (drop i codes) ≡ course serial (turn here (event serial xs s code)) (drop (i + 1) codes)
    one_more_lem =
        ap (course serial here) (drop-cons codes i 0 more ∙ ap (λ (n : ℕ). code ∷ drop n codes) (sym (add-one i)))
        ∙ course_turns here code (drop (i + 1) codes) refl

    module _ (f : Figure) (row : f ≡ figure_of s.part) where
      -- the loop's attempt is the event
      told : {t : Result Moved Refusal} → t ≡ tried f serial xs s code → answer_of s t ≡ event serial xs s code
      unfolding event
      told came = ap (answer_of s) (came ∙ ap (λ (g : Figure). tried g serial xs s code) row)

      pub loop_stops : {why : Refusal} → Err why ≡ tried f serial xs s code → stops_at here (Some why) ≡ course serial here (drop i codes)
      loop_stops {why} came =
          sym
          (one_more_lem
          ∙ ap (λ (a : Answer). course serial (turn here a) (drop (i + 1) codes)) (sym (told came))
          ∙ course_stays (stops_at here (Some why)) (drop (i + 1) codes) refl)

      -- after an event that was tried, accepted or refused
      module _ {t : Result Moved Refusal} (came : t ≡ tried f serial xs s code) where
        abbrev after : Answer
        after = answer_of s t

        part_stays : after.state.part ≡ s.part
        part_stays = ap (λ (a : Answer). a.state.part) (told came) ∙ event_part s serial xs code

        pub row_stays : f ≡ figure_of after.state.part
        row_stays = row ∙ ap figure_of (sym part_stays)

        -- nothing is refused of the next state and what is lent with it either: an event leads from a sound state to a sound one of
        -- the same part, and what it stores keeps the array's length
        pub lend_stays : {ys : List ℕ} → ys ≡ written after.note xs → lend_refusal s (length xs) (length serial) ≡ None
            → lend_refusal after.state (length ys) (length serial) ≡ None
        lend_stays {ys} stored lent =
            let passed = lend_passed s (length xs) (length serial) lent in
            lend_none after.state (length ys) (length serial) (
              ap (λ (a : Answer). sound a.state) (told came) ∙ event_sound s passed.0 serial xs code,
              ap (λ (p : ℕ). fits_part p (length ys)) part_stays ∙ ap (fits_part s.part) (ap length stored ∙ written_length after.note xs) ∙ passed.1,
              ap (λ (p : ℕ). fits_serial p (length serial)) part_stays ∙ passed.2,
            )

      module _ (m : Moved) (came : Ok m ≡ tried f serial xs s code) where
        pub loop_goes : (ys : List ℕ) (so : Level) (level : ℕ)
            → ys ≡ written m.note xs → so ≡ so_level m.state → level ≡ level_number so
            → course serial (record { refusal = None; count = i + 1; note = m.note; state = m.state; array = ys; levels = set levels i level }) (drop (i + 1) codes)
            ≡ course serial here (drop i codes)
        loop_goes ys so level stored shown put =
            rw (stored, put, shown)
            (sym (one_more_lem ∙ ap (λ (a : Answer). course serial (turn here a) (drop (i + 1) codes)) (sym (told came))))

  -- ---- the call, by what its first checks give

  module _ (xs : List ℕ) (s : State) (codes levels : List ℕ) where
    abbrev given : Option Refusal
    given = list_refusal s (length xs) (length serial) (length codes) (length levels)

    pub listed_runs : given ≡ None → listed serial xs s codes levels ≡ course serial (set_all_out None s xs levels) codes
    unfolding listed
    listed_runs e = ap (λ (r : Option Refusal). course serial (set_all_out r s xs levels) codes) e

    -- "checked first even for an empty list": nothing is touched
    pub listed_stops : {why : Refusal} → given ≡ Some why → listed serial xs s codes levels ≡ set_all_out (Some why) s xs levels
    unfolding listed
    listed_stops {why} e =
        ap (λ (r : Option Refusal). course serial (set_all_out r s xs levels) codes) e
        ∙ course_stays (set_all_out (Some why) s xs levels) codes refl

  -- the call: what it asked first is what its checks give
  module _ (xs : List ℕ) (s : State) (codes levels : List ℕ) {r : Result (Unit {0}) Refusal} (told : r ≡ checked (list_refusal s (length xs) (length serial) (length codes) (length levels))) where
    -- the loop may run: nothing is refused of what is lent, and the answers have room
    pub call_passed : r ≡ Ok tt → (lend_refusal s (length xs) (length serial) ≡ None) × (length codes ≤ length levels)
    call_passed e = list_passed s (length xs) (length serial) (length codes) (length levels) (checked_none _ (sym told ∙ e))

    pub call_runs : {c : Course} → r ≡ Ok tt → c ≡ course serial (set_all_out None s xs levels) codes → c ≡ listed serial xs s codes levels
    call_runs e ran = ran ∙ sym (listed_runs xs s codes levels (checked_none _ (sym told ∙ e)))

    pub call_stops : {why : Refusal} → r ≡ Err why → set_all_out (Some why) s xs levels ≡ listed serial xs s codes levels
    call_stops e = sym (listed_stops xs s codes levels (checked_some _ _ (sym told ∙ e)))

  -- ---- one event is the loop over one code

  module _ (xs : List ℕ) (s : State) (code level : ℕ) (levels : List ℕ) where
    abbrev start : Course
    start = set_all_out None s xs (level ∷ levels)

    -- a course's answer is its last event's, and so is its note, refused or not
    abbrev Tells : Answer → Course → Type 0
    Tells a c =
        (answer_of c.state (unless_refused c.refusal (Ok (record { state = c.state; note = c.note }))) ≡ a)
        × (c.array ≡ written a.note xs) × (c.note ≡ a.note)

    turned : (t : Result Moved Refusal) → Tells (answer_of s t) (turn start (answer_of s t))
    unfolding written
    turned (Ok m) = (refl, refl, refl)
    turned (Err why) = (refl, refl, refl)

    -- what the loop leaves is the event's answer
    pub single : {c : Course} → c ≡ course serial start (code ∷ []) → Tells (event serial xs s code) c
    unfolding course event
    single e = rw e (turned (tried (figure_of s.part) serial xs s code))

  -- where something is refused of what is lent, that is the event's answer, and the array stays
  module _ (xs : List ℕ) (s : State) (code : ℕ) {why : Refusal} (refused : lend_refusal s (length xs) (length serial) ≡ Some why) where
    pub unlent : (answer_of s (Err why) ≡ event serial xs s code) × (xs ≡ written (event serial xs s code).note xs)
    unfolding written
    unlent = rw (event_lends serial xs s code refused) (refl, refl)
