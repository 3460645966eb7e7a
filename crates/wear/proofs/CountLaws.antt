-- What the counting call's promise comes to. Assumes nothing.
use Rattle.std.specs.Prelude.{ℕ, ◌-◌, ◌/◌, ◌<◌, ◌≡◌, refl, Bool, true, cond, not, List, [], ◌∷◌, length, Option, Some, None, is_none, Ok, Err}
use Rattle.std.proofs.Common.{arith, subst, ◌∙◌, length-set}
use Rattle.std.proofs.Math.Path.{sym, ap}
use Rattle.std.proofs.Math.Bool.{false}
use Rattle.std.proofs.lemmas.Option.{none-some}
use Rattle.std.proofs.Math.Dec.{eqb}
use borrow.Author.Tests.{eqb-false, eqb-true, eq-eqb, ne_eqb}
use Rattle.laws.specs.TestLaws.{denied, granted, sole}
use Rattle.parts.specs.Figures.{figure_of}
use Rattle.parts.specs.declared.figures.Figure.{Figure}
use Rattle.stages.specs.Last.{last_of}
use Rattle.select.specs.declared.notes.Level.TheVariants.{Released}
use Rattle.select.specs.declared.notes.Note.TheVariants.{Nothing}
use Rattle.pins.specs.Sound.{sound_by, sound}
use Rattle.refusals.specs.declared.refusal.Refusal.{Refusal}
use Rattle.refusals.specs.declared.refusal.Refusal.TheVariants.{Unsound, NoPart, CounterCount}
use Rattle.pins.specs.SoundLaws.{sound_row}
use Rattle.pins.specs.declared.state.State.{State}
use Rattle.chip.specs.Answers.{Paper, paper}
use Rattle.supply.specs.CheckedLaws.{checked_none, checked_some}
use Rattle.supply.specs.Power.{checked}
use Rattle.step.specs.Step.{written}
use Rattle.chip.specs.Event.{answer_of, event, first, lend_refusal}
use Rattle.chip.specs.Outcomes.{paper_sole}
use Rattle.chip.specs.Promises.{EventPromise}
use Rattle.chip.proofs.RefusalLaws.{refusal_told}
use Rattle.chip.specs.declared.event.Answer.{Answer}
use Rattle.wear.specs.Count.{same_row, cycled, add_one, add_all, row_count, count_refusal, refused_or, counted, counters_after}
use Rattle.wear.specs.Promises.{CountPromise}

-- the rows that an event adds to: none where no byte was touched, none where the last one stayed in its row
module _ (counters : List ℕ) (size before after : ℕ) where
  pub adds_none : after ≡ 0 → counters ≡ add_all counters (cycled size before after)
  unfolding add_all
  adds_none e = rw (eq-eqb after 0 e)

  pub adds_same : (after ≡ 0 → ⊥) → same_row size before after ≡ true → counters ≡ add_all counters (cycled size before after)
  unfolding add_all
  adds_same h e = rw (ne_eqb after 0 h, e)

  pub adds_one :
      (after ≡ 0 → ⊥) → same_row size before after ≡ false → add_one counters ((after - 1) / size) ≡ add_all counters (cycled size before after)
  unfolding add_all
  adds_one h e = rw (ne_eqb after 0 h, e)

-- none where the byte touched last stayed
stay : {counters : List ℕ} (size x : ℕ) → counters ≡ add_all counters (cycled size x x)
unfolding add_all
stay {counters = counters} size x = go (eqb x 0) refl
  where
    go : (t : Bool) → eqb x 0 ≡ t → counters ≡ add_all counters (cycled size x x)
    go true e = adds_none counters size x x (eqb-true x 0 e)
    go false e = adds_same counters size x x (eqb-false x 0 e) (rw (e, eq-eqb ((x - 1) / size) ((x - 1) / size) refl))

pub adds_length : (rows counters : List ℕ) → length (add_all counters rows) ≡ length counters
unfolding add_all
adds_length [] counters = refl
adds_length (row ∷ rows) counters = adds_length rows (add_one counters row) ∙ length-set counters row _

-- the code reads the part's figures once, as f, and tests by them
module _ (f : Figure) (s : State) (len serial counters : ℕ) (row : f ≡ figure_of s.part) {good : Bool} (told : good ≡ sound_by f s) where
  by_row : good ≡ sound s
  by_row = told ∙ sound_row s row

  by_rows : {t : Bool} → eqb f.row 0 ≡ t → eqb (figure_of s.part).row 0 ≡ t
  by_rows e = ap (λ (g : Figure). eqb g.row 0) (sym row) ∙ e

  by_count : {t : Bool} → eqb counters (f.size / f.row) ≡ t → eqb counters (row_count (figure_of s.part)) ≡ t
  by_count e = ap (λ (g : Figure). eqb counters (row_count g)) (sym row) ∙ e

  pub count_unsound : not good ≡ true → Err Unsound ≡ checked (count_refusal s len serial counters)
  unfolding count_refusal
  count_unsound h = rw (denied by_row h)

  pub count_rowless : not good ≡ false → f.row ≡ 0 → Err NoPart ≡ checked (count_refusal s len serial counters)
  unfolding count_refusal
  count_rowless h e = rw (granted by_row h, by_rows (eq-eqb _ _ e))

  module _ (h : not good ≡ false) (e : f.row ≡ 0 → ⊥) where
    past : count_refusal s len serial counters
        ≡ first (lend_refusal s len serial) (cond (eqb counters (row_count (figure_of s.part))) None (Some CounterCount))
    unfolding count_refusal
    past = rw (granted by_row h, by_rows (ne_eqb _ _ e))

    pub count_lends : {why : Refusal} → Err why ≡ checked (lend_refusal s len serial) → Err why ≡ checked (count_refusal s len serial counters)
    count_lends {why} n = rw (past, checked_some (lend_refusal s len serial) why (sym n))

    pub count_misfits : Ok tt ≡ checked (lend_refusal s len serial) → (counters ≡ f.size / f.row → ⊥) → Err CounterCount ≡ checked (count_refusal s len serial counters)
    count_misfits n p = rw (past, checked_none (lend_refusal s len serial) (sym n), by_count (ne_eqb _ _ p))

    pub count_fine : Ok tt ≡ checked (lend_refusal s len serial) → counters ≡ f.size / f.row → Ok tt ≡ checked (count_refusal s len serial counters)
    count_fine n p = rw (past, checked_none (lend_refusal s len serial) (sym n), by_count (eq-eqb _ _ p))

-- what the checks let through: the part has rows, and nothing is refused of what else is lent
pub count_passed :
    (s : State) (len serial counters : ℕ) → count_refusal s len serial counters ≡ None
    → (0 < (figure_of s.part).row) × (lend_refusal s len serial ≡ None) × (counters ≡ row_count (figure_of s.part))
unfolding count_refusal
count_passed s len serial counters =
    go (sound s) (eqb (figure_of s.part).row 0) (lend_refusal s len serial) (eqb counters (row_count (figure_of s.part))) refl refl refl
  where
    go : (a b : Bool) (d : Option Refusal) (e : Bool)
        → eqb (figure_of s.part).row 0 ≡ b → lend_refusal s len serial ≡ d → eqb counters (row_count (figure_of s.part)) ≡ e
        → cond (not a) (Some Unsound) (cond b (Some NoPart) (first d (cond e None (Some CounterCount)))) ≡ None
        → (0 < (figure_of s.part).row) × (lend_refusal s len serial ≡ None) × (counters ≡ row_count (figure_of s.part))
    go false b d e x y z h = absurd (none-some Unsound (sym h))
    go true true d e x y z h = absurd (none-some NoPart (sym h))
    go true false (Some why) e x y z h = absurd (none-some why (sym h))
    go true false None false x y z h = absurd (none-some CounterCount (sym h))
    go true false None true x y z h = let rows = eqb-false (figure_of s.part).row 0 x in (omega (arith, rows), y, eqb-true _ _ z)

pub count_rows :
    (f : Figure) (s : State) (len serial counters : ℕ) → count_refusal s len serial counters ≡ None → f ≡ figure_of s.part → 0 < f.row
count_rows f s len serial counters none row =
    subst (λ (g : Figure). 0 < g.row) (sym row) (count_passed s len serial counters none).0

module _ (serial xs counters : List ℕ) (s : State) (code : ℕ) where
  -- what is refused of the state and what is lent with it
  abbrev before : Option Refusal
  before = count_refusal s (length xs) (length serial) (length counters)

  -- where nothing is, the answer is the event's own; else that is the answer
  pub count_accepts : before ≡ None → counted serial xs counters s code ≡ event serial xs s code
  unfolding counted
  count_accepts e = ap (λ (given : Option Refusal). refused_or given s (event serial xs s code)) e

  count_refuses : {why : Refusal} → before ≡ Some why → counted serial xs counters s code ≡ answer_of s (Err why)
  unfolding counted
  count_refuses e = ap (λ (given : Option Refusal). refused_or given s (event serial xs s code)) e

  -- the counters by the answer's state
  abbrev after : State → List ℕ
  after t = add_all counters (cycled (figure_of s.part).row (last_of s.stage) (last_of t.stage))

  unmoved : counters ≡ after s
  unmoved = stay (figure_of s.part).row (last_of s.stage)

  pub stops : {why : Refusal} → before ≡ Some why → CountPromise serial xs counters s code (answer_of s (Err why)) xs counters
  unfolding written counters_after
  stops {why} told = (ap paper own, ap (λ (a : Answer). written a.note xs) own, unmoved ∙ ap (λ (a : Answer). after a.state) own)
    where
      own : answer_of s (Err why) ≡ counted serial xs counters s code
      own = sym (count_refuses told)

  module _ (f : Figure) (row : f ≡ figure_of s.part) (old : ℕ) (was : old ≡ last_of s.stage) where
    pub goes :
        before ≡ None → (a : Answer) (ys : List ℕ) → EventPromise serial xs s code a ys
        → (new : ℕ) → new ≡ last_of a.state.stage → (cs : List ℕ) → cs ≡ add_all counters (cycled f.row old new)
        → CountPromise serial xs counters s code a ys cs
    unfolding counters_after
    goes none a ys p new is cs q =
        let own = sym (count_accepts none) in
        let said = p.0 ∙ ap paper own in
        (said, p.1 ∙ ap (λ (b : Answer). written b.note xs) own, q ∙ by ∙ ap (λ (b : Paper). after b.state) said)
      where
        by : add_all counters (cycled f.row old new) ≡ after a.state
        by = rw (row, was, is)

  -- "Any other refusal returns its number with the state given; .. Lent memory stays at every refusal."
  pub count_refused_stays :
      is_none (counted serial xs counters s code).refusal ≡ false
      → ((counted serial xs counters s code).state ≡ s)
      × (written (counted serial xs counters s code).note xs ≡ xs)
      × (counters_after serial xs counters s code ≡ counters)
  unfolding written counted counters_after
  count_refused_stays h =
      let own = told before h in
      (ap (λ (a : Answer). a.state) own, ap (λ (a : Answer). written a.note xs) own, ap (λ (a : Answer). after a.state) own ∙ sym unmoved)
    where
      Told : Answer → Type 0
      Told a = is_none a.refusal ≡ false → a ≡ record { refusal = a.refusal; so = Released; note = Nothing; state = s }

      told : (given : Option Refusal) → Told (refused_or given s (event serial xs s code))
      told None = refusal_told s serial xs code
      told (Some why) = λ n. refl

  -- one for each row, as before
  pub counters_length : length (counters_after serial xs counters s code) ≡ length counters
  unfolding counters_after
  counters_length = adds_length _ counters

  -- what a call leaves: its answer, the lent array and the lent counters
  pub count_sole : (a b : Answer) (ys zs cs ds : List ℕ)
      → CountPromise serial xs counters s code a ys cs
      → CountPromise serial xs counters s code b zs ds
      → (a ≡ b) × (ys ≡ zs) × (cs ≡ ds)
  count_sole a b ys zs cs ds p q = (paper_sole a b (sole p.0 q.0), sole p.1 q.1, sole p.2 q.2)
