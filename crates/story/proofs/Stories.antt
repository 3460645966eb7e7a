-- The story, read by read: a number is told and the story goes on from the place after it; "end", a number that cannot be read
-- and a refusal end it. Then the start. Assumes nothing.
use Rattle.std.specs.Prelude.{◌≡◌, refl, true, false, eqb, Some, None, is_none, Result, Ok, Err, List, ◌∷◌, ℕ, zero, suc, ◌-◌, ◌<◌, ◌≤◌, length, take, replicate}
use Rattle.std.proofs.Common.{sym, ap, ◌∙◌, arith, ne_eqb}
use native.Mathlib.Nat.{le_of_suc-le-suc, not-suc-le-zero}
use Rattle.trace.specs.Answers.{Value, num, end, number_read, ended, refused_at, read_told}
use Rattle.trace.specs.Number.{reading}
use Rattle.trace.specs.NumberLaws.{forward}
use Rattle.trace.specs.Promises.{ReadPromise}
use Rattle.trace.specs.declared.answer.Read.{Read}
use Rattle.trace.specs.declared.answer.Read.TheVariants.{Number, End}
use Rattle.trace.specs.declared.answer.Refused.{Refused}
use Rattle.refusals.specs.Refusals.{number_of}
use Rattle.refusals.specs.declared.refusal.Refusal.{Refusal}
use Rattle.refusals.specs.declared.refusal.Refusal.TheVariants.{NoPart, ArrayLength, KeptBits, Unsound, NoEvent, HoldWithSck, HoldWithCs, Malformed, TooLarge, Beyond, NoRoom, FewAnswers, ChipCount, NoChip, SerialLength, CounterCount}
use Rattle.parts.specs.Figures.{figure_of}
use Rattle.parts.specs.FigureLaws.{most, largest}
use Rattle.parts.specs.declared.figures.Figure.{Figure}
use Rattle.pins.specs.declared.state.State.{State}
use Rattle.supply.specs.Power.{power_up, fresh, filled}
use Rattle.supply.specs.declared.power.Powered.{Powered}
use Rattle.report.specs.Page.{Page, printed}
use Rattle.report.specs.Prints.{Prints, page_in}
use Rattle.turns.specs.Stand.{no_event}
use Rattle.report.specs.declared.page.Page.{Page as Sheet}
use Rattle.turns.specs.declared.stand.Stand.{Stand}
use Rattle.turns.specs.declared.turn.Bench.{Bench as Lent}
use Rattle.report.proofs.Pages.{left_on, ◌then◌}
use Rattle.bench.specs.Head.{head_of}
use Rattle.bench.specs.declared.head.Head.{Head}
use Rattle.bench.specs.declared.head.NoHead.{NoHead}
use Rattle.words.specs.Lines.{power_line, refused_line}
use Rattle.story.specs.Scene.{Scene, scene_of, item_scene, item_text}
use Rattle.story.specs.Story.{end_text, read_text, goes_on, story_in, story_from, left_text, not_powered, from_power, powered_text, story}

module _ (s : List ℕ) where
  -- only what is told further on counts
  alike : (at : ℕ) (b : Scene) (f g : ℕ → Scene → List ℕ) → ((n next : ℕ) → reading s at ≡ number_read n next → (x : Scene) → f next x ≡ g next x)
      → read_text (reading s at) at b f ≡ read_text (reading s at) at b g
  alike at b f g h = go (reading s at).refusal (reading s at).value (reading s at).place refl
    where
      go : (row : ℕ) (v : Value) (p : ℕ) → reading s at ≡ record { refusal = row; value = v; place = p }
          → read_text (record { refusal = row; value = v; place = p }) at b f ≡ read_text (record { refusal = row; value = v; place = p }) at b g
      go zero (num n) p e = rw (h n p e (item_scene b n))
      go zero end p e = refl
      go (suc row) v p e = rw (ne_eqb (suc row) 0 (λ h. omega arith))

  enough : (j k at : ℕ) (b : Scene) → length s - at < j → length s - at < k → story_in j s at b ≡ story_in k s at b
  enough zero k at b p q = absurd (not-suc-le-zero p)
  enough (suc j) zero at b p q = absurd (not-suc-le-zero q)
  enough (suc j) (suc k) at b p q =
      alike at b (story_in j s) (story_in k s) (λ n next e x. let m = forward s at n next e in enough j k next x (omega arith) (omega arith))

  story_on : (at : ℕ) (b : Scene) → story_from s at b ≡ read_text (reading s at) at b (story_from s)
  unfolding story_from
  story_on at b =
      alike at b (story_in (length s - at) s) (story_from s)
      (λ n next e x. let m = forward s at n next e in enough (length s - at) (suc (length s - next)) next x (omega arith) (omega arith))

some_row : (why : Refusal) → eqb (number_of why) 0 ≡ false
some_row NoPart = refl
some_row ArrayLength = refl
some_row KeptBits = refl
some_row Unsound = refl
some_row NoEvent = refl
some_row HoldWithSck = refl
some_row HoldWithCs = refl
some_row Malformed = refl
some_row TooLarge = refl
some_row Beyond = refl
some_row NoRoom = refl
some_row FewAnswers = refl
some_row ChipCount = refl
some_row NoChip = refl
some_row SerialLength = refl
some_row CounterCount = refl

-- what a refusal stopped has its end to tell
pub left_stays : (s : List ℕ) (at : ℕ) (t : Lent) (p : Page) → is_none t.refusal ≡ false
    → printed p (end_text t.stand t.array.now) ≡ printed p (left_text s at (scene_of t))
unfolding left_text
left_stays s at t p h = rw h

module _ (s : List ℕ) (at : ℕ) (found : Result Read Refused) (t : Lent) (read : ReadPromise s at found) (on : t.refusal ≡ None) where
  goes : is_none t.refusal ≡ true
  goes = ap is_none on

  pub left_number : (n next : ℕ) (r : Lent) (p q : Sheet) → found ≡ Ok (Number n next)
      → scene_of r ≡ item_scene (scene_of t) n → Prints p (item_text (scene_of t) at n) q
      → printed (page_in q) (left_text s next (scene_of r)) ≡ printed (page_in p) (left_text s at (scene_of t))
  unfolding left_text
  left_number n next r p q is scene x =
      let e : reading s at ≡ number_read n next = sym read ∙ ap read_told is in
      left_on p q (item_text (scene_of t) at n) (goes_on (story_from s) next (scene_of r)) (goes_on (story_from s) at (scene_of t))
      (rw (goes, story_on s at (scene_of t), e, ← scene)) x

  pub left_end : (place : ℕ) (p : Page) → found ≡ Ok (End place)
      → printed p (end_text t.stand t.array.now) ≡ printed p (left_text s at (scene_of t))
  unfolding left_text
  left_end place p is =
      let e : reading s at ≡ ended place = sym read ∙ ap read_told is in
      rw (goes, story_on s at (scene_of t), e)

  pub left_refused : (why : Refused) (p q : Sheet) → found ≡ Err why → Prints p (refused_line at (number_of why.refusal)) q
      → printed (page_in q) (end_text t.stand t.array.now) ≡ printed (page_in p) (left_text s at (scene_of t))
  unfolding left_text
  left_refused why p q is x =
      let e : reading s at ≡ refused_at (number_of why.refusal) why.at = sym read ∙ ap read_told is in
      left_on p q (refused_line at (number_of why.refusal)) (end_text t.stand t.array.now) (goes_on (story_from s) at (scene_of t))
      (rw (goes, story_on s at (scene_of t), e, some_row why.refusal)) x

take_replicate : (n m a : ℕ) → n ≤ m → take n (replicate m a) ≡ replicate n a
take_replicate zero m a h = refl
take_replicate (suc n) zero a h = absurd (not-suc-le-zero h)
take_replicate (suc n) (suc m) a h = ap (λ (l : List ℕ). a ∷ l) (take_replicate n m a (le_of_suc-le-suc h))

-- the first line, the items, and the end
pub from_power_told :
    (s : List ℕ) (lead : Head) (chip : State) (xs : List ℕ) (f : Figure) (stand : Stand) (p q r z : Sheet) (last : List ℕ)
    → f ≡ figure_of lead.part → stand ≡ no_event chip → Prints p (power_line lead.part f.size chip.kept) q
    → r.out.ghost_name ≡ q.out.ghost_name
    → printed (page_in r) last ≡ printed (page_in q) (left_text s lead.items (record { refusal = None; stand = stand; array = xs }))
    → Prints r last z → Prints p (from_power s lead chip xs) z
unfolding from_power
from_power_told s lead chip xs f stand p q r z last row new first slice items ends =
    rw (← row, ← new) (first then record { same_slice = ends.same_slice ∙ slice; page = ends.page ∙ items })

-- power-up, by what fill and power-up leave
module _ (s : List ℕ) (lead : Head) (xs ys : List ℕ) (up : Powered) (p q : Sheet) (all-fresh : ys ≡ filled lead.part fresh xs)
    (power : up ≡ power_up lead.part lead.kept ys) where
  pub power_refused : (why : Refusal) → up.refusal ≡ Some why → Prints p (not_powered why) q → Prints p (powered_text s lead xs) q
  unfolding powered_text
  power_refused why h x = rw (← all-fresh, ← power, h) x

  pub power_accepted : up.refusal ≡ None → Prints p (from_power s lead up.state ys) q → Prints p (powered_text s lead xs) q
  unfolding powered_text
  power_accepted on x = rw (← all-fresh, ← power, on) x

-- the whole story, by what is read of the numbers that lead the trace
module _ (s : List ℕ) (led : Result Head NoHead) (p q : Sheet) (is : led ≡ head_of s) where
  pub story_not : (why : NoHead) → led ≡ Err why → Prints p (not_powered why.refusal) q → Prints p (story s) q
  unfolding story
  story_not why h x = rw (← is, h) x

  pub story_led : (lead : Head) (f : Figure) → led ≡ Ok lead → f ≡ figure_of lead.part
      → Prints p (powered_text s lead (take f.size (replicate most 0))) q → Prints p (story s) q
  unfolding story
  story_led lead f h row x =
      let size : take {A = ℕ} f.size (replicate most 0) ≡ replicate (figure_of lead.part).size 0 =
      rw (row, take_replicate (figure_of lead.part).size most 0 (largest lead.part)) in
      rw (← is, h, ← size) x
