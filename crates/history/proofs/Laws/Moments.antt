-- A run, event by event: the chip stays sound, its array keeps its length, so the checks before a step never refuse, and it
-- agrees with the history at every moment. Assumes nothing.
use Rattle.std.specs.Prelude.{ℕ, suc, ◌≤◌, Bool, cond, not, List, [], ◌∷◌, ◌++◌, ◌≡◌, length, eqb, Err}
use Rattle.std.proofs.Common.{arith, sym, ◌∙◌}
use Rattle.std.proofs.Math.Bool.{true, false}
use Rattle.std.proofs.Math.Path.{refl, ap}
use Rattle.std.proofs.Math.Dec.{leb}
use borrow.Author.Tests.{leb-true, eq-eqb, ne_eqb}
use Rattle.parts.specs.FigureLaws.{Fair, fair}
use Rattle.parts.specs.Figures.{figure_of, is_part, in_mask, fits_serial}
use Rattle.pins.specs.Levels.{at_rest}
use Rattle.refusals.specs.declared.refusal.Refusal.TheVariants.{NoEvent}
use Rattle.chip.proofs.EventLaws.{event_steps, checks_none}
use Rattle.step.specs.Step.{step, live, written}
use Rattle.chip.specs.Event.{answer_of, checks, event}
use Rattle.chip.specs.Run.{Chip, powered_up, answered, next, run}
use Rattle.chip.proofs.RunLaws.{next_length, next_sound}
use Rattle.pins.specs.SoundLaws.{rest_sound}
use Rattle.pins.specs.Sound.{sound}
use Rattle.pins.specs.declared.hold.Hold.TheVariants.{High}
use Rattle.stages.specs.declared.stage.Line.TheVariants.{Down, Up}
use Rattle.stages.specs.declared.stage.Stage.TheVariants.{Closed}
use Rattle.pins.specs.declared.state.State.{State}
use Rattle.chip.specs.declared.event.Answer.{Answer}
use Rattle.history.specs.Wire.{Wire, rest, refusal, after_one, after_all, act, acts, passes}
use Rattle.history.specs.History.{World, history}
use Rattle.history.specs.Run.{world_of}
use Rattle.history.proofs.Laws.Place.{Place, outside, world_at, place_after, base, from, from_now, from_next}
use Rattle.history.proofs.Laws.Select.{closed, select_world}
use Rattle.history.proofs.Laws.Step.{Agrees, off, on, unlatched, off_chip, Onward, follows, refuses}

-- an event that the checks let through, and one that they don't know
module _
    (own xs : List ℕ) (s : State) (good : sound s ≡ true) (fits : length xs ≡ (figure_of s.part).size)
    (takes : fits_serial s.part (length own) ≡ true) (code : ℕ)
  where
    event_step : leb 12 code ≡ false → event own xs s code ≡ answer_of s (step (figure_of s.part) own xs s code)
    event_step e = event_steps own xs s code (checks_none own xs s code good (eq-eqb _ _ fits) takes e)

    event_unknown : leb 12 code ≡ true → event own xs s code ≡ answer_of s (Err NoEvent)
    unfolding event checks
    event_unknown e = rw (good, eq-eqb _ _ fits, takes, e)

either_way : {A : Type 0} (t : Bool) (a : A) → cond t a a ≡ a
either_way true a = refl
either_way false a = refl

unknown_stays : (l : Wire) (code : ℕ) → leb 12 code ≡ true → after_one l code ≡ l
unfolding after_one refusal
unknown_stays l code e = rw e

unknown_passes : (l : Wire) (code : ℕ) → leb 12 code ≡ true → act l code ≡ passes
unfolding act
unknown_passes l code e =
    rw (other 10 (omega arith), other 0 (omega arith), other 1 (omega arith), other 3 (omega arith), other 2 (omega arith)) (either_way (not l.power) passes)
  where
    large : 12 ≤ code
    large = leb-true 12 code e

    other : (k : ℕ) → suc k ≤ 12 → eqb code k ≡ false
    other k h = ne_eqb code k (λ q. omega (arith, large))

-- a moment of a run
pub record Moment (part : ℕ) (l : Wire) (p : Place) (w : World) (c : Chip) : Type 0 where
  pub agrees : Agrees part l p w c
  pub good : sound c.state ≡ true
  pub fits : length c.array ≡ (figure_of part).size
  pub takes : fits_serial part (length c.serial) ≡ true

-- the chip is the part's
pub own_part : {part : ℕ} {l : Wire} {p : Place} {w : World} {c : Chip} → Agrees part l p w c → c.state.part ≡ part
own_part (off own kept array) = refl
own_part (on own p w v sck si wp hold stage s) = refl

world_of_lem :
    {part : ℕ} {l : Wire} {p : Place} {w : World} {c : Chip} → Agrees part l p w c
    → world_of c ≡ world_at (figure_of part) w p
unfolding world_at
world_of_lem (off own kept array) = refl
world_of_lem {part} (on own p w v sck si wp hold stage s) = select_world (figure_of part) w s

module _ (part : ℕ) (fair : Fair (figure_of part)) {l : Wire} {p : Place} {w : World} {c : Chip} (m : Moment part l p w c) where
  sized : length c.array ≡ (figure_of c.state.part).size
  sized = rw (own_part m.agrees) m.fits

  numbered : fits_serial c.state.part (length c.serial) ≡ true
  numbered = rw (own_part m.agrees) m.takes

  event_own : (code : ℕ) → leb 12 code ≡ false → event c.serial c.array c.state code ≡ answer_of c.state (step (figure_of part) c.serial c.array c.state code)
  event_own code e =
      event_step c.serial c.array c.state m.good sized numbered code e
      ∙ ap (λ (k : ℕ). answer_of c.state (step (figure_of k) c.serial c.array c.state code)) (own_part m.agrees)

  pub next_steps :
      (code : ℕ) → leb 12 code ≡ false
      → next c code ≡ answered c (answer_of c.state (step (figure_of part) c.serial c.array c.state code))
  unfolding next
  next_steps code e = ap (answered c) (event_own code e)

  next_stays : (code : ℕ) → leb 12 code ≡ true → next c code ≡ c
  unfolding next written
  next_stays code e = ap (answered c) (event_unknown c.serial c.array c.state m.good sized numbered code e)

  agrees_next : (code : ℕ) → Onward part l p w code (next c code)
  unfolding place_after base
  agrees_next code = go (leb 12 code) refl
    where
      go : (t : Bool) → leb 12 code ≡ t → Onward part l p w code (next c code)
      go true e = rw (next_stays code e, unknown_stays l code e, unknown_passes l code e) m.agrees
      go false e = rw (next_steps code e) (follows part fair code e m.agrees)

  pub refusal_as : (code : ℕ) → (event c.serial c.array c.state code).refusal ≡ refusal l code
  unfolding refusal
  refusal_as code = go (leb 12 code) refl
    where
      go : (t : Bool) → leb 12 code ≡ t → (event c.serial c.array c.state code).refusal ≡ refusal l code
      go true e = rw (event_unknown c.serial c.array c.state m.good sized numbered code e, e)
      go false e = ap (λ (a : Answer). a.refusal) (event_own code e) ∙ refuses part code e m.agrees

  pub moment_next :
      (code : ℕ)
      → Moment part (after_one l code) (place_after (figure_of part) p (act l code)) (base (figure_of part) w p (act l code)) (next c code)
  unfolding next
  moment_next code =
      record {
        agrees = agrees_next code;
        good = next_sound c code m.good;
        fits = next_length c code ∙ m.fits;
        takes = m.takes;
      }

-- where a run leads
pub record Reached (part : ℕ) (l : Wire) (p : Place) (w : World) (c : Chip) (codes : List ℕ) : Type 0 where
  pub place : Place
  pub before : World
  pub moment : Moment part (after_all l codes) place before (run c codes)
  pub told : from (figure_of part) w p (acts l codes) ≡ world_at (figure_of part) before place

pub reached :
    (part : ℕ) → Fair (figure_of part) → {l : Wire} {p : Place} {w : World} {c : Chip} → Moment part l p w c → (codes : List ℕ)
    → Reached part l p w c codes
unfolding run acts after_all
reached part fair {l} {p} {w} {c} m [] =
    record { place = p; before = w; moment = m; told = from_now (figure_of part) w p }
reached part fair {l} {p} {w} {c} m (code ∷ codes) =
    let r =
    reached part fair {l = after_one l code} {p = place_after (figure_of part) p (act l code)}
    {w = base (figure_of part) w p (act l code)} {c = next c code} (moment_next part fair m code) codes
    in
    record {
      place = r.place;
      before = r.before;
      moment = r.moment;
      told = from_next (figure_of part) w p (act l code) (acts (after_one l code) codes) ∙ r.told;
    }

-- from power-up on
pub started :
    (part kept : ℕ) (array own : List ℕ) → is_part part ≡ true → in_mask part kept ≡ true → length array ≡ (figure_of part).size
    → fits_serial part (length own) ≡ true
    → Moment part (rest true) (outside false) (unlatched kept array) (powered_up part kept array own)
started part kept array own one under fits takes =
    record {
      agrees = on own (outside false) (unlatched kept array) (unlatched kept array) false Down Up High Closed (closed false);
      good = rest_sound part kept true one under;
      fits = fits;
      takes = takes;
    }

pub reached_from :
    (part kept : ℕ) (array own : List ℕ) → is_part part ≡ true → in_mask part kept ≡ true → length array ≡ (figure_of part).size
    → fits_serial part (length own) ≡ true
    → (codes : List ℕ) → Reached part (rest true) (outside false) (unlatched kept array) (powered_up part kept array own) codes
reached_from part kept array own one under fits takes = reached part (fair part one) (started part kept array own one under fits takes)

pub world_told :
    (part kept : ℕ) (array own codes : List ℕ) → Reached part (rest true) (outside false) (unlatched kept array) (powered_up part kept array own) codes
    → world_of (run (powered_up part kept array own) codes) ≡ history part kept array codes
unfolding history from
world_told part kept array own codes r = world_of_lem r.moment.agrees ∙ sym r.told

pub run_append : (c : Chip) (codes more : List ℕ) → run c (codes ++ more) ≡ run (run c codes) more
unfolding run
run_append c [] more = refl
run_append c (code ∷ codes) more = run_append (next c code) codes more

-- the cut and the return of power
cut_dark : {part : ℕ} {l : Wire} {p : Place} {w : World} {c : Chip} → Agrees part l p w c
    → answered c (answer_of c.state (step (figure_of part) c.serial c.array c.state 10)) ≡ off_chip part c.serial c.state.kept c.array
unfolding step live written
cut_dark (off own kept array) = refl
cut_dark (on own p w v sck si wp hold stage s) = refl

pub cut_leaves : (part : ℕ) → Fair (figure_of part) → {l : Wire} {p : Place} {w : World} {c : Chip} → Moment part l p w c
    → run c (10 ∷ 11 ∷ []) ≡ record { state = at_rest part c.state.kept true; array = c.array; serial = c.serial }
unfolding run step written
cut_leaves part fair {c = c} m =
    next_steps part fair (moment_next part fair m 10) 11 refl
    ∙ ap (λ (d : Chip). answered d (answer_of d.state (step (figure_of part) d.serial d.array d.state 11)))
    (next_steps part fair m 10 refl ∙ cut_dark m.agrees)
