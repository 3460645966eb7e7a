-- A board that no refusal of its own stands against stays so: its chips are sound, and each has its piece. Assumes nothing.
use Rattle.std.specs.Prelude.{ℕ, zero, suc, ◌+◌, ◌-◌, ◌≤◌, ◌≡◌, refl, Bool, true, false, cond, ◌&&◌, List, [], ◌∷◌, ◌++◌, leb, length, drop, Option, Some, None, is_none}
use Rattle.std.proofs.Common.{arith, sym, ap, subst, ◌∙◌, length-append, length-drop, length-take-le, drop_at, eq-eqb}
use Rattle.laws.specs.TestLaws.{both, left, right}
use Rattle.pins.specs.Sound.{sound}
use Rattle.pins.specs.declared.state.State.{State}
use Rattle.refusals.specs.declared.refusal.Refusal.{Refusal}
use Rattle.refusals.specs.declared.refusal.Refusal.TheVariants.{NoEvent, NoChip}
use Rattle.supply.specs.CheckedLaws.{none_given}
use Rattle.chip.specs.Run.{Chip}
use Rattle.chip.proofs.RunLaws.{next_sound}
use Rattle.board.specs.Chips.{fitted, together, serials_together, pieces, states, slice, with_chips}
use Rattle.board.specs.Checks.{is_own, no_board, all_sound, checks}
use Rattle.board.proofs.CheckLaws.{few, checks_passed}
use Rattle.board.specs.Event as event
use Rattle.board.specs.Event.{every, at, moved}
use Rattle.board.proofs.EventLaws.{event_refused, event_left, by_checks, many_pieces, many_every, many_at, many_states, fitted_with}
use Rattle.board.proofs.FitLaws.{Fit, again, pieces_fit, every_fits, at_fits, long_fit}
use Rattle.board.proofs.PieceLaws.{states_of}
use Rattle.board.specs.Run.{Held, chips, Sent, refusal_of, next}
use Rattle.board.specs.declared.chips.Board.{Board}

-- only 14, 5, 6 and 7 can come
pub record Good (h : Held) : Type 0 where
  pub eight : length h.board.chips ≡ 8
  pub some : no_board h.board.count ≡ false
  pub sound : all_sound (fitted h.board) ≡ true
  pub long : together (fitted h.board) ≡ length h.slice
  pub numbered : serials_together (fitted h.board) ≡ length h.serials

abbrev pub late_checks : ℕ → ℕ → ℕ → Option Refusal
late_checks count k code = cond (is_own code && leb count k) (Some NoChip) (cond (leb 12 code) (Some NoEvent) None)

pub good_checks :
    (h : Held) (k code : ℕ) → Good h
    → checks h.board (length h.slice) (length h.serials) k code ≡ late_checks h.board.count k code
unfolding checks
good_checks h k code g = rw (g.some, g.sound, eq-eqb _ _ (sym g.long), eq-eqb _ _ (sym g.numbered))

-- what is left on a board: these chips
abbrev pub put : Held → List Chip → Held
put h cs = record { board = with_chips h.board cs; slice = slice cs; serials = h.serials }

module _ (h : Held) (e : Sent) where
  pub next_stays : is_none (refusal_of h e) ≡ false → next h e ≡ h
  unfolding next
  next_stays r = λ i. record { board = (out i).board; slice = (out i).slice; serials = h.serials }
    where
      out : event.event h.serials h.slice h.board e.chip e.code ≡ event.refused (refusal_of h e) h.board h.slice
      out = event_refused h.serials h.slice h.board e.chip e.code r

  pub next_put : refusal_of h e ≡ None → next h e ≡ put h (moved e.chip e.code (chips h))
  unfolding next
  next_put r = λ i. record { board = (out i).board; slice = (out i).slice; serials = h.serials }
    where
      out : event.event h.serials h.slice h.board e.chip e.code ≡ event.left h.board (moved e.chip e.code (chips h))
      out = event_left h.serials h.slice h.board e.chip e.code r

  -- an accepted event passed the checks
  pub accepted_passed : refusal_of h e ≡ None → checks h.board (length h.slice) (length h.serials) e.chip e.code ≡ None
  accepted_passed r = go (is_none (checks h.board (length h.slice) (length h.serials) e.chip e.code)) refl
    where
      go :
          (t : Bool) → is_none (checks h.board (length h.slice) (length h.serials) e.chip e.code) ≡ t
          → checks h.board (length h.slice) (length h.serials) e.chip e.code ≡ None
      go true p = none_given _ p
      go false p = sym (by_checks h.serials h.slice h.board e.chip e.code p) ∙ r

-- every chip sound, every chip in its place
sounds_every : (code : ℕ) (cs : List Chip) → all_sound (states cs) ≡ true → all_sound (states (every code cs)) ≡ true
unfolding states every all_sound
sounds_every code [] s = refl
sounds_every code (c ∷ cs) s =
    both (next_sound c code (left (sound c.state) (all_sound (states cs)) s)) (sounds_every code cs (right (sound c.state) (all_sound (states cs)) s))

sounds_at : (k code : ℕ) (cs : List Chip) → all_sound (states cs) ≡ true → all_sound (states (at k code cs)) ≡ true
unfolding states at all_sound
sounds_at k code [] s = refl
sounds_at zero code (c ∷ cs) s =
    both (next_sound c code (left (sound c.state) (all_sound (states cs)) s)) (right (sound c.state) (all_sound (states cs)) s)
sounds_at (suc k) code (c ∷ cs) s =
    both (left (sound c.state) (all_sound (states cs)) s) (sounds_at k code cs (right (sound c.state) (all_sound (states cs)) s))

-- chips that are put on a board are there
module _ (h : Held) (cs : List Chip) (many : length cs ≡ h.board.count) where
  abbrev b : Board
  b = h.board

  pub put_chips : Fit h.serials cs → chips (put h cs) ≡ cs
  put_chips fits = ap (λ (ss : List State). pieces ss (slice cs) h.serials) (fitted_with b cs many) ∙ again h.serials cs fits

  put_places : b.count ≤ 8 → length b.chips ≡ 8 → length (with_chips b cs).chips ≡ 8
  put_places few eight =
      length-append (states cs) (drop b.count b.chips)
      ∙ ap (λ (n : ℕ). n + length (drop b.count b.chips)) (many_states cs ∙ many)
      ∙ total b.count (length b.chips) _ few eight (length-drop b.count b.chips)
    where
      total : (n m r : ℕ) → n ≤ 8 → m ≡ 8 → r ≡ m - n → n + r ≡ 8
      total n m r f e d = omega (arith, f, e, d)

  pub put_put : (ds : List Chip) → put (put h cs) ds ≡ put h ds
  put_put ds = λ i.
      record {
        board =
            record {
              count = b.count;
              chips = states ds ++ drop_at (states cs) (drop b.count b.chips) b.count (many_states cs ∙ many) i;
            };
        slice = slice ds;
        serials = h.serials;
      }

  pub good_put : no_board b.count ≡ false → length b.chips ≡ 8 → Fit h.serials cs → all_sound (states cs) ≡ true → Good (put h cs)
  good_put some eight fits s =
      record {
        eight = put_places (few b.count some) eight;
        some = some;
        sound = ap all_sound (fitted_with b cs many) ∙ s;
        long = ap together (fitted_with b cs many) ∙ (long_fit h.serials cs fits).0;
        numbered = ap serials_together (fitted_with b cs many) ∙ (long_fit h.serials cs fits).1;
      }

-- the chips of a good board, moved
module _ (h : Held) (g : Good h) where
  places : h.board.count ≤ length h.board.chips
  places = subst (λ (n : ℕ). h.board.count ≤ n) (sym g.eight) (few h.board.count g.some)

  pub many : length (chips h) ≡ h.board.count
  many = many_pieces (fitted h.board) h.slice h.serials ∙ length-take-le h.board.count h.board.chips places

  fit : Fit h.serials (chips h)
  fit = pieces_fit (fitted h.board) h.slice h.serials g.long g.numbered

  sounds : all_sound (states (chips h)) ≡ true
  sounds = ap all_sound (states_of (fitted h.board) h.slice h.serials) ∙ g.sound

  pub many_moved : (k code : ℕ) → length (moved k code (chips h)) ≡ h.board.count
  many_moved k code = go (is_own code)
    where
      go : (t : Bool) → length (cond t (at k code (chips h)) (every code (chips h))) ≡ h.board.count
      go true = many_at k code (chips h) ∙ many
      go false = many_every code (chips h) ∙ many

  fit_moved : (k code : ℕ) → Fit h.serials (moved k code (chips h))
  fit_moved k code = go (is_own code)
    where
      go : (t : Bool) → Fit h.serials (cond t (at k code (chips h)) (every code (chips h)))
      go true = at_fits h.serials k code (chips h) fit
      go false = every_fits h.serials code (chips h) fit

  sounds_moved : (k code : ℕ) → all_sound (states (moved k code (chips h))) ≡ true
  sounds_moved k code = go (is_own code)
    where
      go : (t : Bool) → all_sound (states (cond t (at k code (chips h)) (every code (chips h)))) ≡ true
      go true = sounds_at k code (chips h) sounds
      go false = sounds_every code (chips h) sounds

  pub moved_chips : (e : Sent) → refusal_of h e ≡ None → chips (next h e) ≡ moved e.chip e.code (chips h)
  moved_chips e r =
      ap chips (next_put h e r)
      ∙ put_chips h (moved e.chip e.code (chips h)) (many_moved e.chip e.code) (fit_moved e.chip e.code)

  -- accepted or refused, a good board stays good
  pub good_next : (e : Sent) → Good (next h e)
  good_next e = go (is_none (refusal_of h e)) refl
    where
      go : (t : Bool) → is_none (refusal_of h e) ≡ t → Good (next h e)
      go true p =
          subst Good (sym (next_put h e (none_given _ p)))
          (good_put h (moved e.chip e.code (chips h)) (many_moved e.chip e.code) g.some g.eight
          (fit_moved e.chip e.code) (sounds_moved e.chip e.code))
      go false p = subst Good (sym (next_stays h e p)) g

-- a board that an event was accepted on is good
pub good_from : (h : Held) (e : Sent) → length h.board.chips ≡ 8 → refusal_of h e ≡ None → Good h
good_from h e eight r =
    let passed = checks_passed h.board (length h.slice) (length h.serials) e.chip e.code (accepted_passed h e r) in
    record { eight = eight; some = passed.some; sound = passed.sound; long = passed.long; numbered = passed.numbered }
