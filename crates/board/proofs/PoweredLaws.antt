-- After the board's power-up each chip is what its own power-up gives over its piece, with its serial number, and the board is
-- good if the serials are "eight bytes for each part 5 chip". Assumes nothing.
use Rattle.std.specs.Prelude.{ℕ, zero, suc, ◌+◌, ◌-◌, ◌<◌, ◌≤◌, ◌≡◌, Bool, cond, ◌||◌, List, [], ◌∷◌, ◌++◌, length, take, get_or, Option, Some, None, is_none}
use Rattle.std.proofs.Common.{arith, sym, ap, subst, ◌∙◌, length-append, length-drop, length-take-le, take_at}
use Rattle.std.proofs.Math.Path.{refl}
use Rattle.std.proofs.Math.Bool.{true, false}
use Rattle.std.proofs.Math.Dec.{eqb}
use Rattle.std.proofs.Math.ListN.{drop}
use borrow.Author.Tests.{eqb-false, eq-eqb}
use Rattle.laws.specs.TestLaws.{both, left, right}
use Rattle.parts.specs.Figures.{is_part, fits_serial, in_mask}
use Rattle.pins.specs.declared.state.State.{State}
use Rattle.refusals.specs.declared.refusal.Refusal.{Refusal}
use Rattle.supply.specs.Power as chip
use Rattle.supply.specs.PowerLaws.{power_state}
use Rattle.chip.specs.Run as chip-run
use Rattle.chip.specs.Run.{Chip}
use Rattle.supply.specs.PowerLaws.{power_sound}
use Rattle.board.specs.Chips.{piece_length, serial_length, sum, together, serials_together, pieces, chips_of}
use Rattle.board.specs.Checks.{all_sound}
use Rattle.board.proofs.GoodLaws.{Good}
use Rattle.board.proofs.PieceLaws.{part_length, rest_long}
use Rattle.board.specs.Power.{asked, all_parts, all_masked, together_asked, power_refusal, powered, spare, power_up}
use Rattle.board.proofs.PowerLaws.{Allowed, power_allowed}
use Rattle.board.specs.Run.{chips, from_power_up, serials_asked, share_at, piece_at, serial_at}
use Rattle.board.specs.declared.chips.Board.{Board}
use Rattle.board.specs.declared.power.Asked.{Asked}
use Rattle.board.specs.declared.power.Plan.{Plan}
use Rattle.board.specs.declared.power.PoweredBoard.{PoweredBoard}

-- a chip's power-up over a piece of its length
accepts :
    (a : Asked) (xs : List ℕ) → is_part a.part ≡ true → in_mask a.part a.kept ≡ true
    → length xs ≡ piece_length a.part → (chip.power_up a.part a.kept xs).refusal ≡ None
unfolding chip.power_up chip.power_refusal chip.fill_refusal
accepts a xs part mask long = rw (part, eq-eqb _ _ long, mask)

-- each chip's power-up is accepted
data Accepted : List Asked → List ℕ → Type 0 where
  none : {xs : List ℕ} → Accepted [] xs
  also : {a : Asked} {more : List Asked} {xs : List ℕ} → (chip.power_up a.part a.kept (take (piece_length a.part) xs)).refusal ≡ None
      → Accepted more (drop (piece_length a.part) xs) → Accepted (a ∷ more) xs

inner : (a t n : ℕ) → a + t ≡ n → 0 + a ≤ n
inner a t n e = omega (arith, e)

all_accepted : (qs : List Asked) (xs : List ℕ) → all_parts qs ≡ true → all_masked qs ≡ true → together_asked qs ≡ length xs → Accepted qs xs
unfolding all_parts all_masked sum
all_accepted [] xs p m e = none
all_accepted (a ∷ qs) xs p m e =
    also
    (accepts a (take (piece_length a.part) xs) (left _ (all_parts qs) p) (left _ (all_masked qs) m)
    (part_length xs 0 (piece_length a.part) (inner _ _ _ e)))
    (all_accepted qs (drop (piece_length a.part) xs) (right (is_part a.part) _ p) (right (in_mask a.part a.kept) _ m)
    (rest_long (piece_length a.part) (together_asked qs) xs e))

its_part :
    (a : Asked) (xs : List ℕ) → (chip.power_up a.part a.kept xs).refusal ≡ None
    → (chip.power_up a.part a.kept xs).state.part ≡ a.part
its_part a xs r = ap (λ (s : State). s.part) (power_state a.part a.kept xs r)

-- their parts are those asked for, and so are the lengths that go by the part
powered_together :
    (f : ℕ → ℕ) (qs : List Asked) (xs : List ℕ) → Accepted qs xs → sum (λ s. f s.part) (powered qs xs) ≡ sum (λ a. f a.part) qs
unfolding sum powered
powered_together f [] xs none = refl
powered_together f (a ∷ qs) xs (also r more) = λ i.
    f (its_part a (take (piece_length a.part) xs) r i) + powered_together f qs (drop (piece_length a.part) xs) more i

powered_sound : (qs : List Asked) (xs : List ℕ) → all_sound (powered qs xs) ≡ true
unfolding all_sound powered
powered_sound [] xs = refl
powered_sound (a ∷ qs) xs = both (power_sound a.part a.kept _) (powered_sound qs _)

many_powered : (qs : List Asked) (xs : List ℕ) → length (powered qs xs) ≡ length qs
unfolding powered
many_powered [] xs = refl
many_powered (a ∷ qs) xs = ap suc (many_powered qs _)

-- chip k, as its own power-up gives it
powered_at :
    (qs : List Asked) (xs ns : List ℕ) → Accepted qs xs → (k : ℕ) (a : Asked) (d : Chip) → k < length qs
    → (get_or (pieces (powered qs xs) xs ns) k d
    ≡ chip-run.from_power_up (get_or qs k a).part (get_or qs k a).kept (piece_at qs xs k) (serial_at qs ns k))
    × ((chip.power_up (get_or qs k a).part (get_or qs k a).kept (piece_at qs xs k)).refusal ≡ None)
unfolding pieces powered share_at
powered_at [] xs ns none k a d h = absurd (eqb-false 0 1 refl (omega (arith, h)))
powered_at (q ∷ qs) xs ns (also r more) zero a d h = (
  λ i. record {
    state = (chip.power_up q.part q.kept (take (piece_length q.part) xs)).state;
    array = take (piece_length (its_part q (take (piece_length q.part) xs) r i)) xs;
    serial = take (serial_length (its_part q (take (piece_length q.part) xs) r i)) ns;
  },
  r,
)
powered_at (q ∷ qs) xs ns (also r more) (suc k) a d h =
    let rest = powered_at qs (drop (piece_length q.part) xs) (drop (serial_length q.part) ns) more k a d (omega (arith, h)) in
    let part = its_part q (take (piece_length q.part) xs) r in (
      (λ i. get_or (pieces (powered qs (drop (piece_length q.part) xs)) (drop (piece_length (part i)) xs) (drop (serial_length (part i)) ns)) k d)
          ∙ rest.0,
      rest.1,
    )

-- chip k's share is as long as its part says
share_long :
    (f : ℕ → ℕ) (qs : List Asked) (xs : List ℕ) (k : ℕ) (a : Asked) → k < length qs → sum (λ q. f q.part) qs ≡ length xs
    → length (share_at f qs xs k) ≡ f (get_or qs k a).part
unfolding share_at sum
share_long f [] xs k a h e = absurd (eqb-false 0 1 refl (omega (arith, h)))
share_long f (q ∷ qs) xs zero a h e = part_length xs 0 (f q.part) (inner _ _ _ e)
share_long f (q ∷ qs) xs (suc k) a h e =
    share_long f qs (drop (f q.part) xs) k a (omega (arith, h)) (rest_long (f q.part) (sum (λ a. f a.part) qs) xs e)

-- an accepted power-up of the board: no refusal, the powered chips
module _ (p : Plan) (xs : List ℕ) (fine : (power_up p xs).refusal ≡ None) where
  fits : power_refusal p (length xs) ≡ None
  unfolding power_up
  fits = go (power_refusal p (length xs)) fine
    where
      go : (given : Option Refusal)
          → (cond {A = PoweredBoard} (is_none given) (record { refusal = None; board = record { count = p.count; chips = powered (asked p) xs ++ drop p.count spare } })
          (record { refusal = given; board = record { count = 0; chips = spare } })).refusal ≡ None
          → given ≡ None
      go None r = refl
      go (Some why) r = r

  allowed : Allowed p (length xs)
  allowed = power_allowed p (length xs) fits

  pub powered_board : (power_up p xs).board ≡ record { count = p.count; chips = powered (asked p) xs ++ drop p.count spare }
  unfolding power_up
  powered_board = rw fits

  accepted : Accepted (asked p) xs
  accepted = all_accepted (asked p) xs allowed.parts allowed.masked allowed.long

  -- (eight places is what the plan's type says)
  module _ (eight : length p.chips ≡ 8) where
    many : length (asked p) ≡ p.count
    many = length-take-le p.count p.chips (subst (λ (n : ℕ). p.count ≤ n) (sym eight) allowed.few)

    there : take p.count (powered (asked p) xs ++ drop p.count spare) ≡ powered (asked p) xs
    there = take_at (powered (asked p) xs) (drop p.count spare) p.count (many_powered (asked p) xs ∙ many)

    pub good_powered : (ns : List ℕ) → serials_asked (asked p) ≡ length ns → Good (from_power_up p xs ns)
    good_powered ns own =
        subst (λ (b : Board). Good (record { board = b; slice = xs; serials = ns })) (sym powered_board)
        (record {
          eight =
              length-append (powered (asked p) xs) (drop p.count spare)
              ∙ ap (λ (n : ℕ). n + length (drop p.count spare)) (many_powered (asked p) xs ∙ many)
              ∙ total p.count _ allowed.few (length-drop p.count spare);
          some = allowed.some;
          sound = ap all_sound there ∙ powered_sound (asked p) xs;
          long = ap together there ∙ powered_together piece_length (asked p) xs accepted ∙ allowed.long;
          numbered = ap serials_together there ∙ powered_together serial_length (asked p) xs accepted ∙ own;
        })
      where
        total : (n r : ℕ) → n ≤ 8 → r ≡ 8 - n → n + r ≡ 8
        total n r f d = omega (arith, f, d)

    module _ (ns : List ℕ) (k : ℕ) (a : Asked) (d : Chip) (h : k < p.count) where
      here : k < length (asked p)
      here = subst (λ (n : ℕ). k < n) (sym many) h

      pub powered_chip :
          (get_or (chips (from_power_up p xs ns)) k d
          ≡ chip-run.from_power_up (get_or (asked p) k a).part (get_or (asked p) k a).kept (piece_at (asked p) xs k) (serial_at (asked p) ns k))
          × ((chip.power_up (get_or (asked p) k a).part (get_or (asked p) k a).kept (piece_at (asked p) xs k)).refusal ≡ None)
      powered_chip =
          let at-k = powered_at (asked p) xs ns accepted k a d here in (
            ap (λ (b : Board). get_or (chips_of b xs ns) k d) powered_board
                ∙ ap (λ (ss : List State). get_or (pieces ss xs ns) k d) there
                ∙ at-k.0,
            at-k.1,
          )

      -- the chip doesn't refuse its serial number with 15
      pub powered_serial : serials_asked (asked p) ≡ length ns → fits_serial (get_or (asked p) k a).part (length (serial_at (asked p) ns k)) ≡ true
      powered_serial own = go (eqb (serial_length (get_or (asked p) k a).part) 0) (eq-eqb _ _ (share_long serial_length (asked p) ns k a here own))
        where
          go : (t : Bool) {u : Bool} → u ≡ true → (t || u) ≡ true
          go true e = refl
          go false e = e
