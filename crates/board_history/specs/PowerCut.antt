-- "Demand 3 then holds for each chip over the events it sees." The history's theorem, for chip k of a board: the events that it
-- sees are `seen k`, its run among the others is its own run over those. Assumes nothing.
use Prim.Native.Nat.{ℕ, ◌/◌, ◌<◌, ◌≤◌}
use Rattle.std.proofs.Common.{arith, sym, subst, ◌∙◌, lit≤, eqb-true}
use Rattle.std.specs.Prelude.{Bool, true, false, cond, ◌||◌, ◌≡◌, refl, eqb, leb, length, get_or, take, None}
use mathlib.Core.List.{List, [], ◌∷◌, ◌++◌}
use Rattle.std.proofs.Math.Path.{ap}
use Rattle.std.proofs.lemmas.Bool.{lt-leb}
use Rattle.std.proofs.Math.Seq.{take-length}
use Rattle.parts.specs.Figures.{fits_serial}
use Rattle.supply.specs.Power as chip
use Rattle.chip.specs.Run as chip-run
use Rattle.chip.proofs.RunLaws.{run_serial}
use Rattle.chip.specs.Run.{Chip, powered_up}
use Rattle.history.specs.History.{history}
use Rattle.chip.specs.Event.{event}
use Rattle.history.proofs.PowerCut.{every_moment, power_cut, refused_alike}
use Rattle.history.specs.Run.{world_of}
use Rattle.history.specs.Wire.{rest, refusal, after_all}
use Rattle.board.specs.Checks.{is_own}
use Rattle.board.proofs.GoodLaws.{Good}
use Rattle.board.specs.Power.{asked, power_up}
use Rattle.board.proofs.PoweredLaws.{powered_board, good_powered, powered_chip, powered_serial}
use Rattle.board.specs.Run.{chips, Held, Sent, refusal_of, run, from_power_up, serials_asked, piece_at, serial_at, sees, seen}
use Rattle.board.proofs.SeenLaws.{run_seen, own_refusal, good_run, run_count}
use Rattle.board.specs.declared.chips.Board.{Board}
use Rattle.board.specs.declared.power.Asked.{Asked}
use Rattle.board.specs.declared.power.Plan.{Plan}

seen_append : (k : ℕ) (es fs : List Sent) → seen k (es ++ fs) ≡ seen k es ++ seen k fs
unfolding seen
seen_append k [] fs = refl
seen_append k (e ∷ es) fs = go (sees k e) (seen_append k es fs)
  where
    go : (t : Bool) → seen k (es ++ fs) ≡ seen k es ++ seen k fs
        → cond t (e.code ∷ seen k (es ++ fs)) (seen k (es ++ fs)) ≡ cond t (e.code ∷ seen k es) (seen k es) ++ seen k fs
    go true more = ap (λ (cs : List ℕ). e.code ∷ cs) more
    go false more = more

-- an own line's code is an event
own_known : (code : ℕ) → is_own code ≡ true → leb 12 code ≡ false
unfolding is_own
own_known code = go (eqb (code / 2) 0) (eqb (code / 2) 3) refl refl
  where
    small : (n : ℕ) → n ≤ 3 → code / 2 ≡ n → code < 12
    small n h e = omega (arith, h, e)

    go : (a b : Bool) → eqb (code / 2) 0 ≡ a → eqb (code / 2) 3 ≡ b → (a || b) ≡ true → leb 12 code ≡ false
    go true b p q h = lt-leb 12 code (small 0 (lit≤ tt) (eqb-true _ _ p))
    go false true p q h = lt-leb 12 code (small 3 (lit≤ tt) (eqb-true _ _ q))
    go false false p q h = cc

-- VDD is a shared line: every chip sees its supply cut and returned, whatever chip the event names
abbrev pub cut : ℕ → Sent
cut j = record { chip = j; code = 10 }

abbrev pub return : ℕ → Sent
return j = record { chip = j; code = 11 }

-- chip k of the board that plan p powers up over the slice xs, lent these serials, and the events es
module _
    (p : Plan) (xs serials : List ℕ) (es : List Sent) (accepted : (power_up p xs).refusal ≡ None) (numbered : serials_asked (asked p) ≡ length serials)
    (eight : length p.chips ≡ 8) (k : ℕ) (there : k < p.count) (a : Asked) (d : Chip)
  where
    -- its part, its kept bits, its piece of the slice at power-up and its serial number
    abbrev pub part : ℕ
    part = (get_or (asked p) k a).part

    abbrev pub kept : ℕ
    kept = (get_or (asked p) k a).kept

    abbrev pub piece : List ℕ
    piece = piece_at (asked p) xs k

    abbrev pub serial : List ℕ
    serial = serial_at (asked p) serials k

    abbrev pub start : Held
    start = from_power_up p xs serials

    abbrev alone : Chip
    alone = chip-run.from_power_up part kept piece serial

    good : Good start
    good = good_powered p xs accepted eight serials numbered

    its_run : (fs : List Sent) → get_or (chips (run start fs)) k d ≡ chip-run.run alone (seen k fs)
    its_run fs =
        run_seen start good k (subst (λ (b : Board). k < b.count) (sym (powered_board p xs accepted)) there) d fs
        ∙ ap (λ (c : Chip). chip-run.run c (seen k fs)) (powered_chip p xs accepted eight serials k a d there).0

    fine : (chip.power_up part kept piece).refusal ≡ None
    fine = (powered_chip p xs accepted eight serials k a d there).1

    takes : fits_serial part (length serial) ≡ true
    takes = powered_serial p xs accepted eight serials k a d there numbered

    -- At every moment, with power on or off, its latch, its kept bits and its piece are the history's over the events it sees.
    pub board_every_moment : world_of (get_or (chips (run start es)) k d) ≡ history part kept piece (seen k es)
    board_every_moment = ap world_of (its_run es) ∙ every_moment part kept piece serial (seen k es) fine takes

    -- "cut the supply before the first or after any of them": after the first n events, the cut and the return of power, its state
    -- is the power-up state with the history's kept bits, whole, and its piece is the history's array.
    pub board_power_cut :
        (n i j : ℕ)
        → get_or (chips (run start (take n es ++ cut i ∷ return j ∷ []))) k d
        ≡ powered_up part (history part kept piece (seen k (take n es))).kept (history part kept piece (seen k (take n es))).array serial
    unfolding seen sees is_own
    board_power_cut n i j =
        its_run (take n es ++ cut i ∷ return j ∷ [])
        ∙ ap (chip-run.run alone) (seen_append k (take n es) (cut i ∷ return j ∷ []))
        ∙ ap (λ (cs : List ℕ). chip-run.run alone (cs ++ 10 ∷ 11 ∷ [])) (sym (take-length told))
        ∙ power_cut part kept piece serial told fine takes (length told)
        ∙ ap (λ (cs : List ℕ). powered_up part (history part kept piece cs).kept (history part kept piece cs).array serial) (take-length told)
      where
        told : List ℕ
        told = seen k (take n es)

    -- "refused events count as never sent": the board refuses an event on the chip's own lines by the number that the history
    -- reads from the lines alone.
    pub board_refused_alike :
        (code : ℕ) → is_own code ≡ true
        → refusal_of (run start es) (record { chip = k; code = code }) ≡ refusal (after_all (rest true) (seen k es)) code
    board_refused_alike code own =
        own_refusal (run start es) (good_run start good es) k
        (subst (λ (n : ℕ). k < n) (sym (run_count start good es ∙ ap (λ (b : Board). b.count) (powered_board p xs accepted))) there)
        d (record { chip = k; code = code }) refl own (own_known code own)
        ∙ ap (λ (c : Chip). (event c.serial c.array c.state code).refusal) (its_run es)
        ∙ ap (λ (bytes : List ℕ). (event bytes ran.array ran.state code).refusal) (run_serial alone (seen k es))
        ∙ refused_alike part kept piece serial (seen k es) fine takes code
      where
        ran : Chip
        ran = chip-run.run alone (seen k es)
