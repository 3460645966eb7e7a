-- The wire: the levels of the lines as the events put them, and what the select sees of each event. Read from the
-- list of events alone. Assumes nothing.
use Rattle.std.specs.Prelude.{ℕ, ◌/◌, ◌%◌, Bool, true, false, cond, not, ◌&&◌, ◌||◌, List, [], ◌∷◌, eqb, leb, is_some, Option, Some, None}
use Rattle.refusals.specs.declared.refusal.Refusal.{Refusal}
use Rattle.refusals.specs.declared.refusal.Refusal.TheVariants.{NoEvent, HoldWithSck, HoldWithCs}

-- the levels of the lines, and of /CS as it was last seen: low exactly where a select is open
pub record Wire : Type 0 where
  pub power : Bool
  pub cs : Bool
  pub sck : Bool
  pub si : Bool
  pub hold : Bool
  pub wp : Bool
  pub seen : Bool

-- "At power-up (H): /CS, /HOLD and /WP high, SCK and SI low". With power off the lines have this form too.
abbrev pub rest : Bool → Wire
rest power = record { power = power; cs = true; sck = false; si = false; hold = true; wp = true; seen = true }

-- "An event sets one pin to one level: its code is twice the pin number plus the level. Pins: 0 /CS, 1 SCK, 2 SI, 3 /HOLD,
--  4 /WP, 5 VDD." The level of a pin after an event.
abbrev pub level : ℕ → ℕ → Bool → Bool
level code pin before = cond (eqb (code / 2) pin) (eqb (code % 2) 1) before

-- "While /HOLD is low, moves of SCK and /CS are not seen, only their levels kept": what was seen of /CS is then "the level
-- it had when /HOLD fell".
unfoldable pub put : Wire → ℕ → Wire
put l code =
    record {
      power = l.power;
      cs = level code 0 l.cs;
      sck = level code 1 l.sck;
      si = level code 2 l.si;
      hold = level code 3 l.hold;
      wp = level code 4 l.wp;
      seen = cond (eqb (code / 2) 0 && l.hold) (eqb (code % 2) 1) l.seen;
    }

-- "/HOLD may move only with SCK low, select open or not. It may rise only with /CS at the level it had when /HOLD fell (H)."
abbrev pub hold_falls : Wire → ℕ → Bool
hold_falls l code = eqb code 6 && l.hold

abbrev pub hold_rises : Wire → ℕ → Bool
hold_rises l code = eqb code 7 && not l.hold

abbrev pub cs_moved : Wire → Bool
cs_moved l = cond l.seen (not l.cs) l.cs

-- 5 "event code 12 or more", 6 "power on, /HOLD would move with SCK high", 7 "power on, /HOLD would rise with /CS moved"; else none
unfoldable pub refusal : Wire → ℕ → Option Refusal
refusal l code =
    cond (leb 12 code) (Some NoEvent)
    (cond (l.power && (hold_falls l code || hold_rises l code) && l.sck) (Some HoldWithSck)
    (cond (l.power && hold_rises l code && cs_moved l) (Some HoldWithCs)
    None))

abbrev pub is_refused : Wire → ℕ → Bool
is_refused l code = is_some (refusal l code)

-- "refused events count as never sent". "With power off, each event but 11 is accepted and has no effect." Event 10 with
-- power on gives the off state, "all else is as at power-up"; "Event 11 then gives the power-up state".
unfoldable pub after_one : Wire → ℕ → Wire
after_one l code =
    cond (is_refused l code) l
    (cond l.power
    (cond (eqb code 10) (rest false) (put l code))
    (cond (eqb code 11) (rest true) l))

-- the lines after a list of events
unfoldable pub after_all : Wire → List ℕ → Wire
after_all l [] = l
after_all l (code ∷ codes) = after_all (after_one l code) codes

-- a bit: SI as it is taken, with the level of /WP then
pub record Bit : Type 0 where
  pub si : Bool
  pub wp : Bool

-- what an event is to the select: the fall of /CS that opens one has the level of /WP then. With /HOLD high what is seen of /CS
-- is its level, so a select is open where /CS is low.
pub data Act : Type 0 where
  opens : Bool → Act
  closes : Act
  takes : Bit → Act
  falls : Act
  cuts : Act
  passes : Act

-- "So 0 lowers /CS, 3 raises SCK, 10 cuts power." "A seen fall of /CS opens a select, a seen rise closes it". "Each seen rise
--  of SCK in an open select takes SI", and "Output moves on a seen fall of SCK". "Setting a pin to the level it has is accepted and has no effect."
unfoldable pub act : Wire → ℕ → Act
act l code =
    cond (not l.power) passes
    (cond (eqb code 10) cuts
    (cond (eqb code 0 && l.cs && l.hold) (opens l.wp)
    (cond (eqb code 1 && not l.cs && l.hold) closes
    (cond (eqb code 3 && not l.sck && l.hold && not l.cs) (takes (record { si = l.si; wp = l.wp }))
    (cond (eqb code 2 && l.sck && l.hold && not l.cs) falls
    passes)))))

-- the acts of a list of events, in order
unfoldable pub acts : Wire → List ℕ → List Act
acts l [] = []
acts l (code ∷ codes) = act l code ∷ acts (after_one l code) codes
