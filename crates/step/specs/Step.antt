-- The step of one event: what it does where the checks 4, 2, 15 and 5 let it through, and the array after it. Assumes nothing.
use Rattle.std.specs.Prelude.{ℕ, ◌/◌, ◌%◌, Bool, true, false, cond, not, List, set, eqb, Result, Ok, Err}
use Rattle.parts.specs.declared.figures.Figure.{Figure}
use Rattle.stages.specs.Close.{is_closed}
use Rattle.select.specs.declared.notes.Note.{Note}
use Rattle.select.specs.declared.notes.Note.TheVariants.{Nothing, Latch, Stored, HeldBack, KeptSet, KeptHeldBack, PowerLost}
use Rattle.pins.specs.Levels.{hold_high, cs_level}
use Rattle.pins.specs.Edges.{silent, cs_fall, cs_rise, sck_rise, sck_fall, si_to, hold_fall, hold_rise, wp_to, vdd_fall, vdd_rise}
use Rattle.pins.specs.declared.state.State.{State}
use Rattle.pins.specs.declared.state.Moved.{Moved}
use Rattle.refusals.specs.declared.refusal.Refusal.{Refusal}
use Rattle.refusals.specs.declared.refusal.Refusal.TheVariants.{HoldWithSck, HoldWithCs}

-- the state after an event that gives this: "Any other refusal returns its number with the state given"
abbrev pub state_after : State → Result Moved Refusal → State
state_after s (Ok m) = m.state
state_after s (Err why) = s

-- "Setting a pin to the level it has is accepted and has no effect."
abbrev pub cs_to : Figure → State → Bool → Moved
cs_to f s true = cond (cs_level s) (silent s) (cs_rise s)
cs_to f s false = cond (cs_level s) (cs_fall f s) (silent s)

abbrev pub sck_to : Figure → List ℕ → List ℕ → State → Bool → Moved
sck_to f serial xs s true = cond s.sck (silent s) (sck_rise f s)
sck_to f serial xs s false = cond s.sck (sck_fall f serial xs s) (silent s)

-- "the level it had when /HOLD fell": high exactly where no select is open, since moves in hold are not seen
unfoldable pub cs_stayed : State → Bool
cs_stayed s = cond (is_closed s.stage) (cs_level s) (not (cs_level s))

-- "/HOLD may move only with SCK low, select open or not. It may rise only with /CS at the level it had when /HOLD
--  fell (H)." Else 6, "power on, /HOLD would move with SCK high", or 7, "power on, /HOLD would rise with /CS moved".
abbrev pub hold_up : State → Result Moved Refusal
hold_up s = cond s.sck (Err HoldWithSck) (cond (cs_stayed s) (Ok (hold_rise s)) (Err HoldWithCs))

abbrev pub hold_to : State → Bool → Result Moved Refusal
hold_to s true = cond (hold_high s.hold) (Ok (silent s)) (hold_up s)
hold_to s false =
    cond (hold_high s.hold)
    (cond s.sck (Err HoldWithSck) (Ok (hold_fall s)))
    (Ok (silent s))

abbrev pub vdd_to : State → Bool → Moved
vdd_to s true = silent s
vdd_to s false = vdd_fall s

-- "Pins: 0 /CS, 1 SCK, 2 SI, 3 /HOLD, 4 /WP, 5 VDD."
unfoldable pub live : Figure → List ℕ → List ℕ → State → ℕ → Bool → Result Moved Refusal
live f serial xs s pin level =
    cond (eqb pin 0) (Ok (cs_to f s level))
    (cond (eqb pin 1) (Ok (sck_to f serial xs s level))
    (cond (eqb pin 2) (Ok (si_to s level))
    (cond (eqb pin 3) (hold_to s level)
    (cond (eqb pin 4) (Ok (wp_to s level))
    (Ok (vdd_to s level))))))

-- "With power off, each event but 11 is accepted and has no effect." "Event 11 then gives the power-up state, with the
--  note nothing."
abbrev pub dark : State → ℕ → Result Moved Refusal
dark s code = Ok (cond (eqb code 11) (vdd_rise s) (silent s))

-- "its code is twice the pin number plus the level"
unfoldable pub step : Figure → List ℕ → List ℕ → State → ℕ → Result Moved Refusal
step f serial xs s code = cond s.power (live f serial xs s (code / 2) (eqb (code % 2) 1)) (dark s code)

-- the array after an event: one byte changes, where the note says stored
unfoldable pub written : Note → List ℕ → List ℕ
written Nothing xs = xs
written (Latch on) xs = xs
written (Stored at byte) xs = set xs at byte
written (HeldBack at reason) xs = xs
written (KeptSet kept) xs = xs
written (KeptHeldBack reason) xs = xs
written PowerLost xs = xs
