-- The pins' edges: the state after a pin moved, with the note. "While /HOLD is low, moves of SCK and /CS are not seen,
-- only their levels kept". Assumes nothing.
use Rattle.std.specs.Prelude.{ℕ, Bool, true, false, cond, ◌&&◌, List}
use Rattle.parts.specs.declared.figures.Figure.{Figure}
use Rattle.stages.specs.Close.{drops, after_close, after_fall}
use Rattle.select.specs.Fall.{fall, status_byte}
use Rattle.select.specs.Rise.{rise}
use Rattle.select.specs.declared.notes.Note.TheVariants.{Nothing, Latch, PowerLost}
use Rattle.select.specs.declared.rise.Seen.{Seen}
use Rattle.select.specs.declared.rise.Risen.{Risen}
use Rattle.stages.specs.Wp.{line_of, is_up}
use Rattle.stages.specs.declared.stage.Line.{Line}
use Rattle.stages.specs.declared.stage.Stage.{Stage}
use Rattle.pins.specs.Levels.{at_rest, hold_high, cs_level}
use Rattle.pins.specs.declared.hold.Hold.{Hold}
use Rattle.pins.specs.declared.hold.Hold.TheVariants.{High, LowCsLow, LowCsHigh}
use Rattle.pins.specs.declared.state.State.{State}
use Rattle.pins.specs.declared.state.Moved.{Moved}

-- a state with other lines, latch and stage; with one line, or with latch and stage changed
abbrev pub with : State → Bool → Line → Line → Hold → Bool → Stage → State
with s sck si wp hold latch stage =
    record {
      part = s.part;
      kept = s.kept;
      power = s.power;
      sck = sck;
      si = si;
      wp = wp;
      latch = latch;
      hold = hold;
      stage = stage;
    }

abbrev pub with_sck : State → Bool → State
with_sck s level = with s level s.si s.wp s.hold s.latch s.stage

abbrev pub with_si : State → Bool → State
with_si s level = with s s.sck (line_of level) s.wp s.hold s.latch s.stage

abbrev pub with_wp : State → Bool → State
with_wp s level = with s s.sck s.si (line_of level) s.hold s.latch s.stage

abbrev pub with_hold : State → Hold → State
with_hold s hold = with s s.sck s.si s.wp hold s.latch s.stage

abbrev pub with_stage : State → Bool → Stage → State
with_stage s latch stage = with s s.sck s.si s.wp s.hold latch stage

-- a state, with the note nothing
abbrev pub silent : State → Moved
silent s = record { state = s; note = Nothing }

-- "A seen fall of /CS opens a select", "SCK may stand high or low at the fall (modes 0 and 3)." "the next fall of /S wakes the
--  chip"
unfoldable pub cs_fall : Figure → State → Moved
cs_fall f s = silent (cond (hold_high s.hold) (with_stage s s.latch (after_fall f (is_up s.wp) s.stage)) (with_hold s LowCsLow))

-- "a seen rise closes it and releases SO". "The note then is latch 0 if the latch was set, else nothing." "SLEEP B9h takes effect
--  at the rise of /S"
abbrev pub closed : State → Moved
closed s =
    cond (s.latch && drops s.stage)
    (record { state = with_stage s false (after_close s.stage); note = Latch false })
    (silent (with_stage s s.latch (after_close s.stage)))

unfoldable pub cs_rise : State → Moved
cs_rise s = cond (hold_high s.hold) (closed s) (silent (with_hold s LowCsHigh))

-- "Each seen rise of SCK in an open select takes SI"
abbrev pub seen_by : State → Seen
seen_by s = record { latch = s.latch; kept = s.kept; wp = is_up s.wp; si = is_up s.si }

abbrev pub rose : State → Risen → Moved
rose s r =
    record {
      state =
          record {
            part = s.part;
            kept = r.kept;
            power = s.power;
            sck = true;
            si = s.si;
            wp = s.wp;
            latch = r.latch;
            hold = s.hold;
            stage = r.stage;
          };
      note = r.note;
    }

unfoldable pub sck_rise : Figure → State → Moved
sck_rise f s = cond (hold_high s.hold) (rose s (rise f (seen_by s) s.stage)) (silent (with_sck s true))

-- "Output moves on a seen fall of SCK"
abbrev pub shown : Figure → List ℕ → List ℕ → State → Stage
shown f serial xs s = fall f serial xs (status_byte f s.kept s.latch) s.stage

unfoldable pub sck_fall : Figure → List ℕ → List ℕ → State → Moved
sck_fall f serial xs s =
    silent (cond (hold_high s.hold) (with_stage (with_sck s false) s.latch (shown f serial xs s)) (with_sck s false))

-- "only their levels kept"
unfoldable pub hold_fall : State → Moved
hold_fall s = silent (with_hold s (cond (cs_level s) LowCsHigh LowCsLow))

-- moves are seen again
unfoldable pub hold_rise : State → Moved
hold_rise s = silent (with_hold s High)

-- SI and /WP have a level and no more: one rule for both edges. "Its level is followed at all times with power on,
-- during hold too."
abbrev pub si_to : State → Bool → Moved
si_to s level = silent (with_si s level)

abbrev pub wp_to : State → Bool → Moved
wp_to s level = silent (with_wp s level)

-- "Event 10 with power on gives the note power lost and the off state"
abbrev pub vdd_fall : State → Moved
vdd_fall s = record { state = at_rest s.part s.kept false; note = PowerLost }

-- "Event 11 then gives the power-up state, with the note nothing."
abbrev pub vdd_rise : State → Moved
vdd_rise s = silent (at_rest s.part s.kept true)
