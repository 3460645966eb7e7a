-- The story of a trace, whole. Assumes nothing.
use Rattle.std.specs.Prelude.{ℕ, zero, suc, ◌-◌, cond, List, [], ◌++◌, eqb, length, replicate, None, Result, Ok, Err}
use Rattle.refusals.specs.Refusals.{number_of}
use Rattle.refusals.specs.declared.refusal.Refusal.{Refusal}
use Rattle.trace.specs.Answers.{Told, Value, num, end}
use Rattle.trace.specs.Number.{reading}
use Rattle.parts.specs.Figures.{figure_of}
use Rattle.pins.specs.Watch.{is_open}
use Rattle.pins.specs.declared.state.State.{State}
use Rattle.supply.specs.Power.{power_up, fresh, filled}
use Rattle.supply.specs.declared.power.Powered.{Powered}
use Rattle.report.specs.Text.{ascii}
use Rattle.turns.specs.Stand.{no_event}
use Rattle.turns.specs.declared.stand.Stand.{Stand}
use Rattle.bench.specs.Head.{head_of}
use Rattle.bench.specs.declared.head.Head.{Head}
use Rattle.bench.specs.declared.head.NoHead.{NoHead}
use Rattle.words.specs.Dump.{array_text}
use Rattle.words.specs.Lines.{power_line, refused_line, left_line, end_line}
use Rattle.story.specs.Scene.{Scene, runs_on, refused_or, item_scene, item_text}

-- a select that is open at the end
abbrev pub left_open : Stand → List ℕ
left_open stand = cond (is_open stand.chip) (left_line stand) []

-- what is left at the end: that select, the kept bits, the latch, and the array
unfoldable pub end_text : Stand → List ℕ → List ℕ
end_text stand array = left_open stand ++ end_line stand.chip.kept stand.chip.latch ++ array_text array

-- the story goes on from a place, or a refusal stopped it
abbrev pub goes_on : (ℕ → Scene → List ℕ) → ℕ → Scene → List ℕ
goes_on more next b = cond (runs_on b) (more next b) (end_text b.stand b.array)

-- an item has its place's story, and the others are told from the place after it; "end" ends it
abbrev pub value_text : Value → ℕ → ℕ → Scene → (ℕ → Scene → List ℕ) → List ℕ
value_text (num n) at next b more = item_text b at n ++ goes_on more next (item_scene b n)
value_text end at next b more = end_text b.stand b.array

-- a number that cannot be read is told with its place, and ends it
abbrev pub read_text : Told → ℕ → Scene → (ℕ → Scene → List ℕ) → List ℕ
read_text t at b more =
    cond (eqb t.refusal 0) (value_text t.value at t.place b more) (refused_line at t.refusal ++ end_text b.stand b.array)

-- no more reads than `left`
abbrev pub story_in : ℕ → List ℕ → ℕ → Scene → List ℕ
story_in zero s at b = []
story_in (suc left) s at b = read_text (reading s at) at b (story_in left s)

-- the items from a place on: each has a byte at least, and one read more finds the end; `story_on` (proofs/Stories) is the
-- same without the bound
unfoldable pub story_from : List ℕ → ℕ → Scene → List ℕ
story_from s at b = story_in (suc (length s - at)) s at b

unfoldable pub left_text : List ℕ → ℕ → Scene → List ℕ
left_text s at b = goes_on (story_from s) at b

-- a trace that does not come to power-up
unfoldable pub not_powered : Refusal → List ℕ
not_powered refusal = refused_line 0 (number_of refusal) ++ ascii "end: no power-up\n"

-- from an accepted power-up on
unfoldable pub from_power : List ℕ → Head → State → List ℕ → List ℕ
from_power s lead chip array =
    power_line lead.part (figure_of lead.part).size chip.kept
    ++ left_text s lead.items (record { refusal = None; stand = no_event chip; array = array })

abbrev pub up_text : List ℕ → Head → List ℕ → Powered → List ℕ
up_text s lead array p = refused_or p.refusal not_powered (from_power s lead p.state array)

-- "It starts from a fresh array", as the replay does
unfoldable pub powered_text : List ℕ → Head → List ℕ → List ℕ
powered_text s lead array =
    let xs = filled lead.part fresh array in
    up_text s lead xs (power_up lead.part lead.kept xs)

abbrev pub led_text : List ℕ → Result Head NoHead → List ℕ
led_text s (Ok lead) = powered_text s lead (replicate (figure_of lead.part).size 0)
led_text s (Err why) = not_powered why.refusal

-- "It reads both leading numbers before power-up", as the replay does
unfoldable pub story : List ℕ → List ℕ
story s = led_text s (head_of s)
