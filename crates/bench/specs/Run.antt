-- The run of a trace (document 01, "The replay program"): the bench after an item, and after the whole trace. Assumes
-- nothing.
use Rattle.std.specs.Prelude.{ℕ, zero, suc, ◌-◌, false, cond, List, [], ◌∷◌, eqb, length, replicate, Option, Some, None, is_none, Result, Ok, Err}
use Rattle.refusals.specs.RefusalLaws.{given_at}
use Rattle.refusals.specs.declared.refusal.Refusal.{Refusal}
use Rattle.trace.specs.Answers.{Told, Value, num, end}
use Rattle.trace.specs.Number.{reading}
use Rattle.parts.specs.Figures.{figure_of}
use Rattle.pins.specs.Levels.{at_rest}
use Rattle.supply.specs.Power.{power_up, fresh, filled}
use Rattle.supply.specs.declared.power.Powered.{Powered}
use Rattle.trace.specs.Items.{item_events}
use Rattle.report.specs.Lines.{part_line}
use Rattle.turns.specs.Bench.{Bench, runs_on, stopped, after_events}
use Rattle.bench.specs.Head.{head_of}
use Rattle.turns.specs.Stand.{no_event}
use Rattle.bench.specs.declared.head.Head.{Head}
use Rattle.bench.specs.declared.head.NoHead.{NoHead}

-- "0 to 11 is an event; 12 to 267 is a data byte .. clocked in"; "from 268 up .. pulses": the item's events
unfoldable pub after_item : Bench → ℕ → Bench
after_item b item = after_events b (item_events item)

-- the items in their order
abbrev pub after_items : Bench → List ℕ → Bench
after_items b [] = b
after_items b (item ∷ items) = after_items (after_item b item) items

-- the items of a trace from a place on, and the refusal of the number that ends them: none at "end"
pub record Items : Type 0 where
  pub numbers : List ℕ
  pub refusal : Option Refusal

abbrev pub no_item : Option Refusal → Items
no_item refusal = record { numbers = []; refusal = refusal }

abbrev pub item_then : Value → Items → Items
item_then (num n) more = record { numbers = n ∷ more.numbers; refusal = more.refusal }
item_then end more = no_item None

-- "An accepted read gives the number and the place after it": the next item is read from that place
abbrev pub read_on : Told → (ℕ → Items) → Items
read_on t from = cond (eqb t.refusal 0) (item_then t.value (from t.place)) (no_item (given_at t.refusal))

-- as many as `left` of them; with no byte left a read answers "end", or 10 beyond it
abbrev pub items_in : ℕ → List ℕ → ℕ → Items
items_in zero s at = no_item (given_at (reading s at).refusal)
items_in (suc left) s at = read_on (reading s at) (items_in left s)

-- "then items": no more than bytes are left, since each has one; `items_on` (proofs/Items) is the same without the bound
unfoldable pub items_from : List ℕ → ℕ → Items
items_from s at = items_in (length s - at) s at

-- it "stops at the first refusal": that of a number counts where no event before it was refused
abbrev pub ended_by : Bench → Option Refusal → Bench
ended_by b refusal = cond (runs_on b) (stopped b refusal) b

-- the items from a place on
unfoldable pub ran_from : List ℕ → ℕ → Bench → Bench
ran_from s at b = ended_by (after_items b (items_from s at).numbers) (items_from s at).refusal

-- "Line 1: part, size, kept bits in hex; absent if power-up isn't reached"
abbrev pub first_text : Head → Powered → List ℕ
first_text lead p =
    cond (is_none p.refusal) (part_line lead.part (figure_of lead.part).size p.state.kept) []

abbrev pub powered : Head → Powered → List ℕ → List ℕ → Bench
powered lead p array shown =
    record {
      refusal = p.refusal;
      stand = no_event p.state;
      array = array;
      shown = shown;
      text = first_text lead p;
    }

-- "It starts from a fresh array", which "is now FF, in replay .. too" (document 02, Wish 6): power-up is on the filled one
unfoldable pub started : Head → List ℕ → List ℕ → Bench
started lead array shown =
    let xs = filled lead.part fresh array in
    powered lead (power_up lead.part lead.kept xs) xs shown

-- from the start on; a refused power-up stops it
unfoldable pub ran : List ℕ → Head → List ℕ → List ℕ → Bench
ran s lead array shown = ran_from s lead.items (started lead array shown)

-- "kept bits .. (00 before power-up), latch (0 before power-up)": a number that leads the trace is refused
abbrev pub not_reached : Refusal → List ℕ → Bench
not_reached why shown =
    record { refusal = Some why; stand = no_event (at_rest 1 0 false); array = []; shown = shown; text = [] }

-- "It reads both leading numbers before power-up"
abbrev pub led_by : List ℕ → Result Head NoHead → List ℕ → Bench
led_by s (Ok lead) shown = ran s lead (replicate (figure_of lead.part).size 0) shown
led_by s (Err why) shown = not_reached why.refusal shown

-- the whole run
unfoldable pub replayed : List ℕ → List ℕ → Bench
replayed s shown = led_by s (head_of s) shown
