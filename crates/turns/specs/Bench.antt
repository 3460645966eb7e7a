-- What one event does to the bench (document 01, "The replay program"): to the chip and its record, to the array, and to
-- the text that is printed. Assumes nothing.
use Rattle.std.specs.Prelude.{Option, None, is_none, ◌≡◌, ℕ, Bool, cond, List, [], ◌∷◌, ◌++◌, replicate}
use Rattle.parts.specs.Figures.{serial_bytes}
use Rattle.refusals.specs.declared.refusal.Refusal.{Refusal}
use Rattle.pins.specs.declared.state.State.{State}
use Rattle.step.specs.Step.{written}
use Rattle.chip.specs.Event.{event}
use Rattle.chip.specs.declared.event.Answer.{Answer}
use Rattle.report.specs.Lines.{select_line}
use Rattle.report.specs.Page.{Page, printed}
use Rattle.turns.specs.Stand.{closes, shown_by, after}
use Rattle.turns.specs.declared.stand.Stand.{Stand}
use Rattle.report.specs.Prints.{page_in}
use Rattle.turns.specs.declared.turn.Bench.{Bench as Lent}

-- the bench in the course of a run: the refusal that stopped it, if any; what stands on it; the array; the first bytes of
-- SO; and the text so far
pub record Bench : Type 0 where
  pub refusal : Option Refusal
  pub stand : Stand
  pub array : List ℕ
  pub shown : List ℕ
  pub text : List ℕ

abbrev pub runs_on : Bench → Bool
runs_on b = is_none b.refusal

-- a refusal came, and all else is as it was
abbrev pub stopped : Bench → Option Refusal → Bench
stopped b refusal =
    record { refusal = refusal; stand = b.stand; array = b.array; shown = b.shown; text = b.text }

-- the line of the select that the record is of
abbrev pub select_text : Stand → List ℕ → List ℕ
select_text stand shown = select_line stand.selects stand.told shown

-- "One line for each select": it comes where the select closes, by /CS or by "a power cut"
abbrev pub closing : State → State → Stand → List ℕ → List ℕ
closing before next stand shown = cond (closes before next) (select_text stand shown) []

-- an accepted event leaves the state, the byte that its note stored, its record, and the line of a select that it closes
abbrev pub taken : Bench → State → Stand → List ℕ → List ℕ → Bench
taken b next stand array shown =
    record {
      refusal = None;
      stand = stand;
      array = array;
      shown = shown;
      text = b.text ++ closing b.stand.chip next stand shown;
    }

-- "Lent memory stays at every refusal."
abbrev pub after_answer : Bench → ℕ → Answer → Bench
after_answer b code a =
    cond (is_none a.refusal)
    (taken b a.state (after b.stand code a) (written a.note b.array) (shown_by b.shown b.stand code))
    (stopped b a.refusal)

-- "replay uses eight bytes 00": the serial number that is lent with every event, on parts that have none too, where any will do
abbrev pub replay_serial : List ℕ
replay_serial = replicate serial_bytes 0

-- an event on the bench
unfoldable pub after_event : Bench → ℕ → Bench
after_event b code = after_answer b code (event replay_serial b.array b.stand.chip code)

-- It "stops at the first refusal": events in their order, each where none before it was refused
abbrev pub after_events : Bench → List ℕ → Bench
after_events b [] = b
after_events b (code ∷ codes) = after_events (cond (runs_on b) (after_event b code) b) codes

-- ---- the bench as a program has it: the text stands on a page

pub record Desk : Type 0 where
  pub refusal : Option Refusal
  pub stand : Stand
  pub array : List ℕ
  pub shown : List ℕ
  pub page : Page

-- the bench of a program, with what is printed on its page
abbrev pub desk_of : Lent → Desk
desk_of b = record { refusal = b.refusal; stand = b.stand; array = b.array.now; shown = b.shown; page = page_in b.page.now }

-- a bench whose text is printed behind what the page has
abbrev pub on_page : Page → Bench → Desk
on_page p b =
    record { refusal = b.refusal; stand = b.stand; array = b.array; shown = b.shown; page = printed p b.text }

-- the bench that a program goes on from, with no text since
abbrev pub bench_of : Lent → Bench
bench_of b = record { refusal = b.refusal; stand = b.stand; array = b.array.now; shown = b.shown; text = [] }

-- a program takes the bench to where `f` leads it, and prints the text since; the array and the page are those that were lent
pub record Takes (before : Lent) (f : Bench → Bench) (after : Lent) : Type 0 where
  pub same_array : after.array.ghost_name ≡ before.array.ghost_name
  pub same_page : after.page.ghost_name ≡ before.page.ghost_name
  pub same_slice : after.page.now.out.ghost_name ≡ before.page.now.out.ghost_name
  pub desk : desk_of after ≡ on_page (page_in before.page.now) (f (bench_of before))
