-- The report of a trace, whole, byte by byte (document 01, "The replay program"). Assumes nothing.
use Rattle.std.specs.Prelude.{ℕ, Option, cond, List, [], ◌++◌, replicate}
use Rattle.pins.specs.Watch.{is_open}
use Rattle.refusals.specs.Refusals.{number_or_0}
use Rattle.refusals.specs.declared.refusal.Refusal.{Refusal}
use Rattle.report.specs.Lines.{end_line}
use Rattle.report.specs.Record.{most_shown}
use Rattle.turns.specs.Bench.{Bench, select_text}
use Rattle.report.specs.Page.{Page, page_of, printed}
use Rattle.bench.specs.Run.{replayed}
use Rattle.turns.specs.declared.stand.Stand.{Stand}

-- "also one left open by the end, a refusal"
abbrev pub open_text : Stand → List ℕ → List ℕ
open_text stand shown = cond (is_open stand.chip) (select_text stand shown) []

-- "Last line: kept bits in hex (00 before power-up), latch (0 before power-up), refusal."
abbrev pub last_text : Stand → Option Refusal → List ℕ → List ℕ
last_text stand refusal shown = open_text stand shown ++ end_line stand.chip.kept stand.chip.latch (number_or_0 refusal)

abbrev pub whole_text : Bench → List ℕ
whole_text b = b.text ++ last_text b.stand b.refusal b.shown

-- line 1, the lines of the selects in the order of their closing, the line of one left open, the last line
unfoldable pub report : List ℕ → List ℕ
report s = whole_text (replayed s (replicate most_shown 0))

-- what the call `report` leaves: the report at the slice's front, cut where the slice ends, and how much of it that is
abbrev pub reported : List ℕ → List ℕ → Page
reported s out = printed (page_of out 0) (report s)
