-- The history (demand 3): "what stood at power-up, overlaid in order of arrival by each whole memory byte that came with
-- the latch, the protect line and the block rule in its favour, and by the first whole status byte of each transfer, if
-- it came with the latch and the protect line in its favour. Nothing else." Assumes nothing.
use Rattle.std.specs.Prelude.{ℕ, ◌+◌, ◌%◌, Bool, true, false, cond, ◌&&◌, List, [], ◌∷◌, set, Result, Ok, Err}
use Rattle.std.specs.Int.Bits.{bit_and}
use Rattle.parts.specs.Figures.{figure_of}
use Rattle.parts.specs.Guards.{may_store, may_keep}
use Rattle.parts.specs.declared.figures.Figure.{Figure}
use Rattle.parts.specs.declared.guards.Reason.{Reason}
use Rattle.history.specs.Wire.{rest, acts}
use Rattle.history.specs.Transfers.{Transfer, rises, Span, transfer, cut, spans}
use Rattle.history.specs.Bytes.{Byte, whole_bytes, Reading, latches, stores, shows, keeps, sleeps, idles, read_transfer}

-- what the history speaks of
pub record World : Type 0 where
  pub latch : Bool
  pub kept : ℕ
  pub array : List ℕ

abbrev pub with_latch : World → Bool → World
with_latch w on = record { latch = on; kept = w.kept; array = w.array }

-- "each whole memory byte that came with the latch, the protect line and the block rule in its favour"
unfoldable pub store_if : World → ℕ → Byte → Result (Unit {0}) Reason → World
store_if w at b (Ok allowed) = record { latch = w.latch; kept = w.kept; array = set w.array at b.value }
store_if w at b (Err reason) = w

abbrev pub overlaid : Figure → World → ℕ → Byte → World
overlaid f w at b = store_if w at b (may_store f w.latch w.kept b.wp at)

-- "overlaid in order of arrival": data byte number k of a WRITE goes k places on from its first address, "rolling over"
unfoldable pub overlay : Figure → ℕ → ℕ → World → List Byte → World
overlay f start k w [] = w
overlay f start k w (b ∷ bs) = overlay f start (k + 1) (overlaid f w ((start + k) % f.size) b) bs

-- "and by the first whole status byte of each transfer, if it came with the latch and the protect line in its favour",
-- "under the part's mask". "Further bytes do nothing (H)."
unfoldable pub keep_if : Figure → World → Byte → Result (Unit {0}) Reason → World
keep_if f w b (Ok allowed) = record { latch = w.latch; kept = bit_and b.value f.kept; array = w.array }
keep_if f w b (Err reason) = w

unfoldable pub keep_first : Figure → World → List Byte → World
keep_first f w [] = w
keep_first f w (b ∷ bs) = keep_if f w b (may_keep f w.latch w.kept b.wp)

-- "WREN sets the latch at its eighth rise, WRDI clears it there." "Nothing else."
unfoldable pub effect : Figure → World → Reading → World
effect f w (latches on) = with_latch w on
effect f w (stores start bs) = overlay f start 0 w bs
effect f w (shows start header) = w
effect f w (keeps bs) = keep_first f w bs
effect f w sleeps = w
effect f w idles = w

-- "The latch drops at the rise of /CS that ends a WRITE or WRSR with at least one whole data byte, held back or not (H)."
unfoldable pub at_least_one : List Byte → Bool
at_least_one [] = false
at_least_one (b ∷ bs) = true

unfoldable pub latch_drops : Reading → Bool
latch_drops (latches on) = false
latch_drops (stores start bs) = at_least_one bs
latch_drops (shows start header) = false
latch_drops (keeps bs) = at_least_one bs
latch_drops sleeps = false
latch_drops idles = false

-- a transfer, as far as it came
abbrev pub reading : Figure → Bool → Transfer → Reading
reading f fell t = read_transfer f fell (whole_bytes (rises t.edges))

abbrev pub transferred : Figure → World → Reading → Bool → World
transferred f w r closed = cond (closed && latch_drops r) (with_latch (effect f w r) false) (effect f w r)

-- "cut the supply": "The latch is off"
unfoldable pub spanned : Figure → World → Span → World
spanned f w (transfer fell t) = transferred f w (reading f fell t) t.closed
spanned f w cut = with_latch w false

unfoldable pub in_order : Figure → World → List Span → World
in_order f w [] = w
in_order f w (span ∷ more) = in_order f (spanned f w span) more

-- "SLEEP B9h takes effect at the rise of /S" (document 02, Wish 3)
unfoldable pub is_sleep : Reading → Bool
is_sleep (latches on) = false
is_sleep (stores start bs) = false
is_sleep (shows start header) = false
is_sleep (keeps bs) = false
is_sleep sleeps = true
is_sleep idles = false

abbrev pub sleeps_after : Figure → Bool → Transfer → Bool
sleeps_after f fell t = t.closed && is_sleep (reading f fell t)

-- "the next fall of /S wakes the chip and the rest of that select is ignored"; "a cut ends sleep". The transfers that are not
-- ignored, and the cuts, by whether a SLEEP came right before.
unfoldable pub obeyed : Figure → Bool → List Span → List Span
obeyed f asleep [] = []
obeyed f asleep (cut ∷ more) = cut ∷ obeyed f false more
obeyed f true (transfer fell t ∷ more) = obeyed f false more
obeyed f false (transfer fell t ∷ more) = transfer fell t ∷ obeyed f (sleeps_after f fell t) more

-- "Take any list of events from power-up": the part, the kept bits and the array that stood then, and the list
unfoldable pub history : ℕ → ℕ → List ℕ → List ℕ → World
history part kept array codes =
    in_order (figure_of part) (record { latch = false; kept = kept; array = array })
    (obeyed (figure_of part) false (spans (acts (rest true) codes)))
