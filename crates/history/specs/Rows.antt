-- The rows that a list of events wears, in order (document 02, Wish 9), read from the list alone. Its count of row cycles is their
-- number. Assumes nothing.
use Rattle.std.specs.Prelude.{ℕ, zero, suc, ◌+◌, ◌*◌, ◌-◌, ◌/◌, ◌%◌, true, false, cond, List, [], ◌∷◌, ◌++◌, eqb, Result, Ok, Err}
use Rattle.parts.specs.Figures.{figure_of}
use Rattle.parts.specs.Guards.{may_store}
use Rattle.parts.specs.declared.figures.Figure.{Figure}
use Rattle.parts.specs.declared.guards.Reason.{Reason}
use Rattle.history.specs.Wire.{rest, acts}
use Rattle.history.specs.Transfers.{Edge, up, down, Span, transfer, cut, spans}
use Rattle.history.specs.Bytes.{Byte, Reading, latches, stores, shows, keeps, sleeps, idles}
use Rattle.history.specs.History.{World, overlaid, reading, spanned, obeyed}

-- the falls that come after so many bits: "Output moves on a seen fall of SCK once the header .. is whole"
unfoldable pub falls_past : ℕ → List Edge → ℕ
falls_past bits [] = 0
falls_past bits (up b ∷ es) = falls_past (bits - 1) es
falls_past bits (down ∷ es) = cond (eqb bits 0) 1 0 + falls_past bits es

-- the bytes "whose first bit was driven", by the falls that drove a bit: eight for each byte
abbrev pub begun : ℕ → ℕ
begun driven = (driven + 7) / 8

-- so many places from an address on: "then the next address, rolling from the last to 0"
unfoldable pub places : ℕ → ℕ → ℕ → List ℕ
places size at zero = []
places size at (suc n) = at % size ∷ places size (at + 1) n

-- "or a stored byte": the addresses of a WRITE's data bytes that came with the latch, the protect line and the block rule in their
-- favour. `k` and `w` as for `overlay`.
abbrev pub stored_if : ℕ → Result (Unit {0}) Reason → List ℕ
stored_if at (Ok allowed) = at ∷ []
stored_if at (Err reason) = []

unfoldable pub stored_at : Figure → ℕ → ℕ → World → List Byte → List ℕ
stored_at f start k w [] = []
stored_at f start k w (b ∷ bs) =
    let at = (start + k) % f.size in
    stored_if at (may_store f w.latch w.kept b.wp at) ++ stored_at f start (k + 1) (overlaid f w at b) bs

-- "a READ or FSTRD byte whose first bit was driven, or a stored byte": the addresses of a transfer's such bytes, in order
unfoldable pub touched : Figure → World → List Edge → Reading → List ℕ
touched f w es (latches on) = []
touched f w es (stores start bs) = stored_at f start 0 w bs
touched f w es (shows start header) = places f.size start (begun (falls_past (header * 8) es))
touched f w es (keeps bs) = []
touched f w es sleeps = []
touched f w es idles = []

-- "adds one to its row unless the select's previous such byte lay in the same row": the rows of such addresses, each one that follows
-- itself left out. `size` is a row's.
unfoldable pub changes : ℕ → ℕ → List ℕ → List ℕ
changes size row [] = []
changes size row (at ∷ more) = cond (eqb row (at / size)) (changes size row more) (at / size ∷ changes size (at / size) more)

unfoldable pub cycles : ℕ → List ℕ → List ℕ
cycles size [] = []
cycles size (at ∷ more) = at / size ∷ changes size (at / size) more

-- transfer by transfer
abbrev pub span_rows : Figure → World → Span → List ℕ
span_rows f w (transfer fell t) = cycles f.row (touched f w t.edges (reading f fell t))
span_rows f w cut = []

unfoldable pub rows_of : Figure → World → List Span → List ℕ
rows_of f w [] = []
rows_of f w (span ∷ more) = span_rows f w span ++ rows_of f (spanned f w span) more

-- "the count taken from the history" is the length of this
unfoldable pub row_history : ℕ → ℕ → List ℕ → List ℕ → List ℕ
row_history part kept array codes =
    rows_of (figure_of part) (record { latch = false; kept = kept; array = array })
    (obeyed (figure_of part) false (spans (acts (rest true) codes)))
