-- The chip's own examples (its Examples), the starred ones, those of each rule and of parts 4 and 5, told by the history: the two are
-- held to the same events and the same outcomes. One more for what those leave open. Computed; assumes nothing.
use Rattle.std.specs.Prelude.{ℕ, Bool, true, false, ◌&&◌, List, [], ◌∷◌, ◌++◌, T}
use Rattle.trace.specs.Items.{clocked}
use Rattle.parts.specs.Figures.{figure_of}
use Rattle.parts.specs.Commands.{command}
use Rattle.parts.specs.Guards.{first_protected, may_store, may_keep}
use Rattle.stages.specs.Bits.{low_bit}
use Rattle.select.specs.declared.notes.Note.TheVariants.{Latch, Stored, KeptSet}
use Rattle.chip.specs.Examples.Run.{Example, writes, idle, transfer, wren, same, blank, with_stored}
use Rattle.chip.specs.Examples.Starred.{starred}
use Rattle.worked.specs.Examples.Rules.{of_lines, of_codes, of_output, of_writing, of_guards, of_hold, rules}
use Rattle.worked.specs.Examples.Part4.{of_guarded, of_sleep}
use Rattle.worked.specs.Examples.Part5.{of_serial, of_like4, part5}
use Rattle.history.specs.Wire.{put, refusal, after_one, act, acts}
use Rattle.history.specs.Transfers.{rises, transfer_from, spans}
use Rattle.history.specs.Bytes.{bits_value, eights, whole_bytes, top_bit, number, address, read_as, read_transfer}
use Rattle.history.specs.History.{store_if, overlay, keep_if, keep_first, effect, at_least_one, latch_drops, spanned, in_order, is_sleep, obeyed, history}

-- the latch, the kept bits and every byte of the array
abbrev numbers : Bool → ℕ → List ℕ → List ℕ
numbers latch kept array = low_bit latch ∷ kept ∷ array

abbrev told : Example → Bool
told e =
    let w = history e.part e.kept (blank e.part) e.events in
    same (numbers w.latch w.kept w.array)
    (numbers e.state.latch e.state.kept (with_stored (blank e.part) e.notes))

abbrev told_all : List Example → Bool
told_all [] = true
told_all (e ∷ es) = told e && told_all es

-- "in order of arrival": the blocks guard nothing that came before them
abbrev blocks_after : Example
blocks_after =
    writes 1 0
    (wren ++ transfer (0x02 ∷ 0x00 ∷ 0x55 ∷ []) ++ wren ++ transfer (0x01 ∷ 0x0C ∷ []))
    (Latch true ∷ Stored 0x000 0x55 ∷ Latch false ∷ Latch true ∷ KeptSet 0x0C ∷ Latch false ∷ [])
    (idle 1 0x0C false false)

pub examples : T (told_all (blocks_after ∷ starred ++ rules ++ of_guarded ++ of_sleep ++ part5))
unfolding clocked starred rules of_lines of_codes of_output of_writing of_guards of_hold of_guarded of_sleep part5 of_serial of_like4 history obeyed is_sleep in_order spanned latch_drops at_least_one effect keep_first keep_if overlay store_if read_transfer read_as address number top_bit whole_bytes eights bits_value rises transfer_from spans acts act after_one refusal put figure_of command first_protected may_store may_keep
examples = tt
