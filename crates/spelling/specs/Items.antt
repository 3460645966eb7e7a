-- What is said, as items of the trace, and the items' bytes. Assumes nothing.
use Rattle.std.specs.Prelude.{ℕ, ◌+◌, Bool, cond, List, [], ◌∷◌, ◌++◌, unwrap_or}
use Rattle.trace.specs.Figures.{first_byte, last_byte}
use Rattle.trace.specs.Form.{form}
use Rattle.trace.specs.Items.{pulse}
use Rattle.sayings.specs.Characters.{digit_of}
use Rattle.sayings.specs.declared.says.Said.{Said}
use Rattle.sayings.specs.declared.says.Said.TheVariants as said

-- "single bits, each SI, SCK up, SCK down"; a word of bits has no other characters
abbrev pub bit_items : List ℕ → List ℕ
bit_items [] = []
bit_items (c ∷ cs) = pulse (unwrap_or (digit_of c) 16) ++ bit_items cs

-- The items of what is said, by a word w, with the line's select open or not. "/CS goes low before the first" byte of a
-- line, event 0, "and high at the line's end", event 1; around pulses in hold /HOLD falls and rises, events 6 and 7.
abbrev pub items_of : Bool → List ℕ → Said → List ℕ
items_of selected w (said.Then n) = []
items_of selected w (said.One item n) = item ∷ []
items_of selected w (said.Byte byte) = cond selected ((first_byte + byte) ∷ []) (0 ∷ (first_byte + byte) ∷ [])
items_of selected w said.Close = 1 ∷ []
items_of selected w (said.InHold pulses) = 6 ∷ (last_byte + pulses) ∷ 7 ∷ []
items_of selected w said.Clocked = bit_items w

-- the items' forms one behind the other
abbrev pub forms : List ℕ → List ℕ
forms [] = []
forms (item ∷ items) = form item ++ forms items
