-- What a word says where it stands, and what a line's end says. Assumes nothing.
use Rattle.std.specs.Prelude.{ℕ, ◌+◌, ◌-◌, ◌*◌, Bool, cond, ◌&&◌, List, Option, Some, None, leb}
use Rattle.std.specs.Option.{option_and_then, option_map}
use Rattle.trace.specs.Figures.{largest, last_byte}
use Rattle.sayings.specs.Characters.{ascii}
use Rattle.sayings.specs.Words.{named, byte_of, number_of, all_bits}
use Rattle.sayings.specs.declared.says.Next.{Next}
use Rattle.sayings.specs.declared.says.Next.TheVariants as next
use Rattle.sayings.specs.declared.says.Said.{Said}
use Rattle.sayings.specs.declared.says.Said.TheVariants as said

-- "Pins: 0 /CS, 1 SCK, 2 SI, 3 /HOLD, 4 /WP, 5 VDD" (document 01)
abbrev pub pins : ℕ
pins = 6

-- the number of the pin that a word names
unfoldable pub pin_of : List ℕ → Option ℕ
pin_of w =
    cond (named w (ascii "cs")) (Some 0)
    (cond (named w (ascii "sck")) (Some 1)
    (cond (named w (ascii "si")) (Some 2)
    (cond (named w (ascii "hold")) (Some 3)
    (cond (named w (ascii "wp")) (Some 4)
    (cond (named w (ascii "vdd")) (Some 5)
    None)))))

-- a word that is its item: what stands next is any word
abbrev pub itself : ℕ → Option Said
itself item = Some (said.One item next.Word)

-- a word that asks for the one after it
abbrev pub asks : Next → Option Said
asks then = Some (said.Then then)

-- `cut` and `power` are the events 10 and 11; the others ask for a word more
unfoldable pub said_verb : List ℕ → Option Said
said_verb w =
    cond (named w (ascii "cut")) (itself 10)
    (cond (named w (ascii "power")) (itself 11)
    (cond (named w (ascii "idle")) (asks next.Idle)
    (cond (named w (ascii "held")) (asks next.Held)
    (cond (named w (ascii "bits")) (asks next.Bits)
    (cond (named w (ascii "item")) (asks next.Item)
    None)))))

-- a word that may name a pin, which asks for its level, or that is one of the others
abbrev pub pin_or_verb : Option ℕ → List ℕ → Option Said
pin_or_verb (Some pin) w = asks (next.Level pin)
pin_or_verb None w = said_verb w

-- where any word may stand: a byte, a pin, or one of the others
abbrev pub any_of : Option ℕ → List ℕ → Option Said
any_of (Some n) w = Some (said.Byte n)
any_of None w = pin_or_verb (pin_of w) w

unfoldable pub said_any : List ℕ → Option Said
said_any w = any_of (byte_of w) w

-- `part` and `kept` ask for the word after them
unfoldable pub said_name : List ℕ → List ℕ → Next → Option Said
said_name w name then = cond (named w name) (asks then) None

-- the part: "The first two numbers of a trace stay below 268."
unfoldable pub said_part : List ℕ → Option Said
said_part w = option_and_then (λ n. cond (leb n last_byte) (Some (said.One n next.Kept)) None) (number_of w)

-- the kept bits
unfoldable pub said_kept : List ℕ → Option Said
said_kept w = option_map (λ n. said.One n next.LineEnd) (byte_of w)

-- "An event sets one pin to one level: its code is twice the pin number plus the level."
unfoldable pub said_level : List ℕ → ℕ → Option Said
said_level w pin =
    cond (leb pins pin) None
    (cond (named w (ascii "low")) (itself (pin * 2))
    (cond (named w (ascii "high")) (itself (pin * 2 + 1))
    None))

-- a number of pulses: "1 to 268,435,188"
abbrev pub most_pulses : ℕ
most_pulses = largest - last_byte

abbrev pub only_pulses : ℕ → Option ℕ
only_pulses n = cond (leb 1 n && leb n most_pulses) (Some n) None

unfoldable pub pulses_of : List ℕ → Option ℕ
pulses_of w = option_and_then only_pulses (number_of w)

-- "An item from 268 up now means the number less 267 pulses of SCK" (document 02, Wish 7)
unfoldable pub said_idle : List ℕ → Option Said
said_idle w = option_and_then (λ n. itself (last_byte + n)) (pulses_of w)

unfoldable pub said_held : List ℕ → Option Said
said_held w = option_map said.InHold (pulses_of w)

unfoldable pub said_bits : List ℕ → Option Said
said_bits w = cond (all_bits w) (Some said.Clocked) None

unfoldable pub said_item : List ℕ → Option Said
said_item w = option_and_then itself (number_of w)

-- what a word says, by what may stand there; none where it may not
unfoldable pub said_word : Next → List ℕ → Option Said
said_word next.Part w = said_name w (ascii "part") next.PartNumber
said_word next.PartNumber w = said_part w
said_word next.Kept w = said_name w (ascii "kept") next.KeptByte
said_word next.KeptByte w = said_kept w
said_word next.LineEnd w = None
said_word next.Word w = said_any w
said_word (next.Level pin) w = said_level w pin
said_word next.Idle w = said_idle w
said_word next.Held w = said_held w
said_word next.Bits w = said_bits w
said_word next.Item w = said_item w

-- what a line's end says, with the line's select open or not: a blank line before the part says nothing; "`kept HH` may
-- be left out and is then 00"; "/CS goes .. high at the line's end"; where a word is asked for, no line ends
unfoldable pub said_end : Bool → Next → Option Said
said_end selected next.Part = asks next.Part
said_end selected next.PartNumber = None
said_end selected next.Kept = itself 0
said_end selected next.KeptByte = None
said_end selected next.LineEnd = asks next.Word
said_end selected next.Word = cond selected (Some said.Close) (asks next.Word)
said_end selected (next.Level pin) = None
said_end selected next.Idle = None
said_end selected next.Held = None
said_end selected next.Bits = None
said_end selected next.Item = None
