-- The items of a trace as events, a data byte as the events that clock it in (document 01, "Trace numbers"). Assumes nothing.
use Rattle.std.specs.Prelude.{ℕ, zero, suc, ◌+◌, ◌-◌, cond, List, [], ◌∷◌, ◌++◌, ltb}
use Rattle.laws.specs.Bits.{bit_at}
use Rattle.trace.specs.Figures.{first_byte, last_byte}

-- "SI, SCK up, SCK down": event 4 or 5 by the bit, then 3, then 2
abbrev pub pulse : ℕ → List ℕ
pulse bit = (4 + bit) ∷ 3 ∷ 2 ∷ []

-- the pulses of a byte's lowest `bits` bits, the "most significant bit first"
abbrev pub pulses : ℕ → ℕ → List ℕ
pulses zero byte = []
pulses (suc i) byte = pulse (bit_at byte i) ++ pulses i byte

-- "clocked in as eight times SI, SCK up, SCK down"
unfoldable pub clocked : ℕ → List ℕ
clocked byte = pulses 8 byte

-- "0 to 11 is an event; 12 to 267 is a data byte, the number less 12"
abbrev pub short_events : ℕ → List ℕ
short_events n = cond (ltb n first_byte) (n ∷ []) (clocked (n - first_byte))

-- so many "pulses of SCK, up then down, SI untouched" (document 02, Wish 7)
abbrev pub run_events : ℕ → List ℕ
run_events zero = []
run_events (suc n) = 3 ∷ 2 ∷ run_events n

-- "An item from 268 up now means the number less 267 pulses of SCK"
unfoldable pub item_events : ℕ → List ℕ
item_events n = cond (ltb last_byte n) (run_events (n - last_byte)) (short_events n)
