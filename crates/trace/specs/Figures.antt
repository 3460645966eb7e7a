-- The figures of the trace's format, for every definition; `src/number.rt` and `src/items.rt` have them for the code. Assumes nothing.
use Rattle.std.specs.Prelude.{ℕ}

-- "Numbers go up to 268,435,455, in at most four bytes, still in shortest form." (document 02, Wish 7)
abbrev pub groups : ℕ
groups = 4

abbrev pub largest : ℕ
largest = 268435455

-- "0 to 11 is an event; 12 to 267 is a data byte": the first and the last that is one
abbrev pub first_byte : ℕ
first_byte = 12

abbrev pub last_byte : ℕ
last_byte = 267

-- "eight times SI, SCK up, SCK down": the events of a data byte
abbrev pub byte_events : ℕ
byte_events = 24
