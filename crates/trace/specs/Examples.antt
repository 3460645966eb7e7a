-- Document 01's worked examples of trace numbers, as one list with one proof over it: each outcome is computed. Bytes are hexadecimal, as there.
-- Assumes nothing.
use Rattle.std.specs.Prelude.{◌≡◌, refl, List, [], ◌∷◌, map, ℕ, ◌+◌}
use Rattle.trace.specs.Answers.{Told, number_read, ended, placed, refused_at}
use Rattle.trace.specs.Form.{form}
use Rattle.trace.specs.Number.{reading, writing, slice_written}

-- a call on a slice, and its outcome: what it tells, and the slice at exit
data Call : Type 0 where
  reads : List ℕ → ℕ → Call
  writes : List ℕ → ℕ → ℕ → Call

record Outcome : Type 0 where
  told : Told
  left : List ℕ

outcome : Call → Outcome
outcome (reads s at) = record { told = reading s at; left = s }
outcome (writes s at n) = record { told = writing s at n; left = slice_written s at n }

record Example : Type 0 where
  call : Call
  gives : Outcome

read : List ℕ → ℕ → Told → Example
read s at t = record { call = reads s at; gives = record { told = t; left = s } }

write : List ℕ → ℕ → ℕ → Told → List ℕ → Example
write s at n t l = record { call = writes s at n; gives = record { told = t; left = l } }

-- the number of a data byte: "12 to 267 is a data byte, the number less 12"
item : ℕ → ℕ
item byte = byte + 12

-- the largest number of 64 bits
top : ℕ
top = 0xFFFF_FFFF_FFFF_FFFF

examples : List Example
examples =
    -- "So byte 73h is 7Fh, byte 74h is 80h 01h, byte FFh is 8Bh 02h."
    write (0x55 ∷ 0x55 ∷ 0x55 ∷ []) 1 (item 0x73) (placed 2) (0x55 ∷ 0x7F ∷ 0x55 ∷ [])
    ∷ write (0x55 ∷ 0x55 ∷ 0x55 ∷ []) 1 (item 0x74) (placed 3) (0x55 ∷ 0x80 ∷ 0x01 ∷ [])
    ∷ write (0x55 ∷ 0x55 ∷ 0x55 ∷ []) 0 (item 0xFF) (placed 2) (0x8B ∷ 0x02 ∷ 0x55 ∷ [])
    ∷ read (0x7F ∷ 0x80 ∷ 0x01 ∷ 0x8B ∷ 0x02 ∷ []) 0 (number_read (item 0x73) 1)
    ∷ read (0x7F ∷ 0x80 ∷ 0x01 ∷ 0x8B ∷ 0x02 ∷ []) 1 (number_read (item 0x74) 3)
    ∷ read (0x7F ∷ 0x80 ∷ 0x01 ∷ 0x8B ∷ 0x02 ∷ []) 3 (number_read (item 0xFF) 5)
    -- "Reading at the slice's very end answers "end"."
    ∷ read (0x7F ∷ 0x80 ∷ 0x01 ∷ 0x8B ∷ 0x02 ∷ []) 5 (ended 5)
    ∷ read [] 0 (ended 0)
    -- 15. "Numbers 267 and 268 (8C 02): read"; "example 15's 268 as an item is now one pulse" (document 02, Wish 7)
    ∷ read (0x8B ∷ 0x02 ∷ []) 0 (number_read 267 2)
    ∷ read (0x8C ∷ 0x02 ∷ []) 0 (number_read 268 2)
    ∷ write (0x55 ∷ 0x55 ∷ []) 0 268 (placed 2) (0x8C ∷ 0x02 ∷ [])
    -- the borders of one, two, three and four bytes
    ∷ read (0x7F ∷ 0x80 ∷ 0x01 ∷ []) 0 (number_read 127 1)
    ∷ read (0x7F ∷ 0x80 ∷ 0x01 ∷ []) 1 (number_read 128 3)
    ∷ read (0xFF ∷ 0x7F ∷ 0x80 ∷ 0x80 ∷ 0x01 ∷ []) 0 (number_read 16383 2)
    ∷ read (0xFF ∷ 0x7F ∷ 0x80 ∷ 0x80 ∷ 0x01 ∷ []) 2 (number_read 16384 5)
    ∷ read (0xFF ∷ 0xFF ∷ 0x7F ∷ 0x80 ∷ 0x80 ∷ 0x80 ∷ 0x01 ∷ []) 0 (number_read 2097151 3)
    ∷ read (0xFF ∷ 0xFF ∷ 0x7F ∷ 0x80 ∷ 0x80 ∷ 0x80 ∷ 0x01 ∷ []) 3 (number_read 2097152 7)
    ∷ read (0xFF ∷ 0xFF ∷ 0xFF ∷ 0x7F ∷ 0x55 ∷ []) 0 (number_read 268435455 4)
    ∷ write (0x55 ∷ 0x55 ∷ 0x55 ∷ 0x55 ∷ 0x55 ∷ []) 0 127 (placed 1) (0x7F ∷ 0x55 ∷ 0x55 ∷ 0x55 ∷ 0x55 ∷ [])
    ∷ write (0x55 ∷ 0x55 ∷ 0x55 ∷ 0x55 ∷ 0x55 ∷ []) 0 128 (placed 2) (0x80 ∷ 0x01 ∷ 0x55 ∷ 0x55 ∷ 0x55 ∷ [])
    ∷ write (0x55 ∷ 0x55 ∷ 0x55 ∷ 0x55 ∷ 0x55 ∷ []) 0 16383 (placed 2) (0xFF ∷ 0x7F ∷ 0x55 ∷ 0x55 ∷ 0x55 ∷ [])
    ∷ write (0x55 ∷ 0x55 ∷ 0x55 ∷ 0x55 ∷ 0x55 ∷ []) 0 16384 (placed 3) (0x80 ∷ 0x80 ∷ 0x01 ∷ 0x55 ∷ 0x55 ∷ [])
    ∷ write (0x55 ∷ 0x55 ∷ 0x55 ∷ 0x55 ∷ 0x55 ∷ []) 0 2097151 (placed 3) (0xFF ∷ 0xFF ∷ 0x7F ∷ 0x55 ∷ 0x55 ∷ [])
    ∷ write (0x55 ∷ 0x55 ∷ 0x55 ∷ 0x55 ∷ 0x55 ∷ []) 0 2097152 (placed 4) (0x80 ∷ 0x80 ∷ 0x80 ∷ 0x01 ∷ 0x55 ∷ [])
    ∷ write (0x55 ∷ 0x55 ∷ 0x55 ∷ 0x55 ∷ 0x55 ∷ []) 0 268435455 (placed 4) (0xFF ∷ 0xFF ∷ 0xFF ∷ 0x7F ∷ 0x55 ∷ [])
    -- "9 is given above 268,435,455"
    ∷ write (0x55 ∷ 0x55 ∷ 0x55 ∷ 0x55 ∷ 0x55 ∷ []) 0 268435456 (refused_at 9 0) (0x55 ∷ 0x55 ∷ 0x55 ∷ 0x55 ∷ 0x55 ∷ [])
    -- 15. "Bytes 80 00 and a lone 80: 8."
    ∷ read (0x80 ∷ 0x00 ∷ []) 0 (refused_at 8 0)
    ∷ read (0x80 ∷ []) 0 (refused_at 8 0)
    -- "8 now speaks of over four bytes", whatever their value: 8 comes before 9
    ∷ read (0x80 ∷ 0x80 ∷ 0x80 ∷ 0x80 ∷ 0x01 ∷ []) 0 (refused_at 8 0)
    ∷ read (0xFF ∷ 0xFF ∷ 0xFF ∷ 0xFF ∷ 0x7F ∷ []) 0 (refused_at 8 0)
    -- "still in shortest form", and cut off
    ∷ read (0x80 ∷ 0x80 ∷ 0x00 ∷ []) 0 (refused_at 8 0)
    ∷ read (0xFF ∷ 0xFF ∷ 0xFF ∷ 0x00 ∷ []) 0 (refused_at 8 0)
    ∷ read (0xFF ∷ 0xFF ∷ 0xFF ∷ []) 0 (refused_at 8 0)
    ∷ read (0xFF ∷ 0xFF ∷ 0xFF ∷ 0xFF ∷ []) 0 (refused_at 8 0)
    -- 10 "place beyond the slice's end"; 9 comes before it in a write
    ∷ read (0x7F ∷ []) 2 (refused_at 10 2)
    ∷ write (0x55 ∷ []) 2 0 (refused_at 10 2) (0x55 ∷ [])
    ∷ write (0x55 ∷ []) 2 268435456 (refused_at 9 2) (0x55 ∷ [])
    -- "11 is given when fewer bytes remain than the number's form takes"
    ∷ write (0x55 ∷ []) 0 128 (refused_at 11 0) (0x55 ∷ [])
    ∷ write (0x55 ∷ 0x55 ∷ 0x55 ∷ []) 0 2097152 (refused_at 11 0) (0x55 ∷ 0x55 ∷ 0x55 ∷ [])
    ∷ write (0x55 ∷ []) 1 0 (refused_at 11 1) (0x55 ∷ [])
    ∷ write [] 0 0 (refused_at 11 0) []
    ∷ write (0x55 ∷ 0x55 ∷ []) 1 127 (placed 2) (0x55 ∷ 0x7F ∷ [])
    -- the largest place and value that there are
    ∷ read (0x7F ∷ []) top (refused_at 10 top)
    ∷ write (0x55 ∷ []) top 0 (refused_at 10 top) (0x55 ∷ [])
    ∷ write (0x55 ∷ []) 0 top (refused_at 9 0) (0x55 ∷ [])
    ∷ []

all_hold_lem : map (λ (e : Example). outcome e.call) examples ≡ map (λ (e : Example). e.gives) examples
unfolding examples outcome read write item top reading writing slice_written form
all_hold_lem = refl
