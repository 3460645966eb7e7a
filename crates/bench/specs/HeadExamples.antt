-- Heads of traces, worked out by hand: what is told where both numbers are read, and where one is refused. The report tells of a
-- refused head the refusal alone. One list, one proof, computed from the definition that the promise of `head_of` cites. Assumes nothing.
use Rattle.std.specs.Prelude.{ℕ, Bool, true, ◌&&◌, List, [], ◌∷◌, T, Result, Ok, Err}
use Rattle.refusals.specs.Refusals.{number_of}
use Rattle.trace.specs.Number.{reading}
use Rattle.chip.specs.Examples.Run.{same}
use Rattle.bench.specs.Head.{leading, head_of}
use Rattle.bench.specs.declared.head.Head.{Head}
use Rattle.bench.specs.declared.head.NoHead.{NoHead}

pub record Example : Type 0 where
  pub trace : List ℕ
  pub tells : List ℕ

-- the refusal's number, the part, and a place: of the first item, with the kept bits before it, or where the reading stopped
abbrev told : Result Head NoHead → List ℕ
told (Ok h) = 0 ∷ h.part ∷ h.kept ∷ h.items ∷ []
told (Err why) = number_of why.refusal ∷ why.part ∷ why.at ∷ []

all : List Example → Bool
all [] = true
all (e ∷ es) = same (told (head_of e.trace)) e.tells && all es

unfoldable pub heads : List Example
heads =
    -- 8C 01 is 140, in two bytes: the first item is at 3
    record { trace = 0x03 ∷ 0x8C ∷ 0x01 ∷ 0x00 ∷ []; tells = 0 ∷ 3 ∷ 140 ∷ 3 ∷ [] }
    -- ""end" in place of either is refusal 8": of the second, at the place of the end
    ∷ record { trace = 0x03 ∷ []; tells = 8 ∷ 3 ∷ 1 ∷ [] }
    -- the second is 268, which is read: the place is behind it
    ∷ record { trace = 0x03 ∷ 0x8C ∷ 0x02 ∷ 0x00 ∷ []; tells = 9 ∷ 3 ∷ 3 ∷ [] }
    -- the second is not shortest: "a refused read .. returns .. the place given"
    ∷ record { trace = 0x03 ∷ 0x80 ∷ 0x00 ∷ []; tells = 8 ∷ 3 ∷ 1 ∷ [] }
    -- a part of two bytes: the places are of the trace, not of the second number
    ∷ record { trace = 0x8B ∷ 0x02 ∷ 0x8C ∷ 0x02 ∷ []; tells = 9 ∷ 267 ∷ 4 ∷ [] }
    -- the first is 268, missing, and cut off: no part and no place, and the second is not read
    ∷ record { trace = 0x8C ∷ 0x02 ∷ 0x80 ∷ []; tells = 9 ∷ 0 ∷ 0 ∷ [] }
    ∷ record { trace = []; tells = 8 ∷ 0 ∷ 0 ∷ [] }
    ∷ record { trace = 0x83 ∷ []; tells = 8 ∷ 0 ∷ 0 ∷ [] }
    ∷ []

heads_told : T (all heads)
unfolding all heads reading leading head_of
heads_told = tt
