-- The bits of a byte, for every definition above. Assumes nothing.
use Rattle.std.specs.Prelude.{ℕ, ◌/◌, ◌%◌, ◌^◌}

-- bit number i of a byte
abbrev pub bit_at : ℕ → ℕ → ℕ
bit_at byte i = byte / 2 ^ i % 2
