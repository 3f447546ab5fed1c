-- Lengths as calls tell them.
use Rattle.std.specs.Prelude.{ℕ, ◌-◌, ◌^◌, min}

-- a length, or the greatest number of 64 bits where they don't hold it
abbrev pub length_word : ℕ → ℕ
length_word n = min n (2 ^ 64 - 1)
