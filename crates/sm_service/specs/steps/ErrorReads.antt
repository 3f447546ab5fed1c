-- What is known of the traits of an error of a service that is ready.
use Rattle.std.specs.Prelude.{◌≡◌, ◌<◌, ◌^◌, ℕ, ℤ, pos, Option, Some, None}

-- a number that may be there is one of 16 bits
abbrev pub IsStatusWord : Option ℤ → Type 0
IsStatusWord None = Unit {0}
IsStatusWord (Some z) = (k : ℕ) × (z ≡ pos k) × (k < 2 ^ 16)
