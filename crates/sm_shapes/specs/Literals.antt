-- Patterns that stand for themselves, and the calls in which a store of them refuses.
use Rattle.std.specs.Prelude.{◌≡◌, ◌++◌, ◌∷◌, ◌+◌, ◌-◌, ◌^◌, ◌==◌, [], ℕ, List, Bool, min, true, if◌then◌else◌}
use Rattle.std.specs.List.{list_any, starts_with}

-- the pattern is a contiguous part of the text
abbrev pub IsPart : List ℕ → List ℕ → Type 0
IsPart pattern text = (before behind : List ℕ) × (text ≡ before ++ (pattern ++ behind))

-- whether it is: the text begins with it, or what follows the first byte has it as a part
abbrev pub is_part : List ℕ → List ℕ → Bool
is_part pattern [] = starts_with (λ a b. a == b) [] pattern
is_part pattern (byte ∷ bytes) = if starts_with (λ a b. a == b) (byte ∷ bytes) pattern then true else is_part pattern bytes

-- the calls of `add` that refuse, counted from 1, and how many were made
pub record AddCalls : Type 0 where
  pub failing : List ℕ
  pub made : ℕ

-- one call more; the count stands still at the end of its type
abbrev pub after_add : AddCalls → AddCalls
after_add calls = record { failing = calls.failing; made = min (calls.made + 1) (2 ^ 64 - 1) }

-- the call that was counted last is one of those that refuse
abbrev pub refuses : AddCalls → Bool
refuses calls = list_any (λ call. call == calls.made) calls.failing
