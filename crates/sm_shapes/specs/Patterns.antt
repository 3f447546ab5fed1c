-- What a store of patterns keeps and answers. Texts are lists of bytes.
use Rattle.std.specs.Prelude.{◌≡◌, ◌++◌, ◌∷◌, ◌+◌, ◌-◌, ◌^◌, [], ℕ, List, Option, Some, Result, Ok, Err, min, length, slice_index_or}
use Rattle.sm_shapes.specs.declared.patterns.PatternRefusal.{PatternRefusal}
use Rattle.sm_shapes.specs.declared.patterns.PatternRefusal.TheVariants.{Refused, NoMemory}

-- a pattern is added behind those before, and their count is its number; a refusal adds none
abbrev pub Adds : List (List ℕ) → List (List ℕ) → List ℕ → Result ℕ PatternRefusal → Type 0
Adds before now text (Ok number) = (number ≡ length before) × (now ≡ before ++ text ∷ [])
Adds before now text (Err _) = now ≡ before

-- the text refused last: a refusal puts its own there, and no other answer changes it
abbrev pub RecordsRefusal : Option (List ℕ) → Option (List ℕ) → List ℕ → Result ℕ PatternRefusal → Type 0
RecordsRefusal before now text (Ok number) = now ≡ before
RecordsRefusal before now text (Err Refused) = now ≡ Some text
RecordsRefusal before now text (Err NoMemory) = now ≡ before

-- the count of refusals: a refusal makes it one more, up to the last number of its type, and no other answer
-- changes it
abbrev pub CountsRefusal : ℕ → ℕ → Result ℕ PatternRefusal → Type 0
CountsRefusal before now (Ok number) = now ≡ before
CountsRefusal before now (Err Refused) = now ≡ min (before + 1) (2 ^ 64 - 1)
CountsRefusal before now (Err NoMemory) = now ≡ before

-- the text of the pattern with this number
abbrev pub pattern_text : List (List ℕ) → ℕ → List ℕ
pattern_text added number = slice_index_or added number []
