-- What holds now, by what held before: one thing more, or what is still to come of several.
use Rattle.std.specs.Prelude.{◌⊎◌, ◌↔◌}

-- what holds now held before, or is one of these
abbrev pub Joins : {X : Type 0} → (X → Type 0) → (X → Type 0) → (X → Type 0) → Type 0
Joins Old P Now = (x : _) → Now x ↔ (Old x ⊎ P x)

-- of all these exactly the rest is still to come
abbrev pub JoinsUpTo : {X : Type 0} → (X → Type 0) → (X → Type 0) → (X → Type 0) → (X → Type 0) → Type 0
JoinsUpTo All Rest Old Now = (x : _) → (Now x ⊎ Rest x) ↔ (Old x ⊎ All x)
