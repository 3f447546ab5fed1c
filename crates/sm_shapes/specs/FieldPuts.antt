-- Where a field goes among those of a structure, whose numbers rise, and whether one is there.
use Rattle.std.specs.Prelude.{◌≡◌, ℕ, ◌<◌, ◌≤◌, nat_lt, nat_eq, Bool, true, false, ◌||◌, cond, List, [], ◌∷◌, length, get_or}
use Rattle.sm_shapes.specs.Values.{Val}
use Rattle.sm_shapes.specs.declared.values.Value.{Value}

-- a field goes to its place in model order
abbrev pub put_field : ℕ → Val → List (ℕ × Val) → List (ℕ × Val)
put_field k v [] = (k, v) ∷ []
put_field k v (f ∷ fs) = cond (nat_lt f.0 k) (f ∷ put_field k v fs) ((k, v) ∷ f ∷ fs)

-- a field of the member is there
abbrev pub has_field : ℕ → List (ℕ × Val) → Bool
has_field k [] = false
has_field k (f ∷ fs) = nat_eq f.0 k || has_field k fs

-- fields of members from k on
abbrev pub FieldsFrom : ℕ → List (ℕ × Val) → Type 0
FieldsFrom k [] = Unit {0}
FieldsFrom k (f ∷ fs) = (k ≤ f.0) × FieldsFrom k fs

-- their numbers don't fall
abbrev pub FieldsRise : List (ℕ × Val) → Type 0
FieldsRise [] = Unit {0}
FieldsRise (f ∷ fs) = FieldsFrom f.0 fs × FieldsRise fs

-- fields before the place have numbers lower than k, and the others don't
abbrev pub IsPlaceOf : ℕ → List (ℕ × Value) → ℕ → Type 0
IsPlaceOf k fs i =
    ((j : ℕ) (f : ℕ × Value) → j < i → nat_lt (get_or fs j f).0 k ≡ true)
    × ((j : ℕ) (f : ℕ × Value) → i ≤ j → j < length fs → nat_lt (get_or fs j f).0 k ≡ false)
