-- The one value of a name.
use Rattle.std.proofs.Common.{◌≡◌, ℕ, List, [], ◌∷◌, length, refl, arith, Option, None}
use Rattle.sm_http.specs.FieldValues.{first_value, only_value}

pub only_one : (values : List (List ℕ)) → length values ≡ 1 → first_value values ≡ only_value values
only_one [] e = absurd (omega arith)
only_one (value ∷ []) e = refl
only_one (value ∷ next ∷ values) e = absurd (omega arith)

pub only_none : (values : List (List ℕ)) → (length values ≡ 1 → ⊥) → ◌≡◌ {A = Option (List ℕ)} None (only_value values)
only_none [] e = refl
only_none (value ∷ []) e = absurd (e refl)
only_none (value ∷ next ∷ values) e = refl
