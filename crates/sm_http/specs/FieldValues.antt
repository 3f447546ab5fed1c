-- What the fields of a head say by a name (RFC 9110, section 5). Names are compared without regard to the case of letters.
use Rattle.std.specs.Prelude.{ℕ, List, [], ◌∷◌, if◌then◌else◌, Option, Some, None}
use Rattle.std.specs.Str.{str_eq_ignore_ascii_case}
use Rattle.sm_http.specs.declared.message.Field.{Field}

-- the values of the fields with that name, in their order
abbrev pub values_named : List ℕ → List Field → List (List ℕ)
values_named name [] = []
values_named name (f ∷ fs) =
    if str_eq_ignore_ascii_case f.name name then f.value ∷ values_named name fs else values_named name fs

abbrev pub first_value : List (List ℕ) → Option (List ℕ)
first_value [] = None
first_value (value ∷ values) = Some value

-- the one value there is
abbrev pub only_value : List (List ℕ) → Option (List ℕ)
only_value [] = None
only_value (value ∷ []) = Some value
only_value (value ∷ next ∷ values) = None
