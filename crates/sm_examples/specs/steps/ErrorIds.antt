-- Whether the error at a place has an id.
use Rattle.std.specs.Prelude.{◌≡◌, ℕ, Bool, List}
use Rattle.std.specs.Str.{bytes_eq}
use Rattle.sm_messages.specs.service.declared.error.ErrorShape.{ErrorShape}
use Rattle.sm_examples.specs.Entries.{id_at_place}

abbrev pub IsErrorNamed : List ErrorShape → ℕ → List ℕ → Bool → Type 0
IsErrorNamed es place id told = told ≡ bytes_eq (id_at_place es place) id
