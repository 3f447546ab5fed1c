-- The field that tells an error by its name, if there is one.
use Rattle.std.specs.Prelude.{ℕ, List, [], ◌∷◌, Option, None, Some}
use Rattle.sm_http.specs.declared.message.Field.{Field}
use Rattle.sm_rest.specs.messages.Names.{error_field_name}
use Rattle.sm_rest.specs.messages.WrittenHeads.{field_of}

abbrev pub fields_telling : Option (List ℕ) → List Field
fields_telling None = []
fields_telling (Some name) = field_of error_field_name name ∷ []
