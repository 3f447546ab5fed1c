-- What a list of fields in the code stands for.
use Rattle.std.specs.Prelude.{ℕ, List, map}
use denote.Ref.{Bor}
use Rattle.sm_model.specs.Properties.{TypeFields}
use Rattle.sm_model.specs.declared.property.PropertyForm.{PropertyForm}

abbrev pub fields_view : List (Bor (List ℕ) × PropertyForm) → TypeFields
fields_view fs = map (λ f. (f.0.now, f.1)) fs
