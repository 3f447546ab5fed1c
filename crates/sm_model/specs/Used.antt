-- The shape that a file uses under a name (Smithy 2.0, IDL, "use_section"): that of the first id with the name.
use Rattle.std.specs.Prelude.{ℕ, List, [], ◌∷◌, Option, Some, None, if◌then◌else◌}
use Rattle.std.specs.Str.{bytes_eq}
pub use Rattle.sm_ids.specs.TextParts.{is_byte, name_part, shape_part}

-- the first of the ids with this name, without its member
abbrev pub used_under : List ℕ → List (List ℕ) → Option (List ℕ)
used_under name [] = None
used_under name (id ∷ ids) = if bytes_eq (name_part id) name then Some (shape_part id) else used_under name ids
