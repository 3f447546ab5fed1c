-- Whether a text is a shape id, as a test: the productions of Smithy 2.0 ("Shape ID") by the parts between `#` and `$`.
use Rattle.std.specs.Prelude.{◌&&◌, ℕ, Bool, false, List, [], ◌∷◌}
use Rattle.std.specs.List.{list_all, slice_split}
use Rattle.sm_bytes.specs.Ascii.{number_sign, dollar}
pub use Rattle.sm_ids.specs.TextParts.{has_member}
use Rattle.sm_ids.specs.TextParts.{is_byte}
use Rattle.sm_ids.specs.Identifier.{is_identifier, identifiers}

-- Identifier ["$" Identifier]
abbrev pub are_names : List (List ℕ) → Bool
are_names [] = false
are_names (name ∷ []) = is_identifier name
are_names (name ∷ m ∷ []) = is_identifier name && is_identifier m
are_names (name ∷ m ∷ more ∷ parts) = false

-- Namespace "#" Identifier ["$" Identifier]
abbrev pub are_id_parts : List (List ℕ) → Bool
are_id_parts [] = false
are_id_parts (namespace ∷ []) = false
are_id_parts (namespace ∷ name ∷ []) = list_all is_identifier (identifiers namespace) && are_names (slice_split (is_byte dollar) name)
are_id_parts (namespace ∷ name ∷ more ∷ parts) = false

abbrev pub is_id : List ℕ → Bool
is_id t = are_id_parts (slice_split (is_byte number_sign) t)
