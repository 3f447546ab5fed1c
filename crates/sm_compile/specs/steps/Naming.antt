-- Names of members by their ids, and lists of texts of the code.
use Rattle.std.specs.Prelude.{◌≡◌, ℕ, ℤ, Bool, not, List, map, Option, Some, None}
use denote.Ref.{Bor}
use Rattle.sm_model.specs.Graphs.{GraphMaps, member_id}
use Rattle.sm_shapes.specs.Broken.{has_twice}
use Rattle.sm_shapes.specs.Values.{text_val, int_val}
use Rattle.sm_compile.specs.Sound.{json_name_of}
use Rattle.sm_compile.specs.declared.names.Names.{Names}

-- texts that are borrowed
abbrev pub texts_of_all : List (Bor (List ℕ)) → List (List ℕ)
texts_of_all ts = map (λ t. t.now) ts

-- these are the ids of members of these names, which have these names in JSON
pub record AreNames (g : GraphMaps) (shape : List ℕ) (ids names json_names : List (List ℕ)) : Type 0 where
  pub named : ids ≡ map (member_id shape) names
  pub json_named : json_names ≡ map (json_name_of g shape) names

-- or they are of no names
abbrev pub TellsNames : GraphMaps → List ℕ → List (List ℕ) → Option Names → Type 0
TellsNames g shape ids None = (names : List (List ℕ)) → ids ≡ map (member_id shape) names → ⊥
TellsNames g shape ids (Some n) = AreNames g shape ids (texts_of_all n.names.items) (texts_of_all n.json_names.items)

-- no text, and no number, stands twice
abbrev pub all_differ : List (List ℕ) → Bool
all_differ ts = not (has_twice (map text_val ts))

abbrev pub all_numbers_differ : List ℤ → Bool
all_numbers_differ zs = not (has_twice (map int_val zs))
