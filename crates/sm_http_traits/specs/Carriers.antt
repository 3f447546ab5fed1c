-- Operations and structures outside of the prelude, as tests.
use Rattle.std.specs.Prelude.{◌&&◌, ℕ, Bool, true, false, not, List, Option, Some}
use Rattle.sm_model.specs.Graphs.{GraphMaps}
use Rattle.sm_model.specs.PreludeShapes.{is_prelude_id}
use Rattle.sm_model.specs.declared.kind.Kind.{Kind}
use Rattle.sm_model.specs.declared.kind.Kind.TheVariants.{Operation, Structure}
use Rattle.sm_compile.specs.Looked.{kind_under}

abbrev pub is_structure : Option Kind → Bool
is_structure (Some Structure) = true
is_structure other = false

abbrev pub is_own_structure : GraphMaps → List ℕ → Bool
is_own_structure g id = is_structure (kind_under g id) && not (is_prelude_id id)

abbrev pub is_operation : Option Kind → Bool
is_operation (Some Operation) = true
is_operation other = false

abbrev pub is_own_operation : GraphMaps → List ℕ → Bool
is_own_operation g id = is_operation (kind_under g id) && not (is_prelude_id id)
