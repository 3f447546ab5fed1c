-- Services outside of the prelude, as a test.
use Rattle.std.specs.Prelude.{◌&&◌, ℕ, Bool, true, false, not, List, Option, Some}
use Rattle.sm_model.specs.Graphs.{GraphMaps}
use Rattle.sm_model.specs.PreludeShapes.{is_prelude_id}
use Rattle.sm_model.specs.declared.kind.Kind.{Kind}
use Rattle.sm_model.specs.declared.kind.Kind.TheVariants.{Service}
use Rattle.sm_compile.specs.Looked.{kind_under}

abbrev pub is_service : Option Kind → Bool
is_service (Some Service) = true
is_service other = false

abbrev pub is_own_service : GraphMaps → List ℕ → Bool
is_own_service g id = is_service (kind_under g id) && not (is_prelude_id id)
