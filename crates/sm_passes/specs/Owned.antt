-- Shapes outside of the prelude, as tests.
use Rattle.std.specs.Prelude.{◌&&◌, ℕ, Bool, true, false, not, List, Option, Some, None, cond}
use Rattle.std.specs.FinMap as fin
use Rattle.sm_model.specs.Graphs.{GraphMaps, Entry, shape_entry, member_entry}
use Rattle.sm_model.specs.PreludeShapes.{is_prelude_id}
use Rattle.sm_model.specs.declared.kind.Kind.{Kind}
use Rattle.sm_model.specs.declared.kind.Kind.TheVariants.{Service}
use Rattle.sm_compile.specs.Looked.{kind_under}

abbrev pub is_service : Option Kind → Bool
is_service (Some Service) = true
is_service other = false

abbrev pub is_own_service : GraphMaps → List ℕ → Bool
is_own_service g id = is_service (kind_under g id) && not (is_prelude_id id)

abbrev pub is_shape : Option Entry → Bool
is_shape None = false
is_shape (Some (shape_entry s)) = true
is_shape (Some (member_entry m)) = false

abbrev pub is_own_shape : GraphMaps → List ℕ → Bool
is_own_shape g id = is_shape (fin.get g.shapes id) && not (is_prelude_id id)

abbrev pub is_member_in : Option Entry → Bool
is_member_in None = false
is_member_in (Some (shape_entry s)) = false
is_member_in (Some (member_entry m)) = true

-- the type of a shape outside of the prelude
abbrev pub own_kind : GraphMaps → List ℕ → Option Kind
own_kind g id = cond (is_prelude_id id) None (kind_under g id)
