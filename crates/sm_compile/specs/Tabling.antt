-- Which numbers of a graph are shapes of a table: those of the marked shapes that have values, in order.
use Rattle.std.specs.Prelude.{◌&&◌, ◌++◌, ◌∷◌, ℕ, zero, suc, Bool, false, List, [], Option, Some, None, cond, get_or}
use Rattle.sm_model.specs.GraphView.{maps_of}
use Rattle.sm_model.specs.Reaching.{id_of_number}
use Rattle.sm_model.specs.declared.graph.Graph.{Graph}
use Rattle.sm_model.specs.declared.kind.Kind.{Kind}
use Rattle.sm_compile.specs.Kinds.{has_values}
use Rattle.sm_compile.specs.Looked.{kind_under}

-- the type of what stands at a number has values; a member has no type
abbrev pub has_values_where : Option Kind → Bool
has_values_where None = false
has_values_where (Some kind) = has_values kind

-- a marked shape that has values
abbrev pub is_tabled : Graph → List Bool → ℕ → Bool
is_tabled g marks k = get_or marks k false && has_values_where (kind_under (maps_of g) (id_of_number g k))

-- those below a bound
abbrev pub tabled_below : Graph → List Bool → ℕ → List ℕ
tabled_below g marks zero = []
tabled_below g marks (suc n) = tabled_below g marks n ++ cond (is_tabled g marks n) (n ∷ []) []
