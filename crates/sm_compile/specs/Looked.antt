-- What stands under an id, as functions: the type and the members of a shape, the target of a member.
use Rattle.std.specs.Prelude.{ℕ, Bool, false, List, [], Option, Some, None}
use Rattle.std.specs.FinMap as fin
use Rattle.std.specs.Str.{bytes_eq}
use Rattle.sm_model.specs.Graphs.{Entry, shape_entry, member_entry, GraphMaps}
use Rattle.sm_model.specs.PreludeShapes.{unit_id}
use Rattle.sm_model.specs.declared.kind.Kind.{Kind}

-- the type of a shape; a member has none
abbrev pub kind_in : Option Entry → Option Kind
kind_in None = None
kind_in (Some (shape_entry s)) = Some s.kind
kind_in (Some (member_entry m)) = None

abbrev pub kind_under : GraphMaps → List ℕ → Option Kind
kind_under g id = kind_in (fin.get g.shapes id)

-- the members of a shape; a member has none
abbrev pub listed_in : Option Entry → List (List ℕ)
listed_in None = []
listed_in (Some (shape_entry s)) = s.members
listed_in (Some (member_entry m)) = []

abbrev pub listed_under : GraphMaps → List ℕ → List (List ℕ)
listed_under g id = listed_in (fin.get g.shapes id)

-- the id that a member targets; a shape targets none
abbrev pub target_in : Option Entry → Option (List ℕ)
target_in None = None
target_in (Some (shape_entry s)) = None
target_in (Some (member_entry m)) = Some m.target

abbrev pub target_under : GraphMaps → List ℕ → Option (List ℕ)
target_under g id = target_in (fin.get g.shapes id)

-- the type of the shape that a member targets, where the graph has it
abbrev pub kind_where : GraphMaps → Option (List ℕ) → Option Kind
kind_where g None = None
kind_where g (Some id) = kind_under g id

abbrev pub target_kind : GraphMaps → List ℕ → Option Kind
target_kind g id = kind_where g (target_under g id)

-- the target is the prelude's unit
abbrev pub is_unit : Option (List ℕ) → Bool
is_unit None = false
is_unit (Some id) = bytes_eq id unit_id

abbrev pub targets_unit : GraphMaps → List ℕ → Bool
targets_unit g id = is_unit (target_under g id)
