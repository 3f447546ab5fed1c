-- Where an operation's walk begins, in the code: a shape's number in the graph.
use Rattle.std.specs.Prelude.{ℕ, List, [], ◌∷◌, codes, map}
use Rattle.sm_model.specs.Graphs.{GraphMaps, MemberEntry, member_entry, member_id}
use Rattle.sm_model.specs.Reaching.{id_of_number}
use Rattle.sm_model.specs.Relations.{HasEntry}
use Rattle.sm_model.specs.declared.graph.Graph.{Graph}
use Rattle.sm_service.specs.ServedOperation.{WalkRoot, walk_root}
use Rattle.sm_service.specs.declared.serving.WalkStart.{WalkStart}
use Rattle.sm_service.specs.declared.serving.WalkStart.TheVariants as start

-- the names with which paths from there begin
abbrev pub start_names : WalkStart → List (List ℕ)
start_names (start.Input shape) = codes "input" ∷ []
start_names (start.Output shape) = codes "output" ∷ []
start_names (start.Error name shape) = codes "error" ∷ name.now ∷ []

abbrev pub start_shape : WalkStart → ℕ
start_shape (start.Input shape) = shape
start_shape (start.Output shape) = shape
start_shape (start.Error name shape) = shape

abbrev pub root_of : Graph → WalkStart → WalkRoot
root_of g w = walk_root (start_names w) (id_of_number g (start_shape w))

abbrev pub roots_of : Graph → List WalkStart → List WalkRoot
roots_of g ws = map (root_of g) ws

-- each member has a name
abbrev pub HasFilledNames : GraphMaps → Type 0
HasFilledNames g = (shape : List ℕ) (m : MemberEntry) → HasEntry g (member_id shape []) (member_entry m) → ⊥
