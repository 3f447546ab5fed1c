-- What a graph of the code stands for: its two maps, and what stands at a number.
use Rattle.std.specs.Prelude.{◌≡◌, ◌<◌, ℕ, Bool, true, false, List, [], ◌∷◌, length, slice_get, IsSomeAnd, Some}
use Rattle.std.specs.FinMap as fin
use Rattle.sm_tree.specs.Node.{Node}
use Rattle.sm_tree.specs.View.{pairs_view}
use Rattle.sm_model.specs.Graphs.{Entry, shape_entry, member_entry, GraphMaps}
use Rattle.sm_model.specs.GraphRows.{ids_of, entries_of_rows}
use Rattle.sm_model.specs.declared.kind.Kind.{Kind}
use Rattle.sm_model.specs.declared.graph.Graph.{Graph}

-- the entries of a graph, in the order of their ids: the number of a shape or member is its place here
abbrev pub entries_of : Graph → List (List ℕ × Entry)
entries_of g = entries_of_rows g.rows.items

-- the ids of a graph, by number
abbrev pub ids : Graph → List (List ℕ)
ids g = ids_of g.rows.items

-- the two maps of a graph
abbrev pub maps_of : Graph → GraphMaps
maps_of g = record { shapes = fin.from_sorted (entries_of g); metadata = fin.from_sorted (pairs_view g.metadata) }

-- the number is that of a shape or member
abbrev pub IsShapeNumber : Graph → ℕ → Type 0
IsShapeNumber g s = s < length (entries_of g)

abbrev pub AreShapeNumbers : Graph → List ℕ → Type 0
AreShapeNumbers g [] = Unit {0}
AreShapeNumbers g (s ∷ ss) = IsShapeNumber g s × AreShapeNumbers g ss

-- what stands at a number, with its id
abbrev pub At : Graph → ℕ → (List ℕ → Entry → Type 0) → Type 0
At g s Is = IsSomeAnd (slice_get (entries_of g) s) (λ e. Is e.0 e.1)

-- the number of an id: at this number stand the id and what the map has under it
abbrev pub Stands : Graph → ℕ → List ℕ → Type 0
Stands g s id = At g s (λ found e. (found ≡ id) × (fin.get (maps_of g).shapes id ≡ Some e))

-- it is a shape, and no member
abbrev pub IsShapeEntry : Entry → Type 0
IsShapeEntry (shape_entry s) = Unit {0}
IsShapeEntry (member_entry m) = ⊥

abbrev pub IsShapeAt : Graph → ℕ → Type 0
IsShapeAt g s = At g s (λ id e. IsShapeEntry e)

abbrev pub is_member_entry : Entry → Bool
is_member_entry (shape_entry s) = false
is_member_entry (member_entry m) = true

abbrev pub HasKind : Kind → Entry → Type 0
HasKind kind (shape_entry s) = s.kind ≡ kind
HasKind kind (member_entry m) = ⊥

-- a member has no members
abbrev pub HasMembers : List (List ℕ) → Entry → Type 0
HasMembers ids (shape_entry s) = s.members ≡ ids
HasMembers ids (member_entry m) = ids ≡ []

abbrev pub HasBodyNode : Node → Entry → Type 0
HasBodyNode n (shape_entry s) = s.properties ≡ n
HasBodyNode n (member_entry m) = ⊥

abbrev pub IsMemberEntry : Entry → Type 0
IsMemberEntry (shape_entry s) = ⊥
IsMemberEntry (member_entry m) = Unit {0}

abbrev pub IsMemberAt : Graph → ℕ → Type 0
IsMemberAt g m = At g m (λ id e. IsMemberEntry e)

abbrev pub Targets : List ℕ → Entry → Type 0
Targets id (shape_entry s) = ⊥
Targets id (member_entry m) = m.target ≡ id

-- the id that a member targets
abbrev pub target_of : Entry → List ℕ
target_of (shape_entry s) = []
target_of (member_entry m) = m.target
