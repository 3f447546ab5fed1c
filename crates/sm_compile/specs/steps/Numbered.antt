-- A table's shapes and members by number, and what its rows are made from.
use Rattle.std.specs.Prelude.{◌≡◌, ◌<◌, ◌≤◌, ◌+◌, ◌^◌, ℕ, zero, suc, Bool, List, [], ◌∷◌, map, length, get_or, take, Some, None, slice_get}
use Rattle.std.specs.Prelude.{unwrap_or, IsUtf8}
use Rattle.std.specs.List.{Contains, filter, flat_map}
use Rattle.std.specs.List.Sorted.{IsStrictlySortedBy}
use Rattle.std.specs.Ordering.{nat_cmp}
use Rattle.sm_ids.specs.IdText.{IsIdText}
use Rattle.sm_model.specs.Graphs.{GraphMaps, ShapeEntry, shape_entry}
use Rattle.sm_model.specs.GraphView.{IsShapeNumber, maps_of}
use Rattle.sm_model.specs.Reaching.{IsMarked, id_of_number}
use Rattle.sm_model.specs.Relations.{HasEntry}
use Rattle.sm_model.specs.declared.graph.Graph.{Graph}
use Rattle.sm_shapes.specs.InOrder.{AreByName, is_needed}
use Rattle.sm_shapes.specs.TableData.{MemberData, ShapeData, TableData, name_at, json_name_at}
use Rattle.sm_compile.specs.Compiled.{CarriesPattern, IsUnboundMember, Numbering, PatternRows, SaysMember, SaysShape, members_under}
use Rattle.sm_compile.specs.Kinds.{value_members}
use Rattle.sm_compile.specs.Sound.{IsSoundShape}
use Rattle.sm_compile.specs.steps.Looked.{LeadsByNumber, target_under}

-- the ids of a table's shapes and members, by the ids of its shapes, and by their numbers in the graph
abbrev pub numbered_by : GraphMaps → List (List ℕ) → Numbering
numbered_by g ids = record { shapes = ids; members = flat_map (members_under g) ids }

abbrev pub numbering : Graph → List ℕ → Numbering
numbering g shapes = numbered_by (maps_of g) (map (id_of_number g) shapes)

-- a shape that has a row is there and in order
pub record IsRowShape (g : GraphMaps) (id : List ℕ) : Type 0 where
  pub s : ShapeEntry
  pub there : HasEntry g id (shape_entry s)
  pub sound : IsSoundShape g id s

abbrev pub AreRowShapes : GraphMaps → List (List ℕ) → Type 0
AreRowShapes g ids = (id : List ℕ) → Contains ids id → IsRowShape g id

-- steps lead from marked numbers to marked ones
abbrev pub AreClosed : Graph → List Bool → Type 0
AreClosed g marks = (a b : ℕ) → IsMarked marks a → LeadsByNumber g a b → IsMarked marks b

-- a member of a shape of the table: its pattern is among these, and its target is in the table
pub record IsReadyMember (g : Graph) (shapes : List ℕ) (texts : List (List ℕ)) (k : ℕ) : Type 0 where
  pub carried : (u : List ℕ) → CarriesPattern (maps_of g) (id_of_number g k) u → Contains texts u
  pub target : (t : ℕ) → IsShapeNumber g t → target_under (maps_of g) (id_of_number g k) ≡ Some (id_of_number g t) → Contains shapes t

-- a shape of the table is in order, and so are its members
pub record IsReadyShape (g : Graph) (shapes : List ℕ) (texts : List (List ℕ)) (k : ℕ) : Type 0 where
  pub number : IsShapeNumber g k
  pub s : ShapeEntry
  pub there : HasEntry (maps_of g) (id_of_number g k) (shape_entry s)
  pub sound : IsSoundShape (maps_of g) (id_of_number g k) s
  pub carried : (u : List ℕ) → CarriesPattern (maps_of g) (id_of_number g k) u → Contains texts u
  pub members : (j : ℕ) → Contains (value_members s) (id_of_number g j) → IsReadyMember g shapes texts j

pub record AreReady (g : Graph) (shapes : List ℕ) (texts : List (List ℕ)) : Type 0 where
  pub few : length shapes < 2 ^ 32
  pub rise : IsStrictlySortedBy nat_cmp shapes
  pub each : (k : ℕ) → Contains shapes k → IsReadyShape g shapes texts k

-- so many numbers from one on
abbrev pub run : ℕ → ℕ → List ℕ
run first zero = []
run first (suc n) = first ∷ run (first + 1) n

-- the number of the first member of a table's shape, and how many it has
abbrev pub first_of_shape : GraphMaps → List (List ℕ) → ℕ → ℕ
first_of_shape g ids s = length (flat_map (members_under g) (take s ids))

abbrev pub count_of_shape : GraphMaps → List (List ℕ) → ℕ → ℕ
count_of_shape g ids s = length (members_under g (get_or ids s []))

-- each row says something by its place
abbrev pub EachAt : {D : Type 0} → (ℕ → D → Type 0) → List D → Type 0
EachAt Says ds = (k : ℕ) (d : _) → slice_get ds k ≡ Some d → Says k d

-- the row of a member
pub record IsMemberRow (g : GraphMaps) (ps : PatternRows) (n : Numbering) (k : ℕ) (d : MemberData) : Type 0 where
  pub behind : first_of_shape g n.shapes d.shape ≤ k
  pub before : k < first_of_shape g n.shapes d.shape + count_of_shape g n.shapes d.shape
  pub says : SaysMember g ps n (get_or n.members k []) d
  pub spelled : IsIdText (get_or n.members k [])
  pub name : IsUtf8 d.name
  pub json_name : IsUtf8 (unwrap_or d.json_name d.name)
  pub unbound : IsUnboundMember d

-- the rows of the members of so many shapes
pub record AreMemberRows (g : GraphMaps) (ps : PatternRows) (n : Numbering) (count : ℕ) (rows : List MemberData) : Type 0 where
  pub long : length rows ≡ first_of_shape g n.shapes count
  pub each : EachAt (IsMemberRow g ps n) rows

-- the rows of members, as those of a table that has nothing else
abbrev pub only_members : List MemberData → TableData
only_members rows = record { shapes = []; members = rows; patterns = [] }

-- the orders of the members that stand in the table from a number on
pub record AreOrders (rows : List MemberData) (first count : ℕ) (members by_name by_json_name needed : List ℕ) : Type 0 where
  pub all : members ≡ run first count
  pub named : AreByName (name_at (only_members rows)) members by_name
  pub json_named : AreByName (json_name_at (only_members rows)) members by_json_name
  pub must : needed ≡ filter (is_needed (only_members rows)) members

-- the row of a shape
pub record IsShapeRow (g : GraphMaps) (ps : PatternRows) (n : Numbering) (rows : List MemberData) (s : ℕ) (d : ShapeData) : Type 0 where
  pub says : SaysShape g ps n (get_or n.shapes s []) d
  pub orders : AreOrders rows (first_of_shape g n.shapes s) (count_of_shape g n.shapes s) d.members d.by_name d.by_json_name d.needed
  pub media : d.media_type ≡ None
