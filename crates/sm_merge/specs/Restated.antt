-- Statements that state a part of a graph again: its metadata, and some of its shapes whole, each once, with their members and
-- traits. They merge to this part: mixins are in the graph already, and no statement applies traits.
use Rattle.std.specs.Prelude.{◌≡◌, ◌||◌, ℕ, Bool, true, false, List, [], ◌∷◌, map, Some}
use Rattle.std.specs.FinMap as fin
use Rattle.sm_tree.specs.Node.{Node}
use Rattle.sm_model.specs.Graphs.{GraphMaps, MemberGiven, NodeMap, ShapeEntry, ShapeGiven, ShapeMap, member_entry, member_id, shape_entry}
use Rattle.sm_model.specs.PreludeShapes.{is_prelude_id}
use Rattle.sm_model.specs.EventView.{EventTold}
use Rattle.sm_model.specs.Said.{Said}
use Rattle.sm_model.specs.Used.{shape_part}
use Rattle.sm_merge.specs.Stated.{AreFormedFiles, ShapeStated, Stated, apply_stated, metadata_stated, shape_stated, stated_by}
use Rattle.sm_merge.specs.Places.{metadata_values, shapes_under}
use Rattle.sm_merge.specs.Merged.{IsGraphOf, IsWrong}

-- a member as a graph has it
pub record IsMemberIn (shapes : ShapeMap) (shape : List ℕ) (m : MemberGiven) : Type 0 where
  pub traits : NodeMap
  pub found : fin.get shapes (member_id shape m.name) ≡ Some (member_entry (record { target = m.target; traits = traits }))
  pub same : m.traits ≡ fin.entries traits

abbrev pub AreMembersIn : ShapeMap → List ℕ → List MemberGiven → Type 0
AreMembersIn shapes shape [] = Unit {0}
AreMembersIn shapes shape (m ∷ ms) = IsMemberIn shapes shape m × AreMembersIn shapes shape ms

-- a shape as a graph has it, with its members in their order
pub record IsShapeIn (shapes : ShapeMap) (s : ShapeGiven) : Type 0 where
  pub traits : NodeMap
  pub found : fin.get shapes s.id ≡ Some (shape_entry (record {
    kind = s.kind;
    members = map (λ m. member_id s.id m.name) s.members;
    properties = s.properties;
    traits = traits;
  }))
  pub same : s.traits ≡ fin.entries traits
  pub members : AreMembersIn shapes s.id s.members

-- a statement of what a graph has: of its metadata, or of a shape outside the prelude whose id passes
abbrev pub StatesOf : (List ℕ → Bool) → GraphMaps → Stated → Type 0
StatesOf keeps g (metadata_stated key value) = fin.get g.metadata key ≡ Some value
StatesOf keeps g (shape_stated s) =
    (s.mixins ≡ []) × IsShapeIn g.shapes s.shape × (is_prelude_id s.shape.id ≡ false) × (keeps s.shape.id ≡ true)
StatesOf keeps g (apply_stated id traits) = ⊥

abbrev pub AllStateOf : (List ℕ → Bool) → GraphMaps → List Stated → Type 0
AllStateOf keeps g [] = Unit {0}
AllStateOf keeps g (s ∷ ss) = StatesOf keeps g s × AllStateOf keeps g ss

-- each shape that passes is stated, once, and all metadata
pub record StatesPart (keeps : List ℕ → Bool) (g : GraphMaps) (ss : List Stated) : Type 0 where
  pub each : AllStateOf keeps g ss
  pub shapes : (id : List ℕ) (s : ShapeEntry) → fin.get g.shapes id ≡ Some (shape_entry s) → is_prelude_id id ≡ false
      → keeps id ≡ true → (t : ShapeStated) × (shapes_under id ss ≡ t ∷ [])
  pub metadata : (key : List ℕ) (n : Node) → fin.get g.metadata key ≡ Some n → metadata_values ss key ≡ [] → ⊥

-- an id is kept by that of its shape, and in the prelude
abbrev pub is_kept : (List ℕ → Bool) → List ℕ → Bool
is_kept keeps id = is_prelude_id (shape_part id) || keeps (shape_part id)

-- the part of a graph: shapes that are kept with their members, and all metadata
abbrev pub part_of : (List ℕ → Bool) → GraphMaps → GraphMaps
part_of keeps g = record { shapes = fin.retain_keys g.shapes (is_kept keeps); metadata = g.metadata }

-- statements come to a graph, and nothing is wrong with them
pub record ComesTo (ss : List Stated) (h : GraphMaps) : Type 0 where
  pub graph : IsGraphOf ss h
  pub nothing_wrong : (e : EventTold) → IsWrong ss e → ⊥

-- those that state a part of a merged graph come to this part
abbrev pub StatedAgain : Type 0
StatedAgain = (files : List (List Said)) (g : GraphMaps) (keeps : List ℕ → Bool) (ss : List Stated) → AreFormedFiles files
    → IsGraphOf (stated_by files) g → StatesPart keeps g ss → ComesTo ss (part_of keeps g)
