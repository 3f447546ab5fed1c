-- Shapes with their mixins, one for each row of a table, and what a graph is made of from them.
use Rattle.std.specs.Prelude.{ℕ, List, [], ◌∷◌, ◌++◌, map}
use Rattle.std.specs.FinMap as fin
use Rattle.sm_tree.specs.Node.{Node}
use Rattle.sm_model.specs.Graphs.{GraphMaps, MemberEntry, MemberGiven, ShapeGiven, graph_of}
use Rattle.sm_model.specs.PreludeShapes.{prelude_shapes}
use Rattle.sm_model.specs.declared.kind.Kind.{Kind}
use Rattle.sm_merge.specs.Merged.{with_enum_value}
use Rattle.sm_merge.specs.Mixins.{EffectiveShape, IsEffective}
use Rattle.sm_merge.specs.Stated.{Stated}
use Rattle.sm_merge.specs.steps.Placed.{Bare, bare_view}
use Rattle.sm_merge.specs.declared.parts.BareShape.{BareShape}

-- row by row, what a shape comes to with its mixins
abbrev pub AreEffective : List Stated → List BareShape → List EffectiveShape → Type 0
AreEffective ss [] [] = Unit {0}
AreEffective ss [] (m ∷ ms) = ⊥
AreEffective ss (r ∷ rows) [] = ⊥
AreEffective ss (r ∷ rows) (m ∷ ms) = IsEffective ss r.id m × AreEffective ss rows ms

-- as a graph is made of it: a member with its value, where it is one of an enum, and a shape
abbrev pub given_of : List ℕ → MemberEntry → MemberGiven
given_of name e = record { name = name; target = e.target; traits = fin.entries e.traits }

abbrev pub whole_member : Kind → List ℕ × MemberEntry → MemberGiven
whole_member kind m = given_of m.0 (with_enum_value kind m.0 m.1)

abbrev pub whole_shape : Bare → EffectiveShape → ShapeGiven
whole_shape b m = record {
  id = b.id;
  kind = b.kind;
  members = map (whole_member b.kind) m.members;
  properties = b.properties;
  traits = fin.entries m.traits;
}

abbrev pub whole_shapes : List BareShape → List EffectiveShape → List ShapeGiven
whole_shapes [] ms = []
whole_shapes (r ∷ rows) [] = []
whole_shapes (r ∷ rows) (m ∷ ms) = whole_shape (bare_view r) m ∷ whole_shapes rows ms

-- with the shapes of the prelude
abbrev pub whole_graph : List BareShape → List EffectiveShape → List (List ℕ × Node) → GraphMaps
whole_graph rows ms metadata = graph_of (whole_shapes rows ms ++ prelude_shapes) metadata
