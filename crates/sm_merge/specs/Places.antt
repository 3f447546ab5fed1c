-- Which statement defines a shape, and which values are given at a shape or a member, directly and by `apply` (Smithy 2.0,
-- "Merging models", "apply statement"). A statement for a shape of the prelude contributes nothing.
use Rattle.std.specs.Prelude.{◌≡◌, ◌&&◌, ℕ, not, List, [], ◌∷◌, map, filter_map, Option, Some, None, if◌then◌else◌}
use Rattle.std.specs.List.{flat_map, slice_get}
use Rattle.std.specs.Str.{bytes_eq}
use Rattle.sm_tree.specs.Node.{Node}
use Rattle.sm_tree.specs.Same.{Same}
use Rattle.sm_model.specs.Graphs.{MemberGiven, ShapeGiven, member_id}
use Rattle.sm_model.specs.PreludeShapes.{is_prelude_id}
use Rattle.sm_merge.specs.Stated.{ShapeStated, Stated, metadata_stated, shape_stated, apply_stated}

-- the shape that a statement defines, outside of the prelude
abbrev pub defined_by : List ℕ → Stated → Option ShapeStated
defined_by id (metadata_stated key value) = None
defined_by id (shape_stated s) = if bytes_eq s.shape.id id && not (is_prelude_id id) then Some s else None
defined_by id (apply_stated target traits) = None

-- the shapes that are stated under an id, in order; the first stays
abbrev pub shapes_under : List ℕ → List Stated → List ShapeStated
shapes_under id ss = filter_map (defined_by id) ss

abbrev pub shape_under : List ℕ → List Stated → Option ShapeStated
shape_under id ss = slice_get (shapes_under id ss) 0

abbrev pub mixins_of : Option ShapeStated → List (List ℕ)
mixins_of None = []
mixins_of (Some s) = s.mixins

-- two statements for one shape say the same of it: traits are no part of it
abbrev pub names_and_targets : List MemberGiven → List (List ℕ × List ℕ)
names_and_targets ms = map (λ m. (m.name, m.target)) ms

pub record Agree (s t : ShapeStated) : Type 0 where
  pub kind : s.shape.kind ≡ t.shape.kind
  pub members : names_and_targets s.shape.members ≡ names_and_targets t.shape.members
  pub mixins : s.mixins ≡ t.mixins
  pub properties : Same s.shape.properties t.shape.properties

-- the traits that a statement gives at a shape or member
abbrev pub member_traits_at : List ℕ → List ℕ → MemberGiven → List (List ℕ × Node)
member_traits_at place shape m = if bytes_eq (member_id shape m.name) place then m.traits else []

abbrev pub shape_traits_at : List ℕ → ShapeGiven → List (List ℕ × Node)
shape_traits_at place s = if bytes_eq s.id place then s.traits else flat_map (member_traits_at place s.id) s.members

abbrev pub traits_at : List ℕ → Stated → List (List ℕ × Node)
traits_at place (metadata_stated key value) = []
traits_at place (shape_stated s) = shape_traits_at place s.shape
traits_at place (apply_stated target traits) = if bytes_eq target place then traits else []

-- the values under a name, in order
abbrev pub value_under : List ℕ → List ℕ × Node → Option Node
value_under name p = if bytes_eq p.0 name then Some p.1 else None

abbrev pub values_under : List ℕ → List (List ℕ × Node) → List Node
values_under name ps = filter_map (value_under name) ps

-- the values of a trait at a shape or member, in the order of the files and of what stands in each
abbrev pub trait_values : List Stated → List ℕ → List ℕ → List Node
trait_values ss place name = values_under name (flat_map (traits_at place) ss)

-- metadata of one key
abbrev pub metadata_by : Stated → List (List ℕ × Node)
metadata_by (metadata_stated key value) = (key, value) ∷ []
metadata_by (shape_stated s) = []
metadata_by (apply_stated target traits) = []

abbrev pub metadata_values : List Stated → List ℕ → List Node
metadata_values ss key = values_under key (flat_map metadata_by ss)
