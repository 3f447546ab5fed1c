-- What tables of statements tell: a refusal, or what the graph is made of.
use Rattle.std.specs.Prelude.{◌≡◌, ◌<◌, ◌++◌, ℕ, List, length, Result, Ok, Err}
use Rattle.std.specs.Global.{Vec}
use Rattle.sm_model.specs.Given.{AreGiven}
use Rattle.sm_model.specs.Graphs.{GraphMaps, ShapeGiven, graph_of}
use Rattle.sm_model.specs.GraphView.{maps_of}
use Rattle.sm_model.specs.PreludeShapes.{prelude_shapes}
use Rattle.sm_model.specs.declared.graph.Graph.{Graph}
use Rattle.sm_merge.specs.Answers.{StatementsComeTo}
use Rattle.sm_merge.specs.Stated.{Stated}
use Rattle.sm_merge.specs.declared.effective.ShapeTraits.{ShapeTraits}
use Rattle.sm_merge.specs.declared.firsts.NamedTarget.{NamedTarget}
use Rattle.sm_merge.specs.Limits.{most_members_in_all, most_shapes, most_in_traits}
use Rattle.sm_merge.specs.declared.mixins.Contributing.{Contributing}
use Rattle.sm_merge.specs.declared.refusal.MergeRefusal.{MergeRefusal}
use Rattle.sm_merge.specs.declared.refusal.MergeRefusal.TheVariants.{Limit, NoMemory, Rejected}
use Rattle.sm_merge.specs.declared.shape_parts.ShapePart.{ShapePart}
use Rattle.sm_merge.specs.declared.tables.Tables.{Tables}
use Rattle.sm_merge.specs.declared.walk.Walk.{Walk}
use Rattle.sm_merge.specs.steps.AllTables.{AreTablesOf}
use Rattle.sm_merge.specs.steps.Contributing.{AreWalkedTables}
use Rattle.sm_merge.specs.steps.EffectiveTables.{AreEffectiveTables, AreMembersOf}
use Rattle.sm_merge.specs.steps.Filling.{HasMixedMembers, IsFilled}
use Rattle.sm_merge.specs.steps.Links.{At}
use Rattle.sm_merge.specs.steps.Made.{HaveManyMembers, made_shapes, members_count, metadata_pairs, parted_shapes, shapes_size}
use Rattle.sm_merge.specs.steps.MixedIn.{AreMixedIn}
use Rattle.sm_merge.specs.steps.SoundStated.{AreSoundStated}

-- tables of statements that a graph may be made of
pub record AreSoundTables (ss : List Stated) (t : Tables) : Type 0 where
  pub sound : AreSoundStated ss
  pub tables : AreTablesOf ss t

-- the graph that is made of tables and of parts of their shapes
abbrev pub all_parted : Tables → List ShapePart → List ShapeGiven
all_parted t parts = parted_shapes t.shapes.rows.items parts ++ prelude_shapes

abbrev pub parted_graph : Tables → List ShapePart → GraphMaps
parted_graph t parts = graph_of (all_parted t parts) (metadata_pairs t.metadata.items)

abbrev pub PartsTell : List Stated → Tables → Result (Vec ShapePart) MergeRefusal → Type 0
PartsTell ss t (Ok parts) =
    AreGiven (all_parted t parts.items) (metadata_pairs t.metadata.items)
    × ((g : Graph) → maps_of g ≡ parted_graph t parts.items → StatementsComeTo ss (Ok g))
PartsTell ss t (Err refusal) = StatementsComeTo ss (Err refusal)

-- the graph is the one that is made
abbrev pub Builds : Tables → List ShapePart → Result Graph MergeRefusal → Type 0
Builds t parts (Ok g) = maps_of g ≡ parted_graph t parts
Builds t parts (Err NoMemory) = Unit {0}
Builds t parts (Err (Limit kind)) = ⊥
Builds t parts (Err (Rejected es)) = ⊥

-- with the walk over mixins, those that contribute, and the names of members; shapes aren't too many, nor are members of one
pub record AreNamedTables (ss : List Stated) (t : Tables) (walk : Walk) (mixed : List (Vec Contributing)) (members : List (Vec NamedTarget))
    : Type 0 where
  pub sound : AreSoundTables ss t
  pub walked : AreWalkedTables ss t.shapes.rows.items t.traits.items walk
  pub mixed_in : AreMixedIn ss t.shapes.rows.items mixed
  pub filled : IsFilled (HasMixedMembers t.shapes.rows.items mixed) walk.order.items (length walk.order.items) members
  pub named : AreMembersOf ss t.shapes.rows.items members
  pub few : most_shapes < length t.shapes.rows.items → ⊥
  pub short : HaveManyMembers members → ⊥

-- and with traits; nor are all members too many, nor traits too large
pub record AreWholeTables (ss : List Stated) (t : Tables) (walk : Walk) (mixed : List (Vec Contributing)) (members : List (Vec NamedTarget))
    (all : List ShapeTraits) : Type 0 where
  pub names : AreNamedTables ss t walk mixed members
  pub effective : AreEffectiveTables ss t.shapes.rows.items members all
  pub fewer : most_members_in_all < members_count members → ⊥
  pub small : most_in_traits < shapes_size (made_shapes t.shapes.rows.items members all) → ⊥

abbrev pub IsWithin : Walk → Tables → Type 0
IsWithin walk t = (k v : ℕ) → At walk.order.items k v → v < length t.shapes.rows.items
