-- What the rows of a table tell of a shape and of a member, by their numbers in the graph.
use Rattle.std.specs.Prelude.{◌≡◌, ℕ, None, Some, is_some}
use Rattle.std.specs.Option.{option_map}
use Rattle.std.specs.Str.{bytes_eq}
use Rattle.sm_tree.specs.View.{node_of}
use Rattle.sm_model.specs.GraphView.{maps_of}
use Rattle.sm_model.specs.PreludeShapes.{unit_id}
use Rattle.sm_model.specs.Reaching.{id_of_number}
use Rattle.sm_model.specs.declared.graph.Graph.{Graph}
use Rattle.sm_model.specs.declared.kind.Kind.{Kind}
use Rattle.sm_shapes.specs.declared.tables.TableMember.{TableMember}
use Rattle.sm_shapes.specs.declared.tables.TableShape.{TableShape}
use Rattle.sm_compile.specs.Kinds.{table_kind}
use Rattle.sm_compile.specs.Said.{format_seen}
use Rattle.sm_compile.specs.Sound.{trait_of}
use Rattle.sm_compile.specs.TraitIds.{json_name_id, required_id, sparse_id, unique_items_id}
use Rattle.sm_compile.specs.TraitNodes.{text_of}
use Rattle.sm_compile.specs.declared.rows.MemberOrders.{MemberOrders}
use Rattle.sm_compile.specs.declared.rows.MemberPlace.{MemberPlace}
use Rattle.sm_compile.specs.steps.Looked.{listed_under}
use Rattle.sm_compile.specs.steps.Seeing.{TellConstraints, default_under, traits_seen}

-- all that a row says of a shape but for the numbers in it
pub record TellsShape (g : Graph) (shape : ℕ) (kind : Kind) (row : TableShape) : Type 0 where
  pub its_kind : row.kind ≡ table_kind kind
  pub constraints : TellConstraints (maps_of g) kind (listed_under (maps_of g) (id_of_number g shape)) (traits_seen g shape None)
      row.constraints
  pub unique : row.unique ≡ is_some (trait_of (maps_of g) (id_of_number g shape) unique_items_id)
  pub sparse : row.sparse ≡ is_some (trait_of (maps_of g) (id_of_number g shape) sparse_id)
  pub unit : row.unit ≡ bytes_eq (id_of_number g shape) unit_id
  pub format : row.format ≡ format_seen (traits_seen g shape None)
  pub media : row.media_type ≡ None

-- these numbers stand in the row
pub record AreNumbers (orders : MemberOrders) (row : TableShape) : Type 0 where
  pub members : row.members ≡ orders.members.items
  pub by_name : row.by_name ≡ orders.by_name.items
  pub by_json_name : row.by_json_name ≡ orders.by_json_name.items
  pub needed : row.needed ≡ orders.needed.items

-- all that a row says of a member but for its name and the numbers in it
pub record TellsMember (g : Graph) (place : MemberPlace) (row : TableMember) : Type 0 where
  pub json_name : row.json_name ≡ text_of (trait_of (maps_of g) (id_of_number g place.member) json_name_id)
  pub required : row.required ≡ is_some (trait_of (maps_of g) (id_of_number g place.member) required_id)
  pub constraints : TellConstraints (maps_of g) place.target_kind (listed_under (maps_of g) (id_of_number g place.target))
      (traits_seen g place.member (Some place.target)) row.constraints
  pub format : row.format ≡ format_seen (traits_seen g place.member (Some place.target))
  pub media : row.media_type ≡ None
  pub binding : row.binding ≡ None
  pub default_node : option_map node_of row.default_node
      ≡ default_under (maps_of g) (id_of_number g place.member) place.home_kind place.target_kind
  pub no_default : row.default ≡ None

-- it stands in this row, and has this target's
pub record MemberPlaced (place : MemberPlace) (row : TableMember) : Type 0 where
  pub home : row.shape ≡ place.home_row
  pub target : row.target ≡ place.target_row
