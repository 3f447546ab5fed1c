-- The list of members that a graph shows to HTTP bindings: the same as that of a table of it. What rules deny of a graph is carried over by
-- this list, and by nothing else of a table.
use Rattle.std.specs.Prelude.{◌≡◌, ℕ, List, [], map, Option, Some, None, is_some}
use Rattle.sm_model.specs.Graphs.{GraphMaps, MemberEntry, member_entry, member_id}
use Rattle.sm_model.specs.Relations.{HasEntry}
use Rattle.sm_model.specs.declared.kind.Kind.{Kind}
use Rattle.sm_shapes.specs.InOrder.{Shaped}
use Rattle.sm_shapes.specs.declared.kinds.ShapeKind.{ShapeKind}
use Rattle.sm_shapes.specs.declared.kinds.ShapeKind.TheVariants.{LeftOut}
use Rattle.sm_compile.specs.Compiled.{EachSays, members_under}
use Rattle.sm_compile.specs.Kinds.{table_kind}
use Rattle.sm_compile.specs.Looked.{kind_under, target_under}
use Rattle.sm_compile.specs.Sound.{trait_of}
use Rattle.sm_compile.specs.TraitIds.{required_id, sparse_id}
use Rattle.std.specs.Option.{unwrap_or}
use Rattle.sm_rules.specs.Words.{has_trait}
use Rattle.sm_service.specs.Bound.{SaysBinding}
use Rattle.sm_service.specs.Compiled.{IsNumberOf, IsServiceOf}
use Rattle.sm_service.specs.ServiceData.{ServiceData}
use Rattle.sm_service.specs.WireMembers.{InnerSeen, TargetSeen, WireMember, wire_members}

-- the kind of what stands under an id; the id that a member targets
abbrev pub kind_in_table : Option Kind → ShapeKind
kind_in_table None = LeftOut
kind_in_table (Some kind) = table_kind kind

abbrev pub kind_said : GraphMaps → List ℕ → ShapeKind
kind_said g id = kind_in_table (kind_under g id)

abbrev pub targeted : GraphMaps → List ℕ → List ℕ
targeted g member = unwrap_or (target_under g member) []

abbrev pub inner_under : GraphMaps → List ℕ → InnerSeen
inner_under g id = record {
  kind = kind_said g id;
  sparse = is_some (trait_of g id sparse_id);
  inner = map (λ m. kind_said g (targeted g m)) (members_under g id);
}

abbrev pub target_seen_under : GraphMaps → List ℕ → TargetSeen
target_seen_under g id = record {
  kind = kind_said g id;
  sparse = is_some (trait_of g id sparse_id);
  inner = map (λ m. inner_under g (targeted g m)) (members_under g id);
}

-- a member of a shape
pub record SaysWireMember (g : GraphMaps) (shape id : List ℕ) (w : WireMember) : Type 0 where
  pub m : MemberEntry
  pub there : HasEntry g id (member_entry m)
  pub name : id ≡ member_id shape w.name
  pub binding : SaysBinding m.traits w.binding
  pub required : w.required ≡ has_trait required_id m.traits
  pub target : Path TargetSeen w.target (target_seen_under g m.target)

-- the table of a service shows the list that the graph shows
abbrev pub ShowsMembers : Type 0
ShowsMembers = (g : GraphMaps) (id : List ℕ) (service : ServiceData) (of : IsServiceOf g id service) → Shaped service.table
    → (shape : List ℕ) (k : ℕ)
    → IsNumberOf of.numbering shape k
    → EachSays (SaysWireMember g shape) (members_under g shape) (wire_members service.table k)
