-- The traits that are seen at a shape, or at a member with its target, by numbers; and what of their values is told.
use Rattle.std.specs.Prelude.{◌≡◌, ℕ, Bool, true, false, List, Option, Some, None, cond, is_some}
use Rattle.std.specs.List.{list_any}
use Rattle.std.specs.Option.{option_or}
use Rattle.sm_tree.specs.Node.{Node, null}
use Rattle.sm_model.specs.Graphs.{GraphMaps}
use Rattle.sm_model.specs.GraphView.{maps_of}
use Rattle.sm_model.specs.Reaching.{id_of_number}
use Rattle.sm_model.specs.declared.graph.Graph.{Graph}
use Rattle.sm_model.specs.declared.kind.Kind.{Kind}
use Rattle.sm_model.specs.declared.kind.Kind.TheVariants.{Structure}
use Rattle.sm_shapes.specs.declared.constraints.Constraints.{Constraints}
use Rattle.sm_compile.specs.Kinds.{table_kind}
use Rattle.sm_compile.specs.Said.{bounds_seen, node_where, numbers_said, texts_said}
use Rattle.sm_compile.specs.Sound.{trait_of}
use Rattle.sm_compile.specs.TraitIds.{binding_ids, default_id}
use Rattle.sm_compile.specs.TraitNodes.{TraitsSeen, least_of, most_of}

-- a trait of a member takes the place of its target's
abbrev pub seen_with : GraphMaps → List ℕ → Option (List ℕ) → TraitsSeen
seen_with g id None name = trait_of g id name
seen_with g id (Some target) name = option_or (trait_of g id name) (trait_of g target name)

abbrev pub id_where : Graph → Option ℕ → Option (List ℕ)
id_where g None = None
id_where g (Some k) = Some (id_of_number g k)

abbrev pub traits_seen : Graph → ℕ → Option ℕ → TraitsSeen
traits_seen g own target = seen_with (maps_of g) (id_of_number g own) (id_where g target)

-- constraints of a shape of this type with these members, but for the pattern
pub record TellConstraints (g : GraphMaps) (kind : Kind) (ids : List (List ℕ)) (seen : TraitsSeen) (c : Constraints) : Type 0 where
  pub min : c.min ≡ least_of (bounds_seen kind seen)
  pub max : c.max ≡ most_of (bounds_seen kind seen)
  pub texts : c.texts ≡ texts_said g kind ids
  pub numbers : c.numbers ≡ numbers_said g kind ids

-- a member is bound to a part of an HTTP message
abbrev pub is_bound_under : GraphMaps → List ℕ → Bool
is_bound_under g id = list_any (λ name. is_some (trait_of g id name)) binding_ids

-- the node of a member's default, by the type of the shape that it stands in and of its target
abbrev pub default_under : GraphMaps → List ℕ → Kind → Kind → Option Node
default_under g id Structure target =
    cond (is_bound_under g id) None (node_where (table_kind target) (trait_of g id default_id))
default_under g id kind target = None

abbrev pub is_null_node : Node → Bool
is_null_node null = true
is_null_node n = false
