-- What a TreeBuilder of the code stands for. Every contract that speaks of one cites it.
use Rattle.std.specs.Prelude.{List, None, Some, map, reverse}
use Rattle.sm_tree.specs.View.{node_of, nodes_view, members_view}
use Rattle.sm_tree.specs.Building.{Building, nothing, whole, within, in_list, in_object, in_pair, around_list, around_object}
use Rattle.sm_tree.specs.Building as building
use Rattle.sm_tree.specs.declared.build.Inner.{Inner}
use Rattle.sm_tree.specs.declared.build.Inner.TheVariants.{List as inner_list, Object as inner_object}
use Rattle.sm_tree.specs.declared.build.Around.{Around}
use Rattle.sm_tree.specs.declared.build.Around.TheVariants.{List as outer_list, Object as outer_object}
use Rattle.sm_tree.specs.declared.build.Open.{Open}
use Rattle.sm_tree.specs.declared.build.State.{State}
use Rattle.sm_tree.specs.declared.build.State.TheVariants.{Empty, Whole, Within}
use Rattle.sm_tree.specs.declared.build.TreeBuilder.{TreeBuilder}

-- the room that is made where the first entry comes isn't seen
abbrev pub inner_of : Inner → building.Inner
inner_of (inner_list items tags room) = in_list (nodes_view items.items) tags.items
inner_of (inner_object pairs None room) = in_object (members_view pairs.items)
inner_of (inner_object pairs (Some pending) room) = in_pair (members_view pairs.items) pending.name pending.tags.items

abbrev pub around_of : Around → building.Around
around_of (outer_list items tags room) = around_list (nodes_view items.items) tags.items
around_of (outer_object pairs pending room) = around_object (members_view pairs.items) pending.name pending.tags.items

-- the vector of what is around holds the outermost first
abbrev pub outer_of : Open → List building.Around
outer_of o = reverse (map around_of o.outer.items)

abbrev pub open_of : Open → Building
open_of o = within o.tags.items (inner_of o.inner) (outer_of o)

abbrev pub state_of : State → Building
state_of (Empty tags) = nothing tags.items
state_of (Whole tree) = whole (node_of tree)
state_of (Within o) = open_of o

abbrev pub building_of : TreeBuilder → Building
building_of b = state_of b.state
