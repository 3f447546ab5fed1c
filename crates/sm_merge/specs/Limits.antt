-- How large a merged model may be. The prelude doesn't count.
use Rattle.std.specs.Prelude.{◌<◌, ℕ, Bool, not, List, length}
use Rattle.std.specs.List.{filter, sum_by, Any}
use Rattle.std.specs.FinMap as fin
use Rattle.sm_tree.specs.Size.{node_size}
use Rattle.sm_model.specs.Graphs.{NodeMap, Entry, shape_entry, member_entry, GraphMaps, traits_in}
use Rattle.sm_model.specs.PreludeShapes.{is_prelude_id}
use Rattle.sm_merge.specs.declared.limit.LimitKind.{LimitKind}
use Rattle.sm_merge.specs.declared.limit.LimitKind.TheVariants.{Shapes, Members as members_of_one, AllMembers, Traits}

-- shapes that aren't members, members of one shape, members of all, and nodes and bytes of the values of all traits
abbrev pub most_shapes : ℕ
most_shapes = 20000

abbrev pub most_members : ℕ
most_members = 1000

abbrev pub most_members_in_all : ℕ
most_members_in_all = 200000

abbrev pub most_in_traits : ℕ
most_in_traits = 16000000

-- what stands under ids outside of the prelude
abbrev pub is_own : List ℕ × Entry → Bool
is_own e = not (is_prelude_id e.0)

abbrev pub own_entries : GraphMaps → List (List ℕ × Entry)
own_entries g = filter is_own (fin.entries g.shapes)

-- how many shapes and members one counts as, and how much its traits count
abbrev pub shapes_in : Entry → ℕ
shapes_in (shape_entry s) = 1
shapes_in (member_entry m) = 0

abbrev pub members_in : Entry → ℕ
members_in (shape_entry s) = length s.members
members_in (member_entry m) = 0

abbrev pub traits_size : NodeMap → ℕ
traits_size traits = sum_by (λ t. node_size t.1) (fin.entries traits)

-- the graph is past this limit
abbrev pub IsPast : LimitKind → GraphMaps → Type 0
IsPast Shapes g = most_shapes < sum_by (λ e. shapes_in e.1) (own_entries g)
IsPast members_of_one g = Any (λ e. most_members < members_in e.1) (own_entries g)
IsPast AllMembers g = most_members_in_all < sum_by (λ e. members_in e.1) (own_entries g)
IsPast Traits g = most_in_traits < sum_by (λ e. traits_size (traits_in e.1)) (own_entries g)

-- and past none that is looked at before
abbrev pub IsFirstPast : LimitKind → GraphMaps → Type 0
IsFirstPast Shapes g = IsPast Shapes g
IsFirstPast members_of_one g = (IsPast Shapes g → ⊥) × IsPast members_of_one g
IsFirstPast AllMembers g = (IsPast Shapes g → ⊥) × (IsPast members_of_one g → ⊥) × IsPast AllMembers g
IsFirstPast Traits g = (IsPast Shapes g → ⊥) × (IsPast members_of_one g → ⊥) × (IsPast AllMembers g → ⊥) × IsPast Traits g

abbrev pub IsWithinLimits : GraphMaps → Type 0
IsWithinLimits g = (kind : LimitKind) → IsPast kind g → ⊥
