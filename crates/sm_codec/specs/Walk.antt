-- Where the events of a stream stand: which place each list and object that is open has, and the place at which the next tree is
-- due. A place is passed over, with all below it, where no member has the name; where a list stands and the place is no list's; where
-- an object stands and it is no structure's, union's or map's; where a tag stands and it is no simple shape's; and where a list, an
-- object or another tag stands under a tag.
use Rattle.std.specs.Prelude.{ℕ, suc, List, [], ◌∷◌, map, Option, Some, None}
use Rattle.sm_tree.specs.Node.{Node}
use Rattle.sm_tree.specs.Building.{Building, nothing, whole, within, Inner, in_list, in_object, in_pair, Around, around_list, around_object}
use Rattle.sm_shapes.specs.TableData.{member_with}
use Rattle.sm_shapes.specs.Places.{Place, root_place, member_place, members_of_place, entry_place, value_place}
use Rattle.sm_shapes.specs.declared.fault.FaultKind.{FaultKind}
use Rattle.sm_shapes.specs.declared.fault.FaultKind.TheVariants.{WrongType}
use Rattle.sm_codec.specs.declared.simple.Simple.{Simple}
use Rattle.sm_codec.specs.Convention.{nested_fault}
use Rattle.sm_codec.specs.Sorts.{Sort, simple, a_list, a_map, a_structure, a_union}
use Rattle.sm_codec.specs.Codec.{Codec, sort_at, wire_name}

-- what is open: a list with its closed entries and the tags of the next one; an object with its closed pairs, and the name whose tree
-- isn't closed, with its tags
pub data Level : Type 0 where
  list_level : List Node → List ℕ → Level
  object_level : List (List ℕ × Node) → Level
  pair_level : List (List ℕ × Node) → List ℕ → List ℕ → Level

abbrev pub inner_level : Inner → Level
inner_level (in_list ns ts) = list_level ns ts
inner_level (in_object ms) = object_level ms
inner_level (in_pair ms name ts) = pair_level ms name ts

abbrev pub around_level : Around → Level
around_level (around_list ns ts) = list_level ns ts
around_level (around_object ms name ts) = pair_level ms name ts

-- the levels that are open, the innermost first, and the tags round all of them
abbrev pub levels_open : Building → List Level
levels_open (nothing ts) = []
levels_open (whole n) = []
levels_open (within ts inner outer) = inner_level inner ∷ map around_level outer

abbrev pub tags_outside : Building → List ℕ
tags_outside (nothing ts) = ts
tags_outside (whole n) = []
tags_outside (within ts inner outer) = ts

-- where the next tree is due: at a place; under a tag at a place of a simple type; in what is passed over, with the number of lists and
-- objects that are open from its beginning on, and the fault to give at its end, if any; or nowhere, where a name comes first
pub data Due : Type 0 where
  due_at : Place → Due
  due_tagged : Place → Simple → ℕ → Due
  due_passed : ℕ → Option FaultKind → Due
  due_nowhere : Due

-- where a list or an object opens: at a place of its sort, or in what is passed over
pub data Opened : Type 0 where
  opened_at : Place → Opened
  opened_passed : ℕ → Option FaultKind → Opened

-- behind a tag
abbrev pub tagged_by : Sort → Place → ℕ → Due
tagged_by (simple x) p k = due_tagged p x k
tagged_by s p k = due_passed 0 (Some WrongType)

abbrev pub behind_tag : Codec → Due → ℕ → Due
behind_tag c (due_at p) k = tagged_by (sort_at c p) p k
behind_tag c (due_tagged p x j) k = due_passed 0 (Some (nested_fault c.convention x j))
behind_tag c (due_passed depth report) k = due_passed depth report
behind_tag c due_nowhere k = due_nowhere

abbrev pub behind_tags : Codec → Due → List ℕ → Due
behind_tags c due [] = due
behind_tags c due (k ∷ ks) = behind_tags c (behind_tag c due k) ks

-- an opener
abbrev pub list_by_sort : Sort → Place → Opened
list_by_sort a_list p = opened_at p
list_by_sort s p = opened_passed 1 (Some WrongType)

abbrev pub object_by_sort : Sort → Place → Opened
object_by_sort a_map p = opened_at p
object_by_sort a_structure p = opened_at p
object_by_sort a_union p = opened_at p
object_by_sort s p = opened_passed 1 (Some WrongType)

abbrev pub opened_where : Codec → (Sort → Place → Opened) → Due → Opened
opened_where c by_sort (due_at p) = by_sort (sort_at c p) p
opened_where c by_sort (due_tagged p x k) = opened_passed 1 (Some (nested_fault c.convention x k))
opened_where c by_sort (due_passed depth report) = opened_passed (suc depth) report
opened_where c by_sort due_nowhere = opened_passed 1 None

abbrev pub opened : Codec → Level → Due → Opened
opened c (list_level ns ts) due = opened_where c list_by_sort due
opened c (object_level ms) due = opened_where c object_by_sort due
opened c (pair_level ms name ts) due = opened_where c object_by_sort due

-- the member that stands under a name
abbrev pub member_at : Codec → Place → List ℕ → Option ℕ
member_at c p name = member_with (wire_name c p) name (members_of_place c.table p)

abbrev pub due_member : Option ℕ → Due
due_member None = due_passed 0 None
due_member (Some k) = due_at (member_place k)

-- behind a name in an object at a place of this sort
abbrev pub behind_name : Sort → Codec → Place → List ℕ → Due
behind_name a_map c p name = due_at (value_place c.table p)
behind_name s c p name = due_member (member_at c p name)

-- where the next tree is due in a level
abbrev pub due_within : Codec → Opened → Level → Due
due_within c (opened_at p) (list_level ns ts) = behind_tags c (due_at (entry_place c.table p)) ts
due_within c (opened_at p) (object_level ms) = due_nowhere
due_within c (opened_at p) (pair_level ms name ts) = behind_tags c (behind_name (sort_at c p) c p name) ts
due_within c (opened_passed depth report) l = due_passed depth report

-- of all levels, the innermost first, where the root has this shape and these tags
abbrev pub due_in : Codec → ℕ → List ℕ → List Level → Due
due_in c root ts [] = behind_tags c (due_at (root_place root)) ts
due_in c root ts (l ∷ outer) = due_within c (opened c l (due_in c root ts outer)) l

-- the levels that aren't passed over, with their places
abbrev pub with_level : Opened → Level → List (Place × Level) → List (Place × Level)
with_level (opened_at p) l kept = (p, l) ∷ kept
with_level (opened_passed depth report) l kept = kept

abbrev pub kept_levels : Codec → ℕ → List ℕ → List Level → List (Place × Level)
kept_levels c root ts [] = []
kept_levels c root ts (l ∷ outer) = with_level (opened c l (due_in c root ts outer)) l (kept_levels c root ts outer)
