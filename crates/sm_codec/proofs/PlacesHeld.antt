-- In a table that is in order the places of all that is open, and of the next tree, are places of the table.
use Rattle.std.proofs.Common.{◌≡◌, ℕ, ◌<◌, Bool, true, false, cond, List, [], ◌∷◌, refl, subst}
use Rattle.std.specs.Prelude.{Option, Some, None}
use Rattle.std.specs.Str.{bytes_eq}
use Rattle.sm_tree.specs.Node.{Node}
use Rattle.sm_shapes.specs.TableData.{TableData, member_count, member_with}
use Rattle.sm_shapes.specs.InOrder.{Shaped, AreMembersOf}
use Rattle.sm_shapes.specs.Places.{Place, root_place, shape_of, members_of_place, entry_place}
use Rattle.sm_codec.specs.Sorts.{Sort, simple, a_list, a_map, a_structure, a_union, left_out}
use Rattle.sm_codec.specs.Codec.{Codec, sort_at, wire_name, InTable}
use Rattle.sm_codec.specs.Walk.{Level, list_level, object_level, pair_level, Due, due_at, due_tagged, due_passed, due_nowhere, Opened}
use Rattle.sm_codec.specs.Walk.{opened_at, opened_passed, list_by_sort, object_by_sort, opened_where, opened, tagged_by, behind_tag}
use Rattle.sm_codec.specs.Walk.{behind_tags, behind_name, due_member, due_within, due_in, member_at}
use Rattle.sm_codec.proofs.PlacesIn.{kind_of_sort, members_stand, entry_in, value_in}

-- the place of what is due, if it has one, is the table's
abbrev pub DueIn : TableData → Due → Type 0
DueIn t (due_at p) = InTable t p
DueIn t (due_tagged p x k) = InTable t p
DueIn t (due_passed depth report) = Unit {0}
DueIn t due_nowhere = Unit {0}

tagged_in : (t : TableData) (p : Place) (k : ℕ) (s : Sort) → InTable t p → DueIn t (tagged_by s p k)
tagged_in t p k (simple x) h = h
tagged_in t p k a_list h = tt
tagged_in t p k a_map h = tt
tagged_in t p k a_structure h = tt
tagged_in t p k a_union h = tt
tagged_in t p k left_out h = tt

tag_in : (c : Codec) (due : Due) (k : ℕ) → DueIn c.table due → DueIn c.table (behind_tag c due k)
tag_in c (due_at p) k h = tagged_in c.table p k (sort_at c p) h
tag_in c (due_tagged p x j) k h = tt
tag_in c (due_passed depth report) k h = tt
tag_in c due_nowhere k h = tt

tags_in : (c : Codec) (due : Due) (ks : List ℕ) → DueIn c.table due → DueIn c.table (behind_tags c due ks)
tags_in c due [] h = h
tags_in c due (k ∷ ks) h = tags_in c (behind_tag c due k) ks (tag_in c due k h)

-- the member of a name is one of the table
with_by : (t : TableData) (j k : ℕ) (more : Option ℕ) (b : Bool) → j < member_count t → (more ≡ Some k → k < member_count t)
    → cond b (Some j) more ≡ Some k → k < member_count t
with_by t j k more true first rest e = let same : j ≡ k = cc in subst (λ m. m < member_count t) same first
with_by t j k more false first rest e = rest e

with_in : (t : TableData) (s : ℕ) (f : ℕ → List ℕ) (w : List ℕ) (k : ℕ) (ks : List ℕ) → AreMembersOf t s ks → member_with f w ks ≡ Some k
    → k < member_count t
with_in t s f w k [] h e = absurd cc
with_in t s f w k (j ∷ ks) h e =
    with_by t j k (member_with f w ks) (bytes_eq (f j) w) h.0 (λ i. with_in t s f w k ks h.2 i) e

pub member_in : (c : Codec) (p : Place) (name : List ℕ) (k : ℕ) → Shaped c.table → InTable c.table p → member_at c p name ≡ Some k
    → k < member_count c.table
member_in c p name k shaped inside e =
    with_in c.table (shape_of c.table p) (wire_name c p) name k (members_of_place c.table p) (members_stand c.table p shaped inside) e

member_due : (c : Codec) (p : Place) (name : List ℕ) (o : Option ℕ) → Shaped c.table → InTable c.table p → member_at c p name ≡ o
    → DueIn c.table (due_member o)
member_due c p name None shaped inside e = tt
member_due c p name (Some k) shaped inside e = member_in c p name k shaped inside e

name_in : (c : Codec) (p : Place) (name : List ℕ) (s : Sort) → Shaped c.table → InTable c.table p → sort_at c p ≡ s
    → DueIn c.table (behind_name s c p name)
name_in c p name (simple x) shaped inside e = member_due c p name (member_at c p name) shaped inside refl
name_in c p name a_list shaped inside e = member_due c p name (member_at c p name) shaped inside refl
name_in c p name a_map shaped inside e = value_in c.table p shaped inside (kind_of_sort c.table p a_map e)
name_in c p name a_structure shaped inside e = member_due c p name (member_at c p name) shaped inside refl
name_in c p name a_union shaped inside e = member_due c p name (member_at c p name) shaped inside refl
name_in c p name left_out shaped inside e = member_due c p name (member_at c p name) shaped inside refl

-- a list that is kept is at a place of lists of the table, an object at some place of the table
abbrev IsListAt : Codec → Opened → Type 0
IsListAt c (opened_at p) = InTable c.table p × (sort_at c p ≡ a_list)
IsListAt c (opened_passed depth report) = Unit {0}

abbrev IsObjectAt : Codec → Opened → Type 0
IsObjectAt c (opened_at p) = InTable c.table p
IsObjectAt c (opened_passed depth report) = Unit {0}

list_at : (c : Codec) (p : Place) (s : Sort) → sort_at c p ≡ s → InTable c.table p → IsListAt c (list_by_sort s p)
list_at c p (simple x) e h = tt
list_at c p a_list e h = (h, e)
list_at c p a_map e h = tt
list_at c p a_structure e h = tt
list_at c p a_union e h = tt
list_at c p left_out e h = tt

object_at : (c : Codec) (p : Place) (s : Sort) → InTable c.table p → IsObjectAt c (object_by_sort s p)
object_at c p (simple x) h = tt
object_at c p a_list h = tt
object_at c p a_map h = h
object_at c p a_structure h = h
object_at c p a_union h = h
object_at c p left_out h = tt

list_where : (c : Codec) (due : Due) → DueIn c.table due → IsListAt c (opened_where c list_by_sort due)
list_where c (due_at p) h = list_at c p (sort_at c p) refl h
list_where c (due_tagged p x k) h = tt
list_where c (due_passed depth report) h = tt
list_where c due_nowhere h = tt

object_where : (c : Codec) (due : Due) → DueIn c.table due → IsObjectAt c (opened_where c object_by_sort due)
object_where c (due_at p) h = object_at c p (sort_at c p) h
object_where c (due_tagged p x k) h = tt
object_where c (due_passed depth report) h = tt
object_where c due_nowhere h = tt

-- what is due within it
list_within : (c : Codec) (ns : List Node) (ts : List ℕ) (o : Opened) → Shaped c.table → IsListAt c o
    → DueIn c.table (due_within c o (list_level ns ts))
list_within c ns ts (opened_at p) shaped h =
    tags_in c (due_at (entry_place c.table p)) ts (entry_in c.table p shaped h.0 (kind_of_sort c.table p a_list h.1))
list_within c ns ts (opened_passed depth report) shaped h = tt

pair_within : (c : Codec) (ms : List (List ℕ × Node)) (name : List ℕ) (ts : List ℕ) (o : Opened) → Shaped c.table → IsObjectAt c o
    → DueIn c.table (due_within c o (pair_level ms name ts))
pair_within c ms name ts (opened_at p) shaped h =
    tags_in c (behind_name (sort_at c p) c p name) ts (name_in c p name (sort_at c p) shaped h refl)
pair_within c ms name ts (opened_passed depth report) shaped h = tt

object_within : (c : Codec) (ms : List (List ℕ × Node)) (o : Opened) → DueIn c.table (due_within c o (object_level ms))
object_within c ms (opened_at p) = tt
object_within c ms (opened_passed depth report) = tt

pub level_within : (c : Codec) (l : Level) (due : Due) → Shaped c.table → DueIn c.table due
    → DueIn c.table (due_within c (opened c l due) l)
level_within c (list_level ns ts) due shaped h = list_within c ns ts (opened c (list_level ns ts) due) shaped (list_where c due h)
level_within c (object_level ms) due shaped h = object_within c ms (opened c (object_level ms) due)
level_within c (pair_level ms name ts) due shaped h =
    pair_within c ms name ts (opened c (pair_level ms name ts) due) shaped (object_where c due h)

pub due_held : (c : Codec) (root : ℕ) (ts : List ℕ) (ls : List Level) → Shaped c.table → InTable c.table (root_place root)
    → DueIn c.table (due_in c root ts ls)
due_held c root ts [] shaped h = tags_in c (due_at (root_place root)) ts h
due_held c root ts (l ∷ outer) shaped h = level_within c l (due_in c root ts outer) shaped (due_held c root ts outer shaped h)

-- and the place of a level that is kept
pub place_in_table : (c : Codec) (l : Level) (due : Due) (p : Place) → DueIn c.table due → opened c l due ≡ opened_at p → InTable c.table p
place_in_table c (list_level ns ts) due p h e = (subst (IsListAt c) e (list_where c due h)).0
place_in_table c (object_level ms) due p h e = subst (IsObjectAt c) e (object_where c due h)
place_in_table c (pair_level ms name ts) due p h e = subst (IsObjectAt c) e (object_where c due h)
