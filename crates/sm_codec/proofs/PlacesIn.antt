-- In a table that is in order the places within a place are places of the table.
use Rattle.std.proofs.Common.{◌≡◌, ℕ, zero, suc, ◌<◌, List, [], ◌∷◌, ◌++◌, length, refl, ap, subst, arith}
use Rattle.std.specs.Prelude.{Option, slice_index_or}
use Rattle.std.specs.List.{Contains}
use Rattle.std.proofs.lemmas.List.Elements.{Contains-append_right}
use Rattle.sm_time.specs.declared.format.Format.{Format}
use Rattle.sm_shapes.specs.TableData.{TableData, shape_count, member_count, target_at, kind_at}
use Rattle.sm_shapes.specs.Places.{Place, root_place, member_place, shape_of, kind_of, format_of, members_of_place, entry_place}
use Rattle.sm_shapes.specs.Places.{key_place, value_place}
use Rattle.sm_shapes.specs.InOrder.{Shaped, AreMembersOf, HasItsMembers, IsTextKind}
use Rattle.sm_shapes.specs.declared.kinds.ShapeKind.{ShapeKind}
use Rattle.sm_shapes.specs.declared.kinds.ShapeKind.TheVariants as kind
use Rattle.sm_codec.specs.Sorts.{Sort, simple, a_list, a_map, a_structure, a_union, left_out, sort_by, sort_of}
use Rattle.sm_codec.specs.Codec.{InTable}

-- the kind that a sort of places with parts comes from
abbrev OfSort : Sort → ShapeKind → Type 0
OfSort (simple x) k = Unit {0}
OfSort a_list k = k ≡ kind.List
OfSort a_map k = k ≡ kind.Map
OfSort a_structure k = k ≡ kind.Structure
OfSort a_union k = k ≡ kind.Union
OfSort left_out k = Unit {0}

of_sort : (k : ShapeKind) (format : Option Format) → OfSort (sort_by k format) k
of_sort kind.Blob format = tt
of_sort kind.Boolean format = tt
of_sort kind.Text format = tt
of_sort kind.Enum format = tt
of_sort kind.Byte format = tt
of_sort kind.Short format = tt
of_sort kind.Integer format = tt
of_sort kind.IntEnum format = tt
of_sort kind.Long format = tt
of_sort kind.Timestamp format = tt
of_sort kind.List format = refl
of_sort kind.Map format = refl
of_sort kind.Structure format = refl
of_sort kind.Union format = refl
of_sort kind.LeftOut format = tt

pub kind_of_sort : (t : TableData) (p : Place) (s : Sort) → sort_of t p ≡ s → OfSort s (kind_of t p)
kind_of_sort t p s e = subst (λ x. OfSort x (kind_of t p)) e (of_sort (kind_of t p) (format_of t p))

-- and back
pub sort_of_kind : (t : TableData) (p : Place) (k : ShapeKind) → kind_of t p ≡ k → sort_of t p ≡ sort_by k (format_of t p)
sort_of_kind t p k e = ap (λ x. sort_by x (format_of t p)) e

pub shape_in : (t : TableData) (p : Place) → Shaped t → InTable t p → shape_of t p < shape_count t
shape_in t (root_place s) h i = i
shape_in t (member_place k) h i = h.targets k i

pub members_stand : (t : TableData) (p : Place) → Shaped t → InTable t p → AreMembersOf t (shape_of t p) (members_of_place t p)
members_stand t p h i = h.members (shape_of t p) (shape_in t p h i)

-- of members that are split, the one in the middle and those behind it stand in the shape
pub stand_at : (t : TableData) (s : ℕ) (before : List ℕ) (k : ℕ) (behind : List ℕ) → AreMembersOf t s (before ++ k ∷ behind)
    → (k < member_count t) × AreMembersOf t s behind
stand_at t s [] k behind h = (h.0, h.2)
stand_at t s (j ∷ before) k behind h = stand_at t s before k behind h.2

-- a member of a list stands in the middle of it, and the other way
split_at : (k : ℕ) (ks : List ℕ) (i : ℕ) → i < length ks → slice_index_or ks i k ≡ k
    → (before behind : List ℕ) × (ks ≡ before ++ k ∷ behind)
split_at k [] i h e = absurd (omega (arith, h))
split_at k (j ∷ ks) zero h e = ([], ks, ap (λ x. x ∷ ks) e)
split_at k (j ∷ ks) (suc i) h e = let rest = split_at k ks i (omega (arith, h)) e in (j ∷ rest.0, rest.1, ap (λ xs. j ∷ xs) rest.2)

pub member_splits : (k : ℕ) (ks : List ℕ) → Contains ks k → (before behind : List ℕ) × (ks ≡ before ++ k ∷ behind)
member_splits k ks h = split_at k ks h.0 h.1 h.2

pub split_member : (k : ℕ) (before behind : List ℕ) → Contains (before ++ k ∷ behind) k
split_member k before behind = Contains-append_right before (k ∷ behind) k (0, omega arith, refl)

first_stands : (t : TableData) (s : ℕ) (ks : List ℕ) → HasItsMembers t kind.List ks → AreMembersOf t s ks
    → slice_index_or ks 0 0 < member_count t
first_stands t s [] h i = absurd h
first_stands t s (k ∷ []) h i = i.0
first_stands t s (k ∷ j ∷ ks) h i = absurd h

both_stand : (t : TableData) (s : ℕ) (ks : List ℕ) → HasItsMembers t kind.Map ks → AreMembersOf t s ks
    → (slice_index_or ks 0 0 < member_count t) × (slice_index_or ks 1 0 < member_count t)
    × IsTextKind (kind_at t (target_at t (slice_index_or ks 0 0)))
both_stand t s [] h i = absurd h
both_stand t s (k ∷ []) h i = absurd h
both_stand t s (j ∷ k ∷ []) h i = (i.0, i.2.0, h)
both_stand t s (j ∷ k ∷ l ∷ ks) h i = absurd h

own_members : (t : TableData) (p : Place) (k : ShapeKind) → Shaped t → InTable t p → kind_of t p ≡ k
    → HasItsMembers t k (members_of_place t p)
own_members t p k h i e = subst (λ x. HasItsMembers t x (members_of_place t p)) e (h.own (shape_of t p) (shape_in t p h i))

pub entry_in : (t : TableData) (p : Place) → Shaped t → InTable t p → kind_of t p ≡ kind.List → InTable t (entry_place t p)
entry_in t p h i e =
    first_stands t (shape_of t p) (members_of_place t p) (own_members t p kind.List h i e) (members_stand t p h i)

map_members : (t : TableData) (p : Place) → Shaped t → InTable t p → kind_of t p ≡ kind.Map
    → InTable t (key_place t p) × InTable t (value_place t p) × IsTextKind (kind_of t (key_place t p))
map_members t p h i e =
    both_stand t (shape_of t p) (members_of_place t p) (own_members t p kind.Map h i e) (members_stand t p h i)

pub value_in : (t : TableData) (p : Place) → Shaped t → InTable t p → kind_of t p ≡ kind.Map → InTable t (value_place t p)
value_in t p h i e = (map_members t p h i e).1

pub key_in : (t : TableData) (p : Place) → Shaped t → InTable t p → kind_of t p ≡ kind.Map → InTable t (key_place t p)
key_in t p h i e = (map_members t p h i e).0

-- the keys of a map are texts
pub key_text : (t : TableData) (p : Place) → Shaped t → InTable t p → kind_of t p ≡ kind.Map → IsTextKind (kind_of t (key_place t p))
key_text t p h i e = (map_members t p h i e).2
