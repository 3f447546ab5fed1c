-- Where there is no fault: parts of lists of faults, and that a tree that comes to no value has one fault at least.
use Rattle.std.proofs.Common.{◌≡◌, ℕ, List, [], ◌∷◌, ◌++◌, refl, subst}
use Rattle.std.specs.Prelude.{Result, Ok, Err}
use Rattle.sm_tree.specs.declared.path.Step.{Step}
use Rattle.sm_tree.specs.Node.{Node, null, bool, int, number, text, bytes, tag, opaque, list, object}
use Rattle.sm_shapes.specs.Values.{Val, list_val, map_val, structure_val, vals_of, entries_of, fields_of}
use Rattle.sm_shapes.specs.Places.{Place, members_of_place}
use Rattle.sm_shapes.specs.declared.fault.FaultKind.{FaultKind}
use Rattle.sm_shapes.specs.declared.fault.FaultKind.TheVariants.{UnionCount}
use Rattle.sm_codec.specs.Sorts.{Sort, simple, a_list, a_map, a_structure, a_union, left_out}
use Rattle.sm_codec.specs.Codec.{Codec, sort_at, broken_at}
use Rattle.sm_codec.specs.FaultLists.{FaultAt, here, under, Reading, faults_in, settled}
use Rattle.sm_codec.specs.Readings.{Child, leaf_reading, leaf_by, list_by, object_by, reading, children, named_children, map_faults}
use Rattle.sm_codec.specs.Readings.{pairs_values, list_faults, entries_values, union_faults, one_here, repeats, all_standing}
use Rattle.sm_codec.specs.Readings.{standing_fields, union_reading_of, members_faults, members_fields, under_names, when_closed}

pub none_first : {A : Type 0} (xs ys : List A) → xs ++ ys ≡ [] → xs ≡ []
none_first [] ys h = refl
none_first (x ∷ xs) ys h = absurd cc

pub none_behind : {A : Type 0} (xs ys : List A) → xs ++ ys ≡ [] → ys ≡ []
none_behind [] ys h = h
none_behind (x ∷ xs) ys h = absurd cc

pub none_joined : {A : Type 0} (xs ys : List A) → xs ≡ [] → ys ≡ [] → xs ++ ys ≡ []
none_joined xs ys h g = subst (λ zs. zs ++ ys ≡ []) (sym_of h) g
  where
    sym_of : xs ≡ [] → [] ≡ xs
    sym_of e = cc

pub none_under : (step : Step) (fs : List FaultAt) → under step fs ≡ [] → fs ≡ []
none_under step [] h = refl
none_under step (f ∷ fs) h = absurd cc

pub none_here : (kinds : List FaultKind) → here kinds ≡ [] → kinds ≡ []
none_here [] h = refl
none_here (k ∷ ks) h = absurd cc

-- a value, or one fault at least
abbrev pub IsReading : Reading → Type 0
IsReading (Ok v) = Unit {0}
IsReading (Err []) = ⊥
IsReading (Err (f ∷ fs)) = Unit {0}

settled_is : (fs : List FaultAt) (v : Val) → IsReading (settled fs v)
settled_is [] v = tt
settled_is (f ∷ fs) v = tt

leaf_is : (c : Codec) (p : Place) (r : Result Val FaultKind) → IsReading (leaf_reading c p r)
leaf_is c p (Ok v) = settled_is (here (broken_at c p v)) v
leaf_is c p (Err kind) = tt

union_is : (fs : List FaultAt) (vs : List (ℕ × Val)) → IsReading (union_reading_of fs vs)
union_is (f ∷ fs) vs = tt
union_is [] [] = tt
union_is [] (v ∷ vs) = tt

leaf_by_is : (s : Sort) (c : Codec) (p : Place) (n : Node) → IsReading (leaf_by s c p n)
leaf_by_is (simple x) c p n = leaf_is c p (c.convention.read x n)
leaf_by_is a_list c p n = tt
leaf_by_is a_map c p n = tt
leaf_by_is a_structure c p n = tt
leaf_by_is a_union c p n = tt
leaf_by_is left_out c p n = tt

list_by_is : (s : Sort) (c : Codec) (p : Place) (n : Node) (ks : List Child) → IsReading (list_by s c p n ks)
list_by_is (simple x) c p n ks = leaf_by_is (simple x) c p n
list_by_is a_list c p n ks = settled_is (list_faults c p ks) (list_val (vals_of (entries_values c p ks)))
list_by_is a_map c p n ks = tt
list_by_is a_structure c p n ks = tt
list_by_is a_union c p n ks = tt
list_by_is left_out c p n ks = tt

object_by_is : (s : Sort) (c : Codec) (p : Place) (n : Node) (ps : List (List ℕ × Child)) → IsReading (object_by s c p n ps)
object_by_is (simple x) c p n ps = leaf_by_is (simple x) c p n
object_by_is a_list c p n ps = tt
object_by_is a_map c p n ps = settled_is (map_faults c p ps) (map_val (entries_of (pairs_values c p ps)))
object_by_is a_structure c p n ps =
    settled_is (members_faults c.table (when_closed c.table) (under_names c p ps) (members_of_place c.table p))
    (structure_val (fields_of (members_fields (when_closed c.table) (under_names c p ps) (members_of_place c.table p))))
object_by_is a_union c p n ps =
    let ms = all_standing (under_names c p ps) (members_of_place c.table p) in
    union_is (union_faults c.table (one_here UnionCount) (repeats c.table (under_names c p ps) (members_of_place c.table p)) ms)
    (standing_fields ms)
object_by_is left_out c p n ps = tt

pub reading_is : (c : Codec) (n : Node) (p : Place) → IsReading (reading c n p)
reading_is c null p = leaf_by_is (sort_at c p) c p null
reading_is c (bool b) p = leaf_by_is (sort_at c p) c p (bool b)
reading_is c (int z) p = leaf_by_is (sort_at c p) c p (int z)
reading_is c (number u) p = leaf_by_is (sort_at c p) c p (number u)
reading_is c (text u) p = leaf_by_is (sort_at c p) c p (text u)
reading_is c (bytes u) p = leaf_by_is (sort_at c p) c p (bytes u)
reading_is c (tag k n) p = leaf_by_is (sort_at c p) c p (tag k n)
reading_is c (opaque b) p = leaf_by_is (sort_at c p) c p (opaque b)
reading_is c (list ns) p = list_by_is (sort_at c p) c p (list ns) (children c ns)
reading_is c (object ms) p = object_by_is (sort_at c p) c p (object ms) (named_children c ms)

-- what has no fault is a value
pub clean_reading : (r : Reading) → IsReading r → faults_in r ≡ [] → (v : Val) × (r ≡ Ok v)
clean_reading (Ok v) is h = (v, refl)
clean_reading (Err []) is h = absurd is
clean_reading (Err (f ∷ fs)) is h = absurd cc

abbrev pub ok_reading : Val → Reading
ok_reading v = Ok v

pub same_reading : (v w : Val) → ok_reading v ≡ Ok w → v ≡ w
same_reading v w h = cc

pub settled_ok : (fs : List FaultAt) (w v : Val) → settled fs w ≡ Ok v → (fs ≡ []) × (w ≡ v)
settled_ok [] w v h = (refl, same_reading w v h)
settled_ok (f ∷ fs) w v h = absurd cc
