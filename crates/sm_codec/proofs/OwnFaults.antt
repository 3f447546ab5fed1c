-- No fault of a tree itself is that a name is repeated: that one stands at the name, one step below.
use Rattle.std.proofs.Common.{◌≡◌, ℕ, suc, Bool, true, false, ◌&&◌, cond, List, [], ◌∷◌, ◌++◌, length, refl, sym, ap, ◌∙◌, subst}
use Rattle.std.specs.Prelude.{Option, Some, None, ℤ, Result, Ok, Err}
use Rattle.sm_tree.specs.Node.{Node, null, bool, int, number, text, bytes, tag, opaque, list, object}
use Rattle.sm_tree.specs.declared.path.Step.{Step}
use Rattle.sm_tree.specs.declared.path.Step.TheVariants.{Member, Index, Key}
use Rattle.sm_shapes.specs.Values.{Val, null_val, bool_val, int_val, text_val, blob_val, time_val, list_val, map_val, structure_val}
use Rattle.sm_shapes.specs.Values.{union_val, vals_of}
use Rattle.sm_shapes.specs.TableData.{TableData, ConstraintData, name_at}
use Rattle.sm_shapes.specs.Broken.{Finder, unless, length_broken, range_broken, pattern_broken, text_broken, number_broken, broken}
use Rattle.sm_shapes.specs.Broken.{has_twice}
use Rattle.sm_shapes.specs.Fitting.{finder}
use Rattle.sm_shapes.specs.Places.{Place, member_place, kind_of, constraints_of, unique_of, sparse_of, members_of_place, entry_place}
use Rattle.sm_shapes.specs.declared.kinds.ShapeKind.{ShapeKind}
use Rattle.sm_shapes.specs.declared.kinds.ShapeKind.TheVariants as kinds
use Rattle.sm_shapes.specs.declared.fault.FaultKind.{FaultKind}
use Rattle.sm_shapes.specs.declared.fault.FaultKind.TheVariants.{Repeated, Length, Range, Pattern, Enum, Unique, UnionCount}
use Rattle.sm_codec.specs.Convention.{IsConvention}
use Rattle.sm_codec.specs.Sorts.{Sort, simple, a_list, a_map, a_structure, a_union, left_out}
use Rattle.sm_codec.specs.Codec.{Codec, sort_at, wire_name, broken_at}
use Rattle.sm_codec.specs.Named.{named, names_of, in_byte_order}
use Rattle.sm_codec.specs.FaultLists.{FaultAt, here, under, Reading, faults_in, settled}
use Rattle.sm_codec.specs.Readings.{Child, ByMember, Absence, children_of, named_children_of, one_here, leaf_reading, entry_reading}
use Rattle.sm_codec.specs.Readings.{entries_faults, entries_values, unique_faults, list_faults, list_reading, pair_faults, keys_faults}
use Rattle.sm_codec.specs.Readings.{pairs_faults, map_faults, map_reading, member_faults, member_reading, members_faults, when_closed}
use Rattle.sm_codec.specs.Readings.{under_names, repeated_faults, repeats, all_standing, union_faults, standing_fields, union_reading_of}
use Rattle.sm_codec.specs.Readings.{leaf_by, list_by, object_by, reading, children, named_children}
use Rattle.sm_codec.specs.steps.UnionSteps.{is_repeated, repeats_here}
use Rattle.sm_codec.proofs.NoFaults.{reading_is}
use Rattle.sm_codec.proofs.StructureRead.{never_empty}
use Rattle.sm_codec.proofs.ChildLists.{named_are}
use Rattle.sm_codec.proofs.UnionArrives.{AreSound}

abbrev NoneRepeat : List FaultAt → Type 0
NoneRepeat [] = Unit {0}
NoneRepeat (f ∷ fs) = (repeats_here f ≡ false) × NoneRepeat fs

abbrev NoneRepeated : List FaultKind → Type 0
NoneRepeated [] = Unit {0}
NoneRepeated (kind ∷ kinds) = (is_repeated kind ≡ false) × NoneRepeated kinds

both_kinds : (xs ys : List FaultKind) → NoneRepeated xs → NoneRepeated ys → NoneRepeated (xs ++ ys)
both_kinds [] ys h g = g
both_kinds (x ∷ xs) ys h g = (h.0, both_kinds xs ys h.1 g)

both_faults : (xs ys : List FaultAt) → NoneRepeat xs → NoneRepeat ys → NoneRepeat (xs ++ ys)
both_faults [] ys h g = g
both_faults (x ∷ xs) ys h g = (h.0, both_faults xs ys h.1 g)

of_kinds : (kinds : List FaultKind) → NoneRepeated kinds → NoneRepeat (here kinds)
of_kinds [] h = tt
of_kinds (kind ∷ kinds) h = (h.0, of_kinds kinds h.1)

one_below : (step : Step) (fs : List FaultAt) → NoneRepeat (under step fs)
one_below step [] = tt
one_below step (f ∷ fs) = (refl, one_below step fs)

-- what a value breaks
unless_not : (b : Bool) (kind : FaultKind) → is_repeated kind ≡ false → NoneRepeated (unless b kind)
unless_not true kind h = tt
unless_not false kind h = (h, tt)

pattern_not : (finds : Finder) (o : Option ℕ) (u : List ℕ) → NoneRepeated (pattern_broken finds o u)
pattern_not finds None u = tt
pattern_not finds (Some n) u = unless_not (finds n u) Pattern refl

text_not : (kind : ShapeKind) (texts : List (List ℕ)) (u : List ℕ) → NoneRepeated (text_broken kind texts u)
text_not kinds.Enum texts u = unless_not _ Enum refl
text_not kind texts u = tt

number_not : (kind : ShapeKind) (numbers : List ℤ) (z : ℤ) → NoneRepeated (number_broken kind numbers z)
number_not kinds.IntEnum numbers z = unless_not _ Enum refl
number_not kind numbers z = tt

broken_not : (finds : Finder) (kind : ShapeKind) (c : ConstraintData) (v : Val) → NoneRepeated (broken finds kind c v)
broken_not finds kind c null_val = tt
broken_not finds kind c (bool_val b) = tt
broken_not finds kind c (int_val z) =
    both_kinds (range_broken c z) (number_broken kind c.numbers z) (unless_not _ Range refl) (number_not kind c.numbers z)
broken_not finds kind c (text_val u) =
    both_kinds _ (text_broken kind c.texts u) (both_kinds _ (pattern_broken finds c.pattern u) (unless_not _ Length refl)
    (pattern_not finds c.pattern u))
    (text_not kind c.texts u)
broken_not finds kind c (blob_val u) = unless_not _ Length refl
broken_not finds kind c (time_val ms) = tt
broken_not finds kind c (list_val vs) = unless_not _ Length refl
broken_not finds kind c (map_val es) = unless_not _ Length refl
broken_not finds kind c (structure_val fs) = tt
broken_not finds kind c (union_val k v) = tt

-- what a tree comes to
abbrev IsOwn : Reading → Type 0
IsOwn (Ok v) = Unit {0}
IsOwn (Err fs) = NoneRepeat fs

settled_own : (fs : List FaultAt) (v : Val) → NoneRepeat fs → IsOwn (settled fs v)
settled_own [] v h = tt
settled_own (f ∷ fs) v h = h

not_that : (kind : FaultKind) → (kind ≡ Repeated → ⊥) → is_repeated kind ≡ false
not_that Repeated h = absurd (h refl)
not_that kind h = refl

leaf_own : (c : Codec) (p : Place) (r : Result Val FaultKind) → (r ≡ Err Repeated → ⊥) → IsOwn (leaf_reading c p r)
leaf_own c p (Ok v) h =
    settled_own (here (broken_at c p v)) v (of_kinds (broken_at c p v)
    (broken_not (finder c.table c.test) (kind_of c.table p) (constraints_of c.table p) v))
leaf_own c p (Err kind) h = (not_that kind (λ e. h (ap (λ k. wrong k) e)), tt)
  where
    wrong : FaultKind → Result Val FaultKind
    wrong k = Err k

entries_own : (c : Codec) (p : Place) (i : ℕ) (cs : List Child) → NoneRepeat (entries_faults c p i cs)
entries_own c p i [] = tt
entries_own c p i (child ∷ cs) =
    both_faults _ (entries_faults c p (suc i) cs)
    (one_below (Index i) (faults_in (entry_reading (sparse_of c.table p) (entry_place c.table p) child))) (entries_own c p (suc i) cs)

unique_own : (c : Codec) (p : Place) (fs : List FaultAt) (vs : List Val) → NoneRepeat (unique_faults c p fs vs)
unique_own c p [] vs = by_test (unique_of c.table p && has_twice vs)
  where
    by_test : (b : Bool) → NoneRepeat (cond b (one_here Unique) [])
    by_test true = (refl, tt)
    by_test false = tt
unique_own c p (f ∷ fs) vs = tt

list_own : (c : Codec) (p : Place) (cs : List Child) → IsOwn (list_reading c p cs)
list_own c p cs =
    settled_own (list_faults c p cs) (list_val (vals_of (entries_values c p cs)))
    (both_faults _ (unique_faults c p (entries_faults c p 0 cs) (entries_values c p cs))
    (both_faults (entries_faults c p 0 cs) (here (length_broken (constraints_of c.table p) (length cs))) (entries_own c p 0 cs)
    (of_kinds (length_broken (constraints_of c.table p) (length cs)) (unless_not _ Length refl)))
    (unique_own c p (entries_faults c p 0 cs) (entries_values c p cs)))

keys_own : (c : Codec) (p : Place) (ps : List (List ℕ × Child)) (keys : List (List ℕ)) → NoneRepeat (keys_faults c p ps keys)
keys_own c p ps [] = tt
keys_own c p ps (key ∷ keys) =
    both_faults _ (keys_faults c p ps keys) (one_below (Key key) (pair_faults c p key (named key ps))) (keys_own c p ps keys)

map_own : (c : Codec) (p : Place) (ps : List (List ℕ × Child)) → IsOwn (map_reading c p ps)
map_own c p ps =
    let broken = length_broken (constraints_of c.table p) (length (in_byte_order (names_of ps))) in
    settled_own (map_faults c p ps) _
    (both_faults (pairs_faults c p ps) (here broken) (keys_own c p ps (in_byte_order (names_of ps)))
    (of_kinds broken (unless_not _ Length refl)))

members_own : (t : TableData) (absent : Absence) (stands : ByMember) (ks : List ℕ) → NoneRepeat (members_faults t absent stands ks)
members_own t absent stands [] = tt
members_own t absent stands (k ∷ ks) =
    both_faults _ (members_faults t absent stands ks) (one_below (Member (name_at t k))
    (member_faults (member_reading absent k (stands k))))
    (members_own t absent stands ks)

repeats_own : (t : TableData) (stands : ByMember) (ks : List ℕ) → NoneRepeat (repeats t stands ks)
repeats_own t stands [] = tt
repeats_own t stands (k ∷ ks) =
    both_faults _ (repeats t stands ks) (one_below (Member (name_at t k)) (repeated_faults (stands k))) (repeats_own t stands ks)

union_own : (t : TableData) (rs : List FaultAt) (ms : List (ℕ × Child)) → NoneRepeat rs
    → NoneRepeat (union_faults t (one_here UnionCount) rs ms)
union_own t (f ∷ fs) ms h = h
union_own t [] [] h = (refl, tt)
union_own t [] (m ∷ []) h = one_below (Member (name_at t m.0)) (faults_in (m.1.reading (member_place m.0)))
union_own t [] (m ∷ n ∷ ms) h = (refl, tt)

union_of_own : (fs : List FaultAt) (vs : List (ℕ × Val)) → NoneRepeat fs → IsOwn (union_reading_of fs vs)
union_of_own (f ∷ fs) vs h = h
union_of_own [] [] h = (refl, tt)
union_of_own [] (v ∷ vs) h = tt

leaf_by_own : (c : Codec) (p : Place) (n : Node) (s : Sort) → IsConvention c.convention → IsOwn (leaf_by s c p n)
leaf_by_own c p n (simple x) laws = leaf_own c p (c.convention.read x n) (laws.never_repeated x n)
leaf_by_own c p n a_list laws = (refl, tt)
leaf_by_own c p n a_map laws = (refl, tt)
leaf_by_own c p n a_structure laws = (refl, tt)
leaf_by_own c p n a_union laws = (refl, tt)
leaf_by_own c p n left_out laws = (refl, tt)

list_by_own : (c : Codec) (p : Place) (n : Node) (cs : List Child) (s : Sort) → IsConvention c.convention → IsOwn (list_by s c p n cs)
list_by_own c p n cs a_list laws = list_own c p cs
list_by_own c p n cs (simple x) laws = leaf_by_own c p n (simple x) laws
list_by_own c p n cs a_map laws = (refl, tt)
list_by_own c p n cs a_structure laws = (refl, tt)
list_by_own c p n cs a_union laws = (refl, tt)
list_by_own c p n cs left_out laws = (refl, tt)

object_by_own : (c : Codec) (p : Place) (n : Node) (ps : List (List ℕ × Child)) (s : Sort) → IsConvention c.convention
    → IsOwn (object_by s c p n ps)
object_by_own c p n ps a_map laws = map_own c p ps
object_by_own c p n ps a_structure laws =
    settled_own _ _ (members_own c.table (when_closed c.table) (under_names c p ps) (members_of_place c.table p))
object_by_own c p n ps a_union laws =
    let stands = under_names c p ps in
    let ks = members_of_place c.table p in
    let rs = repeats c.table stands ks in
    let ms = all_standing stands ks in
    union_of_own (union_faults c.table (one_here UnionCount) rs ms) (standing_fields ms)
    (union_own c.table rs ms (repeats_own c.table stands ks))
object_by_own c p n ps (simple x) laws = leaf_by_own c p n (simple x) laws
object_by_own c p n ps a_list laws = (refl, tt)
object_by_own c p n ps left_out laws = (refl, tt)

reading_own : (c : Codec) (n : Node) (p : Place) → IsConvention c.convention → IsOwn (reading c n p)
reading_own c null p laws = leaf_by_own c p null (sort_at c p) laws
reading_own c (bool b) p laws = leaf_by_own c p (bool b) (sort_at c p) laws
reading_own c (int z) p laws = leaf_by_own c p (int z) (sort_at c p) laws
reading_own c (number u) p laws = leaf_by_own c p (number u) (sort_at c p) laws
reading_own c (text u) p laws = leaf_by_own c p (text u) (sort_at c p) laws
reading_own c (bytes u) p laws = leaf_by_own c p (bytes u) (sort_at c p) laws
reading_own c (tag k n) p laws = leaf_by_own c p (tag k n) (sort_at c p) laws
reading_own c (opaque b) p laws = leaf_by_own c p (opaque b) (sort_at c p) laws
reading_own c (list ns) p laws = list_by_own c p (list ns) (children c ns) (sort_at c p) laws
reading_own c (object ms) p laws = object_by_own c p (object ms) (named_children c ms) (sort_at c p) laws

-- so the members of a union are sound
first_own : (r : Reading) → IsOwn r → (f : FaultAt) (fs : List FaultAt) → r ≡ Err (f ∷ fs) → repeats_here f ≡ false
first_own (Ok v) is f fs h = absurd cc
first_own (Err []) is f fs h = absurd cc
first_own (Err (g ∷ gs)) is f fs h = let same : g ≡ f = cc in ap repeats_here (sym same) ∙ is.0

are_sound : (c : Codec) (k : ℕ) (ns : List Node) → IsConvention c.convention → AreSound k (children_of c ns)
are_sound c k [] laws = tt
are_sound c k (n ∷ ns) laws = (
  (
    never_empty (reading c n (member_place k)) (reading_is c n (member_place k)),
    first_own (reading c n (member_place k))
        (reading_own c n (member_place k) laws),
  ),
  are_sound c k ns laws,
)

pub all_sound : (c : Codec) (p : Place) (ms : List (List ℕ × Node)) → IsConvention c.convention → (k : ℕ)
    → AreSound k (under_names c p (named_children_of c ms) k)
all_sound c p ms laws k = subst (λ cs. AreSound k cs) (sym (named_are c (wire_name c p k) ms))
    (are_sound c k (named (wire_name c p k) ms) laws)
