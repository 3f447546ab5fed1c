-- Where the next tree is due: the innermost frame has the place, under a tag stands a simple type, and what is passed over ends with the
-- fault that it was begun with.
use Rattle.std.proofs.Common.{◌≡◌, ℕ, List, [], ◌∷◌, refl, ap, ◌∙◌}
use Rattle.std.specs.Prelude.{Option, Some, None, Err, slice_index_or}
use Rattle.std.specs.Option.{option_map}
use Rattle.sm_tree.specs.Node.{Node, Nodes, Members, tag, list, object}
use Rattle.sm_shapes.specs.TableData.{members_at}
use Rattle.sm_shapes.specs.Places.{Place, member_place, shape_of, entry_place}
use Rattle.sm_shapes.specs.declared.fault.FaultKind.{FaultKind}
use Rattle.sm_shapes.specs.declared.fault.FaultKind.TheVariants.{WrongType}
use Rattle.sm_codec.specs.declared.simple.Simple.{Simple}
use Rattle.sm_codec.specs.Convention.{IsConvention, nested_fault}
use Rattle.sm_codec.specs.Sorts.{Sort, simple, a_list, a_map, a_structure, a_union, left_out}
use Rattle.sm_codec.specs.Codec.{Codec, sort_at}
use Rattle.sm_codec.specs.Readings.{one_here, leaf_reading, leaf_by, list_by, object_by, reading, children, named_children}
use Rattle.sm_codec.specs.Decoding.{Frame, structure_frame, union_frame, list_frame, map_frame, tagged_frame, skip_frame}
use Rattle.sm_codec.specs.Walk.{Level, list_level, object_level, pair_level, Due, due_at, due_tagged, due_passed, due_nowhere, opened_at}
use Rattle.sm_codec.specs.Walk.{opened_passed, list_by_sort, object_by_sort, opened_where, tagged_by, behind_tag, behind_tags}
use Rattle.sm_codec.specs.Walk.{behind_name, due_member, due_within, member_at}
use Rattle.sm_codec.specs.Kept.{FrameHolds}
use Rattle.sm_codec.specs.steps.Arrivals.{read_where}
use Rattle.sm_codec.specs.steps.Standing.{place_in, IsDueAt}

-- tags lead away from a place, and never to another
untagged : (c : Codec) (q p : Place) (k : ℕ) (s : Sort) → IsDueAt q (tagged_by s p k) → p ≡ q
untagged c q p k (simple x) h = h
untagged c q p k a_list h = absurd h
untagged c q p k a_map h = absurd h
untagged c q p k a_structure h = absurd h
untagged c q p k a_union h = absurd h
untagged c q p k left_out h = absurd h

before_tag : (c : Codec) (q : Place) (due : Due) (k : ℕ) → IsDueAt q (behind_tag c due k) → IsDueAt q due
before_tag c q (due_at p) k h = untagged c q p k (sort_at c p) h
before_tag c q (due_tagged p x j) k h = absurd h
before_tag c q (due_passed depth report) k h = absurd h
before_tag c q due_nowhere k h = absurd h

pub before_tags : (c : Codec) (q : Place) (due : Due) (ks : List ℕ) → IsDueAt q (behind_tags c due ks) → IsDueAt q due
before_tags c q due [] h = h
before_tags c q due (k ∷ ks) h = before_tag c q due k (before_tags c q (behind_tag c due k) ks h)

-- the frame of a level that is kept has the place
member_due : (q : Place) (o : Option ℕ) → IsDueAt q (due_member o) → option_map (λ k. member_place k) o ≡ Some q
member_due q None h = absurd h
member_due q (Some k) h = ap (λ x. Some x) h

named_due : (c : Codec) (p q : Place) (name : List ℕ) (s : Sort) → s ≡ a_structure → IsDueAt q (behind_name s c p name)
    → option_map (λ k. member_place k) (member_at c p name) ≡ Some q
named_due c p q name (simple x) e h = absurd cc
named_due c p q name a_list e h = absurd cc
named_due c p q name a_map e h = absurd cc
named_due c p q name a_structure e h = member_due q (member_at c p name) h
named_due c p q name a_union e h = absurd cc
named_due c p q name left_out e h = absurd cc

union_due : (c : Codec) (p q : Place) (name : List ℕ) (s : Sort) → s ≡ a_union → IsDueAt q (behind_name s c p name)
    → option_map (λ k. member_place k) (member_at c p name) ≡ Some q
union_due c p q name (simple x) e h = absurd cc
union_due c p q name a_list e h = absurd cc
union_due c p q name a_map e h = absurd cc
union_due c p q name a_structure e h = absurd cc
union_due c p q name a_union e h = member_due q (member_at c p name) h
union_due c p q name left_out e h = absurd cc

key_due : (c : Codec) (p q : Place) (name : List ℕ) (s : Sort) → s ≡ a_map → IsDueAt q (behind_name s c p name)
    → member_place (slice_index_or (members_at c.table (shape_of c.table p)) 1 0) ≡ q
key_due c p q name (simple x) e h = absurd cc
key_due c p q name a_list e h = absurd cc
key_due c p q name a_map e h = h
key_due c p q name a_structure e h = absurd cc
key_due c p q name a_union e h = absurd cc
key_due c p q name left_out e h = absurd cc

pub place_known : (c : Codec) (p q : Place) (l : Level) (f : Frame) → FrameHolds c p l f → IsDueAt q (due_within c (opened_at p) l)
    → place_in c.table f ≡ Some q
place_known c p q (list_level ns ts) (list_frame f) h due =
    ap (λ s. Some (member_place (slice_index_or (members_at c.table s) 0 0))) h.shape
    ∙ ap (λ x. Some x) (before_tags c q (due_at (entry_place c.table p)) ts due)
place_known c p q (list_level ns ts) (structure_frame f) h due = absurd h
place_known c p q (list_level ns ts) (union_frame f) h due = absurd h
place_known c p q (list_level ns ts) (map_frame f) h due = absurd h
place_known c p q (list_level ns ts) (tagged_frame s k) h due = absurd h
place_known c p q (list_level ns ts) (skip_frame depth report) h due = absurd h
place_known c p q (object_level ms) f h due = absurd due
place_known c p q (pair_level ms name ts) (structure_frame f) h due =
    ap (option_map (λ k. member_place k)) h.1.current
    ∙ named_due c p q name (sort_at c p) h.0 (before_tags c q (behind_name (sort_at c p) c p name) ts due)
place_known c p q (pair_level ms name ts) (union_frame f) h due =
    ap (option_map (λ k. member_place k)) h.1.current
    ∙ union_due c p q name (sort_at c p) h.0 (before_tags c q (behind_name (sort_at c p) c p name) ts due)
place_known c p q (pair_level ms name ts) (map_frame f) h due =
    ap (λ s. Some (member_place (slice_index_or (members_at c.table s) 1 0))) h.1.shape
    ∙ ap (λ x. Some x) (key_due c p q name (sort_at c p) h.0 (before_tags c q (behind_name (sort_at c p) c p name) ts due))
place_known c p q (pair_level ms name ts) (list_frame f) h due = absurd h
place_known c p q (pair_level ms name ts) (tagged_frame s k) h due = absurd h
place_known c p q (pair_level ms name ts) (skip_frame depth report) h due = absurd h

-- under a tag stands a simple type
abbrev pub IsSimpleDue : Codec → Due → Type 0
IsSimpleDue c (due_at p) = Unit {0}
IsSimpleDue c (due_tagged p x k) = sort_at c p ≡ simple x
IsSimpleDue c (due_passed depth report) = Unit {0}
IsSimpleDue c due_nowhere = Unit {0}

simple_by : (c : Codec) (p : Place) (k : ℕ) (s : Sort) → sort_at c p ≡ s → IsSimpleDue c (tagged_by s p k)
simple_by c p k (simple x) e = e
simple_by c p k a_list e = tt
simple_by c p k a_map e = tt
simple_by c p k a_structure e = tt
simple_by c p k a_union e = tt
simple_by c p k left_out e = tt

simple_behind : (c : Codec) (due : Due) (k : ℕ) → IsSimpleDue c (behind_tag c due k)
simple_behind c (due_at p) k = simple_by c p k (sort_at c p) refl
simple_behind c (due_tagged p x j) k = tt
simple_behind c (due_passed depth report) k = tt
simple_behind c due_nowhere k = tt

pub simple_due : (c : Codec) (due : Due) (ks : List ℕ) → IsSimpleDue c due → IsSimpleDue c (behind_tags c due ks)
simple_due c due [] h = h
simple_due c due (k ∷ ks) h = simple_due c (behind_tag c due k) ks (simple_behind c due k)

-- a list, and an object, where none is, comes to the fault that its passing began with
wrong_list : (c : Codec) (p : Place) (ns : Nodes) (s : Sort) (depth : ℕ) (kind : FaultKind) → IsConvention c.convention
    → list_by_sort s p ≡ opened_passed depth (Some kind) → list_by s c p (list ns) (children c ns) ≡ Err (one_here kind)
wrong_list c p ns (simple x) depth kind laws e =
    let same : WrongType ≡ kind = cc in
    ap (leaf_reading c p) (laws.no_list x ns) ∙ ap (λ y. Err (one_here y)) same
wrong_list c p ns a_list depth kind laws e = absurd cc
wrong_list c p ns a_map depth kind laws e = let same : WrongType ≡ kind = cc in ap (λ y. Err (one_here y)) same
wrong_list c p ns a_structure depth kind laws e = let same : WrongType ≡ kind = cc in ap (λ y. Err (one_here y)) same
wrong_list c p ns a_union depth kind laws e = let same : WrongType ≡ kind = cc in ap (λ y. Err (one_here y)) same
wrong_list c p ns left_out depth kind laws e = let same : WrongType ≡ kind = cc in ap (λ y. Err (one_here y)) same

wrong_object : (c : Codec) (p : Place) (ms : Members) (s : Sort) (depth : ℕ) (kind : FaultKind) → IsConvention c.convention
    → object_by_sort s p ≡ opened_passed depth (Some kind) → object_by s c p (object ms) (named_children c ms) ≡ Err (one_here kind)
wrong_object c p ms (simple x) depth kind laws e =
    let same : WrongType ≡ kind = cc in
    ap (leaf_reading c p) (laws.no_object x ms) ∙ ap (λ y. Err (one_here y)) same
wrong_object c p ms a_list depth kind laws e = let same : WrongType ≡ kind = cc in ap (λ y. Err (one_here y)) same
wrong_object c p ms a_map depth kind laws e = absurd cc
wrong_object c p ms a_structure depth kind laws e = absurd cc
wrong_object c p ms a_union depth kind laws e = absurd cc
wrong_object c p ms left_out depth kind laws e = let same : WrongType ≡ kind = cc in ap (λ y. Err (one_here y)) same

tagged_nested : (c : Codec) (p : Place) (x : Simple) (k : ℕ) (n : Node) (depth : ℕ) (kind : FaultKind) → sort_at c p ≡ simple x
    → c.convention.read x (tag k n) ≡ Err (nested_fault c.convention x k)
    → opened_passed 1 (Some (nested_fault c.convention x k)) ≡ opened_passed depth (Some kind)
    → reading c (tag k n) p ≡ Err (one_here kind)
tagged_nested c p x k n depth kind sort read e =
    let same : nested_fault c.convention x k ≡ kind = cc in
    ap (λ s. leaf_by s c p (tag k n)) sort ∙ ap (leaf_reading c p) read ∙ ap (λ y. Err (one_here y)) same

pub passed_list : (c : Codec) (due : Due) (ns : Nodes) (depth : ℕ) (kind : FaultKind) → IsConvention c.convention → IsSimpleDue c due
    → opened_where c list_by_sort due ≡ opened_passed depth (Some kind) → read_where c due (list ns) ≡ Err (one_here kind)
passed_list c (due_at p) ns depth kind laws is e = wrong_list c p ns (sort_at c p) depth kind laws e
passed_list c (due_tagged p x k) ns depth kind laws is e = tagged_nested c p x k (list ns) depth kind is (laws.nested x k (list ns) tt) e
passed_list c (due_passed d report) ns depth kind laws is e =
    let same : report ≡ Some kind = cc in ap (λ r. read_where c (due_passed d r) (list ns)) same
passed_list c due_nowhere ns depth kind laws is e = absurd cc

pub passed_object : (c : Codec) (due : Due) (ms : Members) (depth : ℕ) (kind : FaultKind) → IsConvention c.convention → IsSimpleDue c due
    → opened_where c object_by_sort due ≡ opened_passed depth (Some kind) → read_where c due (object ms) ≡ Err (one_here kind)
passed_object c (due_at p) ms depth kind laws is e = wrong_object c p ms (sort_at c p) depth kind laws e
passed_object c (due_tagged p x k) ms depth kind laws is e = tagged_nested c p x k (object ms) depth kind is
    (laws.nested x k (object ms) tt) e
passed_object c (due_passed d report) ms depth kind laws is e =
    let same : report ≡ Some kind = cc in ap (λ r. read_where c (due_passed d r) (object ms)) same
passed_object c due_nowhere ms depth kind laws is e = absurd cc
