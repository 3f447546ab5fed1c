-- What a tree comes to it spells, and what it spells it comes to: by induction over the tree, and over the value.
use Rattle.std.proofs.Common.{◌≡◌, [], refl, sym, ap, ◌∙◌, subst}
use Rattle.std.specs.Prelude.{Ok}
use Rattle.sm_tree.specs.Node.{Node, Nodes, Members, null, bool, int, number, text, bytes, tag, opaque, list, object, no_nodes, node}
use Rattle.sm_tree.specs.Node.{no_members, member}
use Rattle.sm_shapes.specs.Values.{Val, Vals, EntryVals, FieldVals, null_val, bool_val, int_val, text_val, blob_val, time_val, list_val}
use Rattle.sm_shapes.specs.Values.{map_val, structure_val, union_val, no_vals, val, no_entries, entry, no_fields, field}
use Rattle.sm_shapes.specs.Places.{Place}
use Rattle.sm_codec.specs.Sorts.{Sort, simple, a_list, a_map, a_structure, a_union, left_out}
use Rattle.sm_codec.specs.Codec.{Codec, sort_at, broken_at, InTable}
use Rattle.sm_codec.specs.CodecLaws.{IsCodec, OneValue, ValueOrFault}
use Rattle.sm_codec.specs.Spelling.{IsLeaf, Spells}
use Rattle.sm_codec.specs.FaultLists.{faults_in}
use Rattle.sm_codec.specs.Readings.{reading, leaf_by, list_by, object_by, list_reading, map_reading, structure_reading, union_reading}
use Rattle.sm_codec.specs.Readings.{children, named_children}
use Rattle.sm_codec.proofs.LeafReadings.{leaf_read, spelled_read}
use Rattle.sm_codec.proofs.NoFaults.{reading_is, clean_reading}
use Rattle.sm_codec.proofs.ChildLists.{each_node, each_pair, nodes_back, members_back, entries_are, pairs_are}
use Rattle.sm_codec.proofs.Entries.{IsRead, AreRead, IsSpelled, AreSpelled, list_read, list_spelled}
use Rattle.sm_codec.proofs.Keyed.{PairsAreRead, EntriesAreSpelled, map_read, map_spelled}
use Rattle.sm_codec.proofs.Membered.{FieldsAreSpelled, structure_read, structure_spelled}
use Rattle.sm_codec.proofs.Chosen.{union_read, union_spelled}

-- a tree that is no list and no object, by the sort of the place
plain_read : (c : Codec) (p : Place) (n : Node) (v : Val) → IsCodec c → reading c n p ≡ leaf_by (sort_at c p) c p n → (s : Sort)
    → sort_at c p ≡ s → leaf_by s c p n ≡ Ok v → Spells c p v n
plain_read c p n v laws is (simple x) e h =
    leaf_read c p x n v laws.convention e (is ∙ ap (λ s. leaf_by s c p n) e ∙ h)
plain_read c p n v laws is a_list e h = absurd cc
plain_read c p n v laws is a_map e h = absurd cc
plain_read c p n v laws is a_structure e h = absurd cc
plain_read c p n v laws is a_union e h = absurd cc
plain_read c p n v laws is left_out e h = absurd cc

-- a list
list_at : (c : Codec) (p : Place) (ns : Nodes) (v : Val) → IsCodec c → InTable c.table p → AreRead c (each_node ns) → (s : Sort)
    → sort_at c p ≡ s → list_by s c p (list ns) (children c ns) ≡ Ok v → Spells c p v (list ns)
list_at c p ns v laws inside read (simple x) e h =
    leaf_read c p x (list ns) v laws.convention e (ap (λ s. list_by s c p (list ns) (children c ns)) e ∙ h)
list_at c p ns v laws inside read a_list e h =
    subst (λ m. Spells c p v (list m)) (nodes_back ns)
    (list_read c p (each_node ns) v laws inside e read (ap (list_reading c p) (sym (entries_are c ns)) ∙ h))
list_at c p ns v laws inside read a_map e h = absurd cc
list_at c p ns v laws inside read a_structure e h = absurd cc
list_at c p ns v laws inside read a_union e h = absurd cc
list_at c p ns v laws inside read left_out e h = absurd cc

-- an object
object_at : (c : Codec) (p : Place) (ms : Members) (v : Val) → IsCodec c → InTable c.table p → PairsAreRead c (each_pair ms) → (s : Sort)
    → sort_at c p ≡ s → object_by s c p (object ms) (named_children c ms) ≡ Ok v → Spells c p v (object ms)
object_at c p ms v laws inside read (simple x) e h =
    leaf_read c p x (object ms) v laws.convention e (ap (λ s. object_by s c p (object ms) (named_children c ms)) e ∙ h)
object_at c p ms v laws inside read a_list e h = absurd cc
object_at c p ms v laws inside read a_map e h =
    subst (λ m. Spells c p v (object m)) (members_back ms)
    (map_read c p (each_pair ms) v laws inside e read (ap (map_reading c p) (sym (pairs_are c ms)) ∙ h))
object_at c p ms v laws inside read a_structure e h =
    subst (λ m. Spells c p v (object m)) (members_back ms)
    (structure_read c p (each_pair ms) v laws inside e read (ap (structure_reading c p) (sym (pairs_are c ms)) ∙ h))
object_at c p ms v laws inside read a_union e h =
    subst (λ m. Spells c p v (object m)) (members_back ms)
    (union_read c p (each_pair ms) v laws inside e read (ap (union_reading c p) (sym (pairs_are c ms)) ∙ h))
object_at c p ms v laws inside read left_out e h = absurd cc

mutual
  tree_read : (c : Codec) → IsCodec c → (n : Node) → IsRead c n
  tree_read c laws null = λ p v inside h. plain_read c p null v laws refl (sort_at c p) refl h
  tree_read c laws (bool b) = λ p v inside h. plain_read c p (bool b) v laws refl (sort_at c p) refl h
  tree_read c laws (int z) = λ p v inside h. plain_read c p (int z) v laws refl (sort_at c p) refl h
  tree_read c laws (number u) = λ p v inside h. plain_read c p (number u) v laws refl (sort_at c p) refl h
  tree_read c laws (text u) = λ p v inside h. plain_read c p (text u) v laws refl (sort_at c p) refl h
  tree_read c laws (bytes u) = λ p v inside h. plain_read c p (bytes u) v laws refl (sort_at c p) refl h
  tree_read c laws (tag k n) = λ p v inside h. plain_read c p (tag k n) v laws refl (sort_at c p) refl h
  tree_read c laws (opaque b) = λ p v inside h. plain_read c p (opaque b) v laws refl (sort_at c p) refl h
  tree_read c laws (list ns) = λ p v inside h. list_at c p ns v laws inside (trees_read c laws ns) (sort_at c p) refl h
  tree_read c laws (object ms) = λ p v inside h. object_at c p ms v laws inside (pairs_read c laws ms) (sort_at c p) refl h

  trees_read : (c : Codec) → IsCodec c → (ns : Nodes) → AreRead c (each_node ns)
  trees_read c laws no_nodes = tt
  trees_read c laws (node n ns) = (tree_read c laws n, trees_read c laws ns)

  pairs_read : (c : Codec) → IsCodec c → (ms : Members) → PairsAreRead c (each_pair ms)
  pairs_read c laws no_members = tt
  pairs_read c laws (member k n ms) = (tree_read c laws n, pairs_read c laws ms)

leaf_is_read : (c : Codec) (p : Place) (v : Val) (n : Node) → IsLeaf c p v n → broken_at c p v ≡ [] → reading c n p ≡ Ok v
leaf_is_read c p v n h b = spelled_read c p h.0 n v h.1 h.2 b

mutual
  value_read : (c : Codec) → IsCodec c → (v : Val) → IsSpelled c v
  value_read c laws null_val = λ p n inside h. absurd h.0
  value_read c laws (bool_val b) = λ p n inside h. leaf_is_read c p (bool_val b) n h.1 h.0.1
  value_read c laws (int_val z) = λ p n inside h. leaf_is_read c p (int_val z) n h.1 h.0.1
  value_read c laws (text_val u) = λ p n inside h. leaf_is_read c p (text_val u) n h.1 h.0.1
  value_read c laws (blob_val u) = λ p n inside h. leaf_is_read c p (blob_val u) n h.1 h.0.1
  value_read c laws (time_val ms) = λ p n inside h. leaf_is_read c p (time_val ms) n h.1 h.0.1
  value_read c laws (list_val vs) = λ p n inside h. list_spelled c p vs n laws inside (values_read c laws vs) h
  value_read c laws (map_val es) = λ p n inside h. map_spelled c p es n laws inside (entries_read c laws es) h
  value_read c laws (structure_val fs) = λ p n inside h. structure_spelled c p fs n laws inside (fields_read c laws fs) h
  value_read c laws (union_val k v) = λ p n inside h. union_spelled c p k v n laws inside (value_read c laws v) h

  values_read : (c : Codec) → IsCodec c → (vs : Vals) → AreSpelled c vs
  values_read c laws no_vals = tt
  values_read c laws (val v vs) = (value_read c laws v, values_read c laws vs)

  entries_read : (c : Codec) → IsCodec c → (es : EntryVals) → EntriesAreSpelled c es
  entries_read c laws no_entries = tt
  entries_read c laws (entry key v es) = (value_read c laws v, entries_read c laws es)

  fields_read : (c : Codec) → IsCodec c → (fs : FieldVals) → FieldsAreSpelled c fs
  fields_read c laws no_fields = tt
  fields_read c laws (field k v fs) = (value_read c laws v, fields_read c laws fs)

pub one_value : OneValue
one_value c p v n laws inside = (value_read c laws v p n inside, tree_read c laws n p v inside)

pub value_or_fault : ValueOrFault
value_or_fault c p n laws inside = (
  λ h. let found = clean_reading (reading c n p) (reading_is c n p) h in (found.0, tree_read c laws n p found.0 inside found.1),
  λ h. ap faults_in (value_read c laws h.0 p n inside h.1),
)
