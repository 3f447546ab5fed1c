-- How many nodes the value has that a list or an object comes to at a place, by those of its parts: itself, its parts, and for a structure
-- a node for each default.
use Rattle.std.proofs.Common.{◌≡◌, inl, inr, ℕ, zero, suc, ◌+◌, ◌≤◌, Bool, true, false, cond, List, [], ◌∷◌, map, refl, sym, ap}
use Rattle.std.proofs.Common.{arith}
use Rattle.std.specs.Prelude.{Option, Some, None, Result, Ok, Err, slice_get}
use Rattle.std.specs.List.Sorted.{IsStrictlySortedBy}
use Rattle.sm_tree.specs.Node.{Node, null, bool, int, number, text, bytes, tag, opaque, list, object}
use Rattle.sm_shapes.specs.Names.{NoneIs, AllDiffer}
use Rattle.sm_shapes.specs.Values.{Val, null_val, bool_val, int_val, text_val, blob_val, time_val, list_val, map_val, structure_val}
use Rattle.sm_shapes.specs.Values.{union_val, vals_of, entries_of, fields_of, val_nodes, vals_nodes, entries_nodes, fields_nodes}
use Rattle.sm_shapes.specs.TableData.{TableData, ShapeData, members_in, default_at, required_at, count_of_default}
use Rattle.sm_shapes.specs.InOrder.{Shaped, defaults_among, most_among, most_defaults}
use Rattle.sm_shapes.specs.Places.{Place, member_place, shape_of, members_of_place, sparse_of, entry_place, value_place}
use Rattle.sm_shapes.specs.declared.fault.FaultKind.{FaultKind}
use Rattle.sm_shapes.specs.declared.fault.FaultKind.TheVariants.{Null, UnionCount}
use Rattle.sm_shapes.proofs.NamedMembers.{IsAmong, found}
use Rattle.sm_codec.specs.declared.simple.Simple.{Simple}
use Rattle.sm_codec.specs.declared.simple.Simple.TheVariants as the
use Rattle.sm_codec.specs.Bound.{total, tagged_count}
use Rattle.sm_codec.specs.Codec.{Codec, wire_name, InTable, broken_at}
use Rattle.sm_codec.specs.CodecLaws.{IsCodec}
use Rattle.sm_codec.specs.Convention.{IsConvention, is_of, nested_fault}
use Rattle.sm_codec.specs.FaultLists.{FaultAt, here, Reading, values_in, settled}
use Rattle.sm_codec.specs.Kept.{each_field, spelled_fields, each_entry, spelled_entries}
use Rattle.sm_codec.specs.Named.{named, names_of, in_byte_order}
use Rattle.sm_codec.specs.Readings.{Child, under_names, one_here, leaf_reading, leaf_by, entry_reading, entries_values, list_faults}
use Rattle.sm_codec.specs.Readings.{list_reading, keyed, pair_values, keys_values, pairs_values, map_faults, map_reading, absent_with}
use Rattle.sm_codec.specs.Readings.{when_closed, absent_reading, present_reading, member_reading, member_fields, members_faults}
use Rattle.sm_codec.specs.Readings.{members_fields, structure_reading, repeats, standing, all_standing, standing_fields, union_faults}
use Rattle.sm_codec.specs.Readings.{union_reading_of, union_reading}
use Rattle.sm_codec.specs.Sorts.{Sort, simple, a_list, a_map, a_structure, a_union, left_out}
use Rattle.sm_codec.specs.Walk.{member_at}
use Rattle.sm_codec.specs.steps.ClosingSteps.{IsPlain}
use Rattle.sm_codec.proofs.FieldsRising.{plain_default}
use Rattle.sm_codec.proofs.Joined.{Joins}
use Rattle.sm_codec.proofs.KeyOrder.{IsBefore, InOrder, never_before_itself, ordered}
use Rattle.sm_codec.proofs.PlacesIn.{shape_in}
use Rattle.sm_codec.proofs.Sums.{total_joined, under_cost, pairs_cost, under_at_most}

abbrev pub reading_nodes : Reading → ℕ
reading_nodes (Ok v) = val_nodes v
reading_nodes (Err fs) = 0

-- of a child at a place, where null may be a value
abbrev pub child_nodes : Place → Child → ℕ
child_nodes p child = cond child.null 1 (reading_nodes (child.reading p))

-- of what stands under a name, at the member that the name is of
abbrev pub member_nodes : Option ℕ → Child → ℕ
member_nodes None child = 0
member_nodes (Some k) child = child_nodes (member_place k) child

abbrev pub member_cost : Codec → Place → List ℕ → Child → ℕ
member_cost c p name child = member_nodes (member_at c p name) child

abbrev pub value_cost : Codec → Place → List ℕ → Child → ℕ
value_cost c p name child = child_nodes (value_place c.table p) child

-- values, and values by what they stand under
abbrev pub items_nodes : List Val → ℕ
items_nodes vs = total val_nodes vs

abbrev pub keyed_nodes : {A : Type 0} → List (A × Val) → ℕ
keyed_nodes es = total (λ e. val_nodes e.1) es

pub settled_nodes : (fs : List FaultAt) (v : Val) → reading_nodes (settled fs v) ≤ val_nodes v
settled_nodes [] v = omega arith
settled_nodes (f ∷ fs) v = omega arith

pub vals_total : (vs : List Val) → vals_nodes (vals_of vs) ≡ items_nodes vs
vals_total [] = refl
vals_total (v ∷ vs) = omega (arith, vals_total vs)

pub entries_total : (es : List (List ℕ × Val)) → entries_nodes (entries_of es) ≡ keyed_nodes es
entries_total [] = refl
entries_total (e ∷ es) = omega (arith, entries_total es)

pub fields_total : (fs : List (ℕ × Val)) → fields_nodes (fields_of fs) ≡ keyed_nodes fs
fields_total [] = refl
fields_total (f ∷ fs) = omega (arith, fields_total fs)

one_node : (x : Simple) (v : Val) → is_of x v ≡ true → val_nodes v ≡ 1
one_node the.Blob (blob_val u) h = refl
one_node the.Blob v h = absurd cc
one_node the.Boolean (bool_val b) h = refl
one_node the.Boolean v h = absurd cc
one_node the.Text (text_val u) h = refl
one_node the.Text v h = absurd cc
one_node (the.Number bits) (int_val z) h = refl
one_node (the.Number bits) v h = absurd cc
one_node (the.Time format) (time_val ms) h = refl
one_node (the.Time format) v h = absurd cc

plain_node : (v : Val) → IsPlain v → val_nodes v ≡ 1
plain_node null_val h = refl
plain_node (bool_val b) h = refl
plain_node (int_val z) h = refl
plain_node (text_val u) h = refl
plain_node (blob_val u) h = refl
plain_node (time_val ms) h = refl
plain_node (list_val vs) h = ap (λ ws. vals_nodes ws + 1) h
plain_node (map_val es) h = ap (λ ds. entries_nodes ds + 1) h
plain_node (structure_val fs) h = absurd h
plain_node (union_val k v) h = absurd h

-- a leaf
leaf_read : (c : Codec) (p : Place) (x : Simple) (n : Node) (r : Result Val FaultKind) → IsConvention c.convention
    → c.convention.read x n ≡ r
    → reading_nodes (leaf_reading c p r) ≤ 1
leaf_read c p x n (Ok v) laws e =
    omega (arith, settled_nodes (here (broken_at c p v)) v, one_node x v (laws.of_type x n v e))
leaf_read c p x n (Err kind) laws e = omega arith

pub leaf_nodes : (c : Codec) (p : Place) (n : Node) (s : Sort) → IsConvention c.convention → reading_nodes (leaf_by s c p n) ≤ 1
leaf_nodes c p n (simple x) laws = leaf_read c p x n (c.convention.read x n) laws refl
leaf_nodes c p n a_list laws = omega arith
leaf_nodes c p n a_map laws = omega arith
leaf_nodes c p n a_structure laws = omega arith
leaf_nodes c p n a_union laws = omega arith
leaf_nodes c p n left_out laws = omega arith

pub no_nodes_read : (c : Codec) (p : Place) (x : Simple) (n : Node) (kind : FaultKind) → c.convention.read x n ≡ Err kind
    → reading_nodes (leaf_by (simple x) c p n) ≡ 0
no_nodes_read c p x n kind e = ap (λ r. reading_nodes (leaf_reading c p r)) e

-- a tag over a leaf, and over what is nested
under_tag : (c : Codec) (p : Place) (x : Simple) (k : ℕ) (n : Node) → IsConvention c.convention
    → reading_nodes (leaf_by (simple x) c p (tag k n)) ≤ tagged_count (simple x) n
under_tag c p x k null laws = leaf_nodes c p (tag k null) (simple x) laws
under_tag c p x k (bool b) laws = leaf_nodes c p (tag k (bool b)) (simple x) laws
under_tag c p x k (int z) laws = leaf_nodes c p (tag k (int z)) (simple x) laws
under_tag c p x k (number u) laws = leaf_nodes c p (tag k (number u)) (simple x) laws
under_tag c p x k (text u) laws = leaf_nodes c p (tag k (text u)) (simple x) laws
under_tag c p x k (bytes u) laws = leaf_nodes c p (tag k (bytes u)) (simple x) laws
under_tag c p x k (opaque b) laws = leaf_nodes c p (tag k (opaque b)) (simple x) laws
under_tag c p x k (tag j n) laws =
    omega (arith, no_nodes_read c p x (tag k (tag j n)) (nested_fault c.convention x k) (laws.nested x k (tag j n) tt))
under_tag c p x k (list ns) laws =
    omega (arith, no_nodes_read c p x (tag k (list ns)) (nested_fault c.convention x k) (laws.nested x k (list ns) tt))
under_tag c p x k (object ms) laws =
    omega (arith, no_nodes_read c p x (tag k (object ms)) (nested_fault c.convention x k) (laws.nested x k (object ms) tt))

pub tagged_nodes : (c : Codec) (p : Place) (s : Sort) (k : ℕ) (n : Node) → IsConvention c.convention
    → reading_nodes (leaf_by s c p (tag k n)) ≤ tagged_count s n
tagged_nodes c p (simple x) k n laws = under_tag c p x k n laws
tagged_nodes c p a_list k n laws = omega arith
tagged_nodes c p a_map k n laws = omega arith
tagged_nodes c p a_structure k n laws = omega arith
tagged_nodes c p a_union k n laws = omega arith
tagged_nodes c p left_out k n laws = omega arith

-- entries of lists and maps
entry_nodes : (b sparse : Bool) (r : Reading)
    → reading_nodes (cond b (cond sparse (Ok null_val) (Err (one_here Null))) r) ≤ cond b 1 (reading_nodes r)
entry_nodes true true r = omega arith
entry_nodes true false r = omega arith
entry_nodes false sparse r = omega arith

entry_at_most : (sparse : Bool) (q : Place) (child : Child) → reading_nodes (entry_reading sparse q child) ≤ child_nodes q child
entry_at_most sparse q child = entry_nodes child.null sparse (child.reading q)

values_total : (r : Reading) → items_nodes (values_in r) ≡ reading_nodes r
values_total (Ok v) = omega arith
values_total (Err fs) = refl

keyed_total : (key : List ℕ) (r : Reading) → keyed_nodes (keyed key r) ≡ reading_nodes r
keyed_total key (Ok v) = omega arith
keyed_total key (Err fs) = refl

pub items_at_most : (c : Codec) (p : Place) (ks : List Child)
    → items_nodes (entries_values c p ks) ≤ total (child_nodes (entry_place c.table p)) ks
items_at_most c p [] = omega arith
items_at_most c p (k ∷ ks) =
    let r = entry_reading (sparse_of c.table p) (entry_place c.table p) k in
    omega (
      arith,
      total_joined val_nodes (values_in r) (entries_values c p ks),
      values_total r,
      entry_at_most (sparse_of c.table p) (entry_place c.table p) k,
      items_at_most c p ks,
    )

pub list_nodes : (c : Codec) (p : Place) (ks : List Child)
    → reading_nodes (list_reading c p ks) ≤ 1 + total (child_nodes (entry_place c.table p)) ks
list_nodes c p ks =
    omega (
      arith,
      settled_nodes (list_faults c p ks) (list_val (vals_of (entries_values c p ks))),
      vals_total (entries_values c p ks),
      items_at_most c p ks,
    )

-- keys in byte order differ
before_differs : (k : List ℕ) (ks : List (List ℕ)) → IsBefore k ks → NoneIs k ks
before_differs k [] h = tt
before_differs k (j ∷ ks) h = (λ e. never_before_itself k j (sym e) h.0, before_differs k ks h.1)

keys_differ : (ks : List (List ℕ)) → InOrder ks → AllDiffer ks
unfolding IsStrictlySortedBy
keys_differ [] h = tt
keys_differ (k ∷ ks) h = (before_differs k ks h.0, keys_differ ks h.1)

-- what stands under one key, where the map is closed and before
pair_nodes : (c : Codec) (p : Place) (key : List ℕ) (ks : List Child)
    → keyed_nodes (pair_values c p key ks) ≤ total (value_cost c p key) ks
pair_nodes c p key [] = omega arith
pair_nodes c p key (child ∷ []) =
    omega (
      arith,
      keyed_total key (entry_reading (sparse_of c.table p) (value_place c.table p) child),
      entry_at_most (sparse_of c.table p) (value_place c.table p) child,
    )
pair_nodes c p key (child ∷ more ∷ ks) = omega arith

each_nodes : (c : Codec) (p : Place) (key : List ℕ) (ks : List Child) → keyed_nodes (each_entry c p key ks) ≤ total (value_cost c p key) ks
each_nodes c p key [] = omega arith
each_nodes c p key (k ∷ ks) =
    let r = entry_reading (sparse_of c.table p) (value_place c.table p) k in
    omega (
      arith,
      total_joined (λ e. val_nodes e.1) (keyed key r) (each_entry c p key ks),
      keyed_total key r,
      entry_at_most (sparse_of c.table p) (value_place c.table p) k,
      each_nodes c p key ks,
    )

keys_nodes : (c : Codec) (p : Place) (ps : List (List ℕ × Child)) (own : List ℕ → List (List ℕ × Val))
    (all : List (List ℕ) → List (List ℕ × Val)) → Joins own all
    → ((key : List ℕ) → keyed_nodes (own key) ≤ total (value_cost c p key) (named key ps))
    → (keys : List (List ℕ)) → keyed_nodes (all keys) ≤ under_cost (value_cost c p) keys ps
keys_nodes c p ps own all joins each [] = omega (arith, ap keyed_nodes joins.0)
keys_nodes c p ps own all joins each (key ∷ keys) =
    omega (
      arith,
      ap keyed_nodes (joins.1 key keys),
      total_joined (λ e. val_nodes e.1) (own key) (all keys),
      each key,
      keys_nodes c p ps own all joins each keys,
    )

in_all_pairs : (c : Codec) (p : Place) (ps : List (List ℕ × Child))
    → under_cost (value_cost c p) (in_byte_order (names_of ps)) ps ≤ pairs_cost (value_cost c p) ps
in_all_pairs c p ps =
    under_at_most (value_cost c p) (in_byte_order (names_of ps)) ps (keys_differ (in_byte_order (names_of ps)) (ordered (names_of ps)))

pub entries_at_most : (c : Codec) (p : Place) (ps : List (List ℕ × Child))
    → keyed_nodes (spelled_entries c p ps (in_byte_order (names_of ps))) ≤ pairs_cost (value_cost c p) ps
entries_at_most c p ps =
    omega (
      arith,
      keys_nodes c p ps (λ key. each_entry c p key (named key ps)) (spelled_entries c p ps) (refl, λ key keys. refl)
          (λ key. each_nodes c p key (named key ps)) (in_byte_order (names_of ps)),
      in_all_pairs c p ps,
    )

pub map_nodes : (c : Codec) (p : Place) (ps : List (List ℕ × Child))
    → reading_nodes (map_reading c p ps) ≤ 1 + pairs_cost (value_cost c p) ps
map_nodes c p ps =
    omega (
      arith,
      settled_nodes (map_faults c p ps) (map_val (entries_of (pairs_values c p ps))),
      entries_total (pairs_values c p ps),
      keys_nodes c p ps (λ key. pair_values c p key (named key ps)) (keys_values c p ps) (refl, λ key keys. refl)
          (λ key. pair_nodes c p key (named key ps)) (in_byte_order (names_of ps)),
      in_all_pairs c p ps,
    )

-- members: what stands under the names of all of them is counted at their pairs
same_total : (f g : Child → ℕ) (ks : List Child) → ((k : Child) → f k ≡ g k) → total f ks ≡ total g ks
same_total f g [] h = refl
same_total f g (k ∷ ks) h = omega (arith, h k, same_total f g ks h)

module _ {B : Type 0} (c : Codec) (p : Place) (ps : List (List ℕ × Child)) (size : B → ℕ) (extra : ℕ → ℕ) (own : ℕ → List B)
    (all : List ℕ → List B) (joins : Joins own all) (each : (k : ℕ)
    → total size (own k) ≤ extra k + total (child_nodes (member_place k)) (under_names c p ps k)) where
  members_total : (ks : List ℕ) → ((k : ℕ) → IsAmong k ks → member_at c p (wire_name c p k) ≡ Some k)
      → total size (all ks) ≤ total extra ks + under_cost (member_cost c p) (map (wire_name c p) ks) ps
  members_total [] found = omega (arith, ap (total size) joins.0)
  members_total (k ∷ ks) found =
      let here_now = same_total (member_cost c p (wire_name c p k)) (child_nodes (member_place k)) (under_names c p ps k)
      (λ child. ap (λ o. member_nodes o child) (found k (inl refl))) in
      omega (
        arith,
        ap (total size) (joins.1 k ks),
        total_joined size (own k) (all ks),
        each k,
        here_now,
        members_total ks (λ j i. found j (inr i)),
      )

  pub members_at_most : IsCodec c → InTable c.table p
      → total size (all (members_of_place c.table p)) ≤ total extra (members_of_place c.table p) + pairs_cost (member_cost c p) ps
  members_at_most laws inside =
      let ks = members_of_place c.table p in
      let differ : AllDiffer (map (wire_name c p) ks)
      = laws.convention.names c.table laws.table (shape_of c.table p) (shape_in c.table p laws.table inside) in
      omega (
        arith,
        members_total ks (λ k i. found (wire_name c p) k ks differ i),
        under_at_most (member_cost c p) (map (wire_name c p) ks) ps differ,
      )

-- a structure's fields: a default for a member that is absent
present_nodes : (k : ℕ) (r : Reading) → keyed_nodes (member_fields k (present_reading r)) ≤ reading_nodes r
present_nodes k (Ok v) = omega arith
present_nodes k (Err fs) = omega arith

absent_by : (t : TableData) (k : ℕ) (o : Option Val) (required : Bool) → ((v : Val) → o ≡ Some v → IsPlain v)
    → keyed_nodes (member_fields k (absent_reading (absent_with o required))) ≤ count_of_default o
absent_by t k (Some v) required plain = omega (arith, plain_node v (plain v refl))
absent_by t k None true plain = omega arith
absent_by t k None false plain = omega arith

absent_nodes : (t : TableData) (k : ℕ) → Shaped t
    → keyed_nodes (member_fields k (absent_reading (when_closed t k))) ≤ count_of_default (default_at t k)
absent_nodes t k shaped = absent_by t k (default_at t k) (required_at t k) (λ v e. plain_default t k v shaped e)

one_by : (t : TableData) (k : ℕ) (b : Bool) (r : Reading) → Shaped t
    → keyed_nodes (member_fields k (cond b (absent_reading (when_closed t k)) (present_reading r)))
    ≤ count_of_default (default_at t k) + cond b 1 (reading_nodes r)
one_by t k true r shaped = omega (arith, absent_nodes t k shaped)
one_by t k false r shaped = omega (arith, present_nodes k r)

closed_nodes : (t : TableData) (k : ℕ) (ks : List Child) → Shaped t
    → keyed_nodes (member_fields k (member_reading (when_closed t) k ks))
    ≤ count_of_default (default_at t k) + total (child_nodes (member_place k)) ks
closed_nodes t k [] shaped = omega (arith, absent_nodes t k shaped)
closed_nodes t k (child ∷ []) shaped = omega (arith, one_by t k child.null (child.reading (member_place k)) shaped)
closed_nodes t k (child ∷ more ∷ ks) shaped = omega arith

defaults_total : (t : TableData) (ks : List ℕ) → total (λ k. count_of_default (default_at t k)) ks ≡ defaults_among t ks
defaults_total t [] = refl
defaults_total t (k ∷ ks) = omega (arith, defaults_total t ks)

among_most : (t : TableData) (ss : List ShapeData) (s : ℕ) → defaults_among t (members_in (slice_get ss s)) ≤ most_among t ss
among_most t [] s = omega arith
among_most t (x ∷ ss) zero = omega arith
among_most t (x ∷ ss) (suc s) = omega (arith, among_most t ss s)

pub structure_nodes : (c : Codec) (p : Place) (ps : List (List ℕ × Child)) → IsCodec c → InTable c.table p
    → reading_nodes (structure_reading c p ps) ≤ 1 + most_defaults c.table + pairs_cost (member_cost c p) ps
structure_nodes c p ps laws inside =
    let t = c.table in
    let ks = members_of_place t p in
    let fs = members_fields (when_closed t) (under_names c p ps) ks in
    omega (
      arith,
      settled_nodes (members_faults t (when_closed t) (under_names c p ps) ks) (structure_val (fields_of fs)),
      fields_total fs,
      members_at_most c p ps (λ e. val_nodes e.1) (λ k. count_of_default (default_at t k))
          (λ k. member_fields k (member_reading (when_closed t) k (under_names c p ps k)))
          (members_fields (when_closed t) (under_names c p ps))
          (refl, λ k js. refl) (λ k. closed_nodes t k (under_names c p ps k) laws.table) laws inside,
      defaults_total t ks,
      among_most t t.shapes (shape_of t p),
    )

-- the fields of closed members
nothing_more : (ks : List ℕ) → total (λ k. 0) ks ≡ 0
nothing_more [] = refl
nothing_more (k ∷ ks) = omega (arith, nothing_more ks)

field_by : (k : ℕ) (b : Bool) (r : Reading) → keyed_nodes (cond b [] (member_fields k (present_reading r))) ≤ cond b 1 (reading_nodes r)
field_by k true r = omega arith
field_by k false r = present_nodes k r

field_nodes : (k : ℕ) (ks : List Child) → keyed_nodes (each_field k ks) ≤ total (child_nodes (member_place k)) ks
field_nodes k [] = omega arith
field_nodes k (child ∷ ks) =
    omega (
      arith,
      total_joined (λ e. val_nodes e.1) (cond child.null [] (member_fields k (present_reading (child.reading (member_place k)))))
          (each_field k ks),
      field_by k child.null (child.reading (member_place k)),
      field_nodes k ks,
    )

pub fields_at_most : (c : Codec) (p : Place) (ps : List (List ℕ × Child)) → IsCodec c → InTable c.table p
    → keyed_nodes (spelled_fields (under_names c p ps) (members_of_place c.table p)) ≤ pairs_cost (member_cost c p) ps
fields_at_most c p ps laws inside =
    omega (
      arith,
      members_at_most c p ps (λ e. val_nodes e.1) (λ k. 0) (λ k. each_field k (under_names c p ps k))
          (spelled_fields (under_names c p ps)) (refl, λ k js. refl) (λ k. omega (arith, field_nodes k (under_names c p ps k))) laws inside,
      nothing_more (members_of_place c.table p),
    )

-- a union: the one that stands
abbrev standing_size : ℕ × Child → ℕ
standing_size m = reading_nodes (m.1.reading (member_place m.0))

standing_by : (k : ℕ) (child : Child) (b : Bool)
    → total standing_size (cond b [] ((k, child) ∷ [])) ≤ cond b 1 (reading_nodes (child.reading (member_place k)))
standing_by k child true = omega arith
standing_by k child false = omega arith

standing_nodes : (k : ℕ) (ks : List Child) → total standing_size (standing k ks) ≤ total (child_nodes (member_place k)) ks
standing_nodes k [] = omega arith
standing_nodes k (child ∷ []) = omega (arith, standing_by k child child.null)
standing_nodes k (child ∷ more ∷ ks) = omega arith

stand_fields : (ms : List (ℕ × Child)) → keyed_nodes (standing_fields ms) ≤ total standing_size ms
stand_fields [] = omega arith
stand_fields (m ∷ ms) =
    let r = m.1.reading (member_place m.0) in
    omega (
      arith,
      total_joined (λ e. val_nodes e.1) (member_fields m.0 (present_reading r)) (standing_fields ms),
      present_nodes m.0 r,
      stand_fields ms,
    )

union_of_nodes : (fs : List FaultAt) (vs : List (ℕ × Val)) → reading_nodes (union_reading_of fs vs) ≤ 1 + keyed_nodes vs
union_of_nodes (f ∷ fs) vs = omega arith
union_of_nodes [] [] = omega arith
union_of_nodes [] (v ∷ vs) = omega arith

pub union_nodes : (c : Codec) (p : Place) (ps : List (List ℕ × Child)) → IsCodec c → InTable c.table p
    → reading_nodes (union_reading c p ps) ≤ 1 + pairs_cost (member_cost c p) ps
union_nodes c p ps laws inside =
    let ks = members_of_place c.table p in
    let ms = all_standing (under_names c p ps) ks in
    omega (
      arith,
      union_of_nodes (union_faults c.table (one_here UnionCount) (repeats c.table (under_names c p ps) ks) ms) (standing_fields ms),
      stand_fields ms,
      members_at_most c p ps standing_size (λ k. 0) (λ k. standing k (under_names c p ps k))
          (all_standing (under_names c p ps)) (refl, λ k js. refl)
          (λ k. omega (arith, standing_nodes k (under_names c p ps k))) laws inside,
      nothing_more ks,
    )
