-- A tree comes to a value with a share of nodes at most for each tree that is counted in it: itself, and the defaults of a structure.
use Rattle.std.proofs.Common.{◌≡◌, ℕ, ◌+◌, ◌*◌, ◌≤◌, List, [], ◌∷◌, refl, ap, arith}
use Rattle.std.specs.Prelude.{Option, Some, None}
use Rattle.sm_tree.specs.Node.{Node, Nodes, Members, null, bool, int, number, text, bytes, tag, opaque, list, object, no_nodes, node}
use Rattle.sm_tree.specs.Node.{no_members, member}
use Rattle.sm_shapes.specs.InOrder.{most_defaults}
use Rattle.sm_shapes.specs.Places.{Place, member_place, kind_of, entry_place, value_place}
use Rattle.sm_shapes.specs.declared.fault.FaultKind.TheVariants.{WrongType}
use Rattle.sm_shapes.specs.declared.kinds.ShapeKind.TheVariants as kind
use Rattle.sm_codec.specs.Bound.{total, tagged_count, list_count, object_count, member_count_by, tree_count, entries_count, values_count}
use Rattle.sm_codec.specs.Bound.{members_count, each_count, pair_count}
use Rattle.sm_codec.specs.Codec.{Codec, sort_at, InTable}
use Rattle.sm_codec.specs.CodecLaws.{IsCodec}
use Rattle.sm_codec.specs.Readings.{child_of, children, named_children, children_of, named_children_of, leaf_by, list_by, object_by}
use Rattle.sm_codec.specs.Readings.{reading}
use Rattle.sm_codec.specs.Sorts.{Sort, simple, a_list, a_map, a_structure, a_union, left_out}
use Rattle.sm_codec.specs.Walk.{member_at}
use Rattle.sm_codec.proofs.PlacesHeld.{member_in}
use Rattle.sm_codec.proofs.PlacesIn.{kind_of_sort, entry_in, value_in}
use Rattle.sm_codec.proofs.ReadingNodes.{reading_nodes, child_nodes, member_nodes, member_cost, value_cost, leaf_nodes, no_nodes_read}
use Rattle.sm_codec.proofs.ReadingNodes.{tagged_nodes, list_nodes, map_nodes, structure_nodes, union_nodes}
use Rattle.sm_codec.proofs.Sums.{pairs_cost}

abbrev pub share : Codec → ℕ
share c = 1 + most_defaults c.table

module _ (c : Codec) (laws : IsCodec c) where
  -- what is said of one tree at each place of the table
  abbrev pub IsCounted : Node → Type 0
  IsCounted n = (q : Place) → InTable c.table q → child_nodes q (child_of c n) ≤ share c * tree_count c n q

  null_or : (n : Node) (q : Place) → reading_nodes (reading c n q) ≤ share c * tree_count c n q
      → child_nodes q (child_of c n) ≤ share c * tree_count c n q
  null_or null q h = omega arith
  null_or (bool b) q h = h
  null_or (int z) q h = h
  null_or (number u) q h = h
  null_or (text u) q h = h
  null_or (bytes u) q h = h
  null_or (tag k n) q h = h
  null_or (opaque b) q h = h
  null_or (list ns) q h = h
  null_or (object ms) q h = h

  leaf_counted : (n : Node) (p : Place) (s : Sort) → reading_nodes (leaf_by s c p n) ≤ share c * 1
  leaf_counted n p s = omega (arith, leaf_nodes c p n s laws.convention)

  tag_counted : (k : ℕ) (n : Node) (p : Place) (s : Sort) → reading_nodes (leaf_by s c p (tag k n)) ≤ share c * tagged_count s n
  tag_counted k n p s = omega (arith, tagged_nodes c p s k n laws.convention)

  list_counted : (ns : Nodes) (p : Place) (s : Sort) → sort_at c p ≡ s
      → (kind_of c.table p ≡ kind.List
      → total (child_nodes (entry_place c.table p)) (children c ns) ≤ share c * entries_count c ns (entry_place c.table p))
      → reading_nodes (list_by s c p (list ns) (children c ns)) ≤ share c * list_count s (entries_count c ns (entry_place c.table p))
  list_counted ns p (simple x) e parts = omega (arith, no_nodes_read c p x (list ns) WrongType (laws.convention.no_list x ns))
  list_counted ns p a_list e parts = omega (arith, list_nodes c p (children c ns), parts (kind_of_sort c.table p a_list e))
  list_counted ns p a_map e parts = omega arith
  list_counted ns p a_structure e parts = omega arith
  list_counted ns p a_union e parts = omega arith
  list_counted ns p left_out e parts = omega arith

  object_counted : (ms : Members) (p : Place) (s : Sort) → sort_at c p ≡ s → InTable c.table p
      → (kind_of c.table p ≡ kind.Map
      → pairs_cost (value_cost c p) (named_children c ms) ≤ share c * values_count c ms (value_place c.table p))
      → pairs_cost (member_cost c p) (named_children c ms) ≤ share c * members_count c ms p
      → reading_nodes (object_by s c p (object ms) (named_children c ms))
      ≤ share c * object_count s (values_count c ms (value_place c.table p)) (members_count c ms p)
  object_counted ms p (simple x) e inside values members =
      omega (arith, no_nodes_read c p x (object ms) WrongType (laws.convention.no_object x ms))
  object_counted ms p a_list e inside values members = omega arith
  object_counted ms p a_map e inside values members =
      omega (arith, map_nodes c p (named_children c ms), values (kind_of_sort c.table p a_map e))
  object_counted ms p a_structure e inside values members =
      omega (arith, structure_nodes c p (named_children c ms) laws inside, members)
  object_counted ms p a_union e inside values members =
      omega (arith, union_nodes c p (named_children c ms) laws inside, members)
  object_counted ms p left_out e inside values members = omega arith

  -- what stands under a name
  under_name : (name : List ℕ) (n : Node) (p : Place) (o : Option ℕ) → InTable c.table p → member_at c p name ≡ o → IsCounted n
      → member_nodes o (child_of c n) ≤ share c * member_count_by o (λ q. tree_count c n q)
  under_name name n p None inside e counted = omega arith
  under_name name n p (Some k) inside e counted = counted (member_place k) (member_in c p name k laws.table inside e)

  mutual
    pub node_counted : (n : Node) (p : Place) → InTable c.table p → reading_nodes (reading c n p) ≤ share c * tree_count c n p
    node_counted null p inside = leaf_counted null p (sort_at c p)
    node_counted (bool b) p inside = leaf_counted (bool b) p (sort_at c p)
    node_counted (int z) p inside = leaf_counted (int z) p (sort_at c p)
    node_counted (number u) p inside = leaf_counted (number u) p (sort_at c p)
    node_counted (text u) p inside = leaf_counted (text u) p (sort_at c p)
    node_counted (bytes u) p inside = leaf_counted (bytes u) p (sort_at c p)
    node_counted (tag k n) p inside = tag_counted k n p (sort_at c p)
    node_counted (opaque b) p inside = leaf_counted (opaque b) p (sort_at c p)
    node_counted (list ns) p inside =
        list_counted ns p (sort_at c p) refl (λ e. entries_counted ns (entry_place c.table p) (entry_in c.table p laws.table inside e))
    node_counted (object ms) p inside =
        object_counted ms p (sort_at c p) refl inside (λ e. values_counted ms p (value_in c.table p laws.table inside e))
        (members_counted ms p inside)

    entries_counted : (ns : Nodes) (q : Place) → InTable c.table q → total (child_nodes q) (children c ns) ≤ share c * entries_count c ns q
    entries_counted no_nodes q inside = omega arith
    entries_counted (node n ns) q inside = omega (arith, null_or n q (node_counted n q inside), entries_counted ns q inside)

    values_counted : (ms : Members) (p : Place) → InTable c.table (value_place c.table p)
        → pairs_cost (value_cost c p) (named_children c ms) ≤ share c * values_count c ms (value_place c.table p)
    values_counted no_members p inside = omega arith
    values_counted (member name n ms) p inside =
        omega (arith, null_or n (value_place c.table p) (node_counted n (value_place c.table p) inside), values_counted ms p inside)

    members_counted : (ms : Members) (p : Place) → InTable c.table p
        → pairs_cost (member_cost c p) (named_children c ms) ≤ share c * members_count c ms p
    members_counted no_members p inside = omega arith
    members_counted (member name n ms) p inside =
        omega (
          arith,
          under_name name n p (member_at c p name) inside refl (λ q i. null_or n q (node_counted n q i)),
          members_counted ms p inside,
        )

  -- the same of closed entries and pairs of a level
  pub each_counted : (ns : List Node) (q : Place) → InTable c.table q
      → total (child_nodes q) (children_of c ns) ≤ share c * each_count c ns q
  each_counted [] q inside = omega arith
  each_counted (n ∷ ns) q inside = omega (arith, null_or n q (node_counted n q inside), each_counted ns q inside)

  pub pairs_valued : (ms : List (List ℕ × Node)) (p : Place) → InTable c.table (value_place c.table p)
      → pairs_cost (value_cost c p) (named_children_of c ms) ≤ share c * total (pair_count a_map c p) ms
  pairs_valued [] p inside = omega arith
  pairs_valued (m ∷ ms) p inside =
      omega (arith, null_or m.1 (value_place c.table p) (node_counted m.1 (value_place c.table p) inside), pairs_valued ms p inside)

  pub pairs_named : (s : Sort) (ms : List (List ℕ × Node)) (p : Place) → InTable c.table p
      → ((m : List ℕ × Node) → pair_count s c p m ≡ member_count_by (member_at c p m.0) (λ q. tree_count c m.1 q))
      → pairs_cost (member_cost c p) (named_children_of c ms) ≤ share c * total (pair_count s c p) ms
  pairs_named s [] p inside same = omega arith
  pairs_named s (m ∷ ms) p inside same =
      let one = under_name m.0 m.1 p (member_at c p m.0) inside refl (λ q i. null_or m.1 q (node_counted m.1 q i)) in
      omega (arith, one, ap (λ x. share c * x) (same m), pairs_named s ms p inside same)
