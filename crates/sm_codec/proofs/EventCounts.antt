-- Each tree that is counted has an event of its own.
use Rattle.std.proofs.Common.{◌≡◌, ℕ, ◌+◌, ◌≤◌, List, [], ◌∷◌, ◌++◌, map, length, length-append, refl, arith}
use Rattle.std.specs.Prelude.{Option, Some, None}
use Rattle.sm_tree.specs.Node.{Node, Nodes, Members, null, bool, int, number, text, bytes, tag, opaque, list, object, no_nodes, node}
use Rattle.sm_tree.specs.Node.{no_members, member}
use Rattle.sm_tree.specs.Events.{NodeEvent, key_event, events, entries_events, pairs_events}
use Rattle.sm_tree.specs.Streams.{unnumbered}
use Rattle.sm_tree.specs.Building.{Building, nothing, whole, within, Inner, in_list, in_object, in_pair, Around, around_list}
use Rattle.sm_tree.specs.Building.{around_object, tag_events, each_events, each_pair_events, inner_events, around_events, outer_events}
use Rattle.sm_tree.specs.Building.{so_far}
use Rattle.sm_shapes.specs.Places.{Place, root_place, member_place, entry_place, value_place}
use Rattle.sm_codec.specs.Bound.{total, tagged_count, list_count, object_count, member_count_by, tree_count, entries_count, values_count}
use Rattle.sm_codec.specs.Bound.{members_count, each_count, pair_count, level_count, levels_count, known_trees}
use Rattle.sm_codec.specs.Codec.{Codec, sort_at}
use Rattle.sm_codec.specs.Sorts.{Sort, simple, a_list, a_map, a_structure, a_union, left_out}
use Rattle.sm_codec.specs.Walk.{Level, Opened, opened_at, opened_passed, inner_level, around_level, opened, due_in, member_at, with_level}
use Rattle.sm_codec.specs.Walk.{kept_levels}

tagged_few : (s : Sort) (n : Node) → tagged_count s n ≤ 1
tagged_few (simple x) null = omega arith
tagged_few (simple x) (bool b) = omega arith
tagged_few (simple x) (int z) = omega arith
tagged_few (simple x) (number u) = omega arith
tagged_few (simple x) (text u) = omega arith
tagged_few (simple x) (bytes u) = omega arith
tagged_few (simple x) (tag k n) = omega arith
tagged_few (simple x) (opaque b) = omega arith
tagged_few (simple x) (list ns) = omega arith
tagged_few (simple x) (object ms) = omega arith
tagged_few a_list n = omega arith
tagged_few a_map n = omega arith
tagged_few a_structure n = omega arith
tagged_few a_union n = omega arith
tagged_few left_out n = omega arith

list_few : (s : Sort) (parts : ℕ) → list_count s parts ≤ 1 + parts
list_few (simple x) parts = omega arith
list_few a_list parts = omega arith
list_few a_map parts = omega arith
list_few a_structure parts = omega arith
list_few a_union parts = omega arith
list_few left_out parts = omega arith

object_few : (s : Sort) (values members before now : ℕ) → values + before + 1 ≤ now → members + before + 1 ≤ now
    → object_count s values members + before ≤ now
object_few (simple x) values members before now h g = omega (arith, h)
object_few a_list values members before now h g = omega (arith, h)
object_few a_map values members before now h g = omega (arith, h)
object_few a_structure values members before now h g = omega (arith, g)
object_few a_union values members before now h g = omega (arith, g)
object_few left_out values members before now h g = omega (arith, h)

named_few : (o : Option ℕ) (count : Place → ℕ) (before now : ℕ) → ((q : Place) → count q + before ≤ now) → before ≤ now
    → member_count_by o count + before ≤ now
named_few None count before now h g = omega (arith, g)
named_few (Some k) count before now h g = h (member_place k)

module _ (c : Codec) where
  mutual
    tree_events : (n : Node) (p : Place) (es : List NodeEvent) → tree_count c n p + length es ≤ length (events n es)
    tree_events null p es = omega arith
    tree_events (bool b) p es = omega arith
    tree_events (int z) p es = omega arith
    tree_events (number u) p es = omega arith
    tree_events (text u) p es = omega arith
    tree_events (bytes u) p es = omega arith
    tree_events (tag k n) p es = omega (arith, tagged_few (sort_at c p) n, tree_events n p es)
    tree_events (opaque b) p es = omega arith
    tree_events (list ns) p es =
        omega (arith, list_few (sort_at c p) (entries_count c ns (entry_place c.table p)), entries_told ns (entry_place c.table p) es)
    tree_events (object ms) p es =
        let told = pairs_told ms p es in
        omega (
          arith,
          object_few (sort_at c p) (values_count c ms (value_place c.table p)) (members_count c ms p) (length es)
              (length (pairs_events ms es)) told.0 told.1,
        )

    entries_told : (ns : Nodes) (q : Place) (es : List NodeEvent) → entries_count c ns q + length es + 1 ≤ length (entries_events ns es)
    entries_told no_nodes q es = omega arith
    entries_told (node n ns) q es = omega (arith, tree_events n q (entries_events ns es), entries_told ns q es)

    pairs_told : (ms : Members) (p : Place) (es : List NodeEvent)
        → (values_count c ms (value_place c.table p) + length es + 1 ≤ length (pairs_events ms es))
        × (members_count c ms p + length es + 1 ≤ length (pairs_events ms es))
    pairs_told no_members p es = (omega arith, omega arith)
    pairs_told (member name n ms) p es = (
      omega (arith, tree_events n (value_place c.table p) (pairs_events ms es), pairs_told ms p es),
      omega (
        arith,
        named_few (member_at c p name) (λ q. tree_count c n q) (length (pairs_events ms es)) (length (events n (pairs_events ms es)))
            (λ q. tree_events n q (pairs_events ms es)) (omega (arith, tree_events n p (pairs_events ms es))),
        pairs_told ms p es,
      ),
    )

  -- closed entries and pairs
  each_told : (ns : List Node) (q : Place) → each_count c ns q ≤ length (each_events ns)
  each_told [] q = omega arith
  each_told (n ∷ ns) q = omega (arith, tree_events n q (each_events ns), each_told ns q)

  member_told : (p : Place) (m : List ℕ × Node) (es : List NodeEvent)
      → member_count_by (member_at c p m.0) (λ q. tree_count c m.1 q) + length es ≤ length (events m.1 es)
  member_told p m es =
      named_few (member_at c p m.0) (λ q. tree_count c m.1 q) (length es) (length (events m.1 es)) (λ q. tree_events m.1 q es)
      (omega (arith, tree_events m.1 p es))

  pair_told : (s : Sort) (p : Place) (m : List ℕ × Node) (es : List NodeEvent) → pair_count s c p m + length es ≤ length (events m.1 es)
  pair_told a_map p m es = tree_events m.1 (value_place c.table p) es
  pair_told (simple x) p m es = member_told p m es
  pair_told a_list p m es = member_told p m es
  pair_told a_structure p m es = member_told p m es
  pair_told a_union p m es = member_told p m es
  pair_told left_out p m es = member_told p m es

  each_pair_told : (s : Sort) (ms : List (List ℕ × Node)) (p : Place) → total (pair_count s c p) ms ≤ length (each_pair_events ms)
  each_pair_told s [] p = omega arith
  each_pair_told s (m ∷ ms) p = omega (arith, pair_told s p m (each_pair_events ms), each_pair_told s ms p)

  -- a level, the innermost or one around it
  inner_told : (i : Inner) (p : Place) → level_count c (p, inner_level i) ≤ length (inner_events i)
  inner_told (in_list ns ts) p =
      omega (arith, each_told ns (entry_place c.table p), length-append (each_events ns) (tag_events ts))
  inner_told (in_object ms) p = omega (arith, each_pair_told (sort_at c p) ms p)
  inner_told (in_pair ms name ts) p =
      omega (arith, each_pair_told (sort_at c p) ms p, length-append (each_pair_events ms) (key_event name ∷ tag_events ts))

  around_told : (a : Around) (p : Place) → level_count c (p, around_level a) ≤ length (around_events a)
  around_told (around_list ns ts) p = inner_told (in_list ns ts) p
  around_told (around_object ms name ts) p = inner_told (in_pair ms name ts) p

  with_told : (o : Opened) (l : Level) (kept : List (Place × Level)) (most : ℕ) → ((p : Place) → level_count c (p, l) ≤ most)
      → levels_count c (with_level o l kept) ≤ most + levels_count c kept
  with_told (opened_at p) l kept most h = omega (arith, h p)
  with_told (opened_passed depth report) l kept most h = omega arith

  outer_told : (root : ℕ) (ts : List ℕ) (outer : List Around)
      → levels_count c (kept_levels c root ts (map around_level outer)) ≤ length (outer_events outer)
  outer_told root ts [] = omega arith
  outer_told root ts (a ∷ outer) =
      let ls = map around_level outer in
      omega (
        arith,
        with_told (opened c (around_level a) (due_in c root ts ls)) (around_level a) (kept_levels c root ts ls)
            (length (around_events a)) (around_told a),
        outer_told root ts outer,
        length-append (outer_events outer) (around_events a),
      )

  pub trees_told : (root : ℕ) (b : Building) → known_trees c root b ≤ length (so_far b)
  trees_told root (nothing ts) = omega arith
  trees_told root (whole n) = omega (arith, tree_events n (root_place root) [])
  trees_told root (within ts i outer) =
      let ls = map around_level outer in
      omega (
        arith,
        with_told (opened c (inner_level i) (due_in c root ts ls)) (inner_level i) (kept_levels c root ts ls)
            (length (inner_events i)) (inner_told i),
        outer_told root ts outer,
        length-append (tag_events ts) (outer_events outer ++ inner_events i),
        length-append (outer_events outer) (inner_events i),
      )

pub as_many_events : (es : List NodeEvent) → length (unnumbered es) ≡ length es
as_many_events [] = refl
as_many_events (e ∷ es) = omega (arith, as_many_events es)
