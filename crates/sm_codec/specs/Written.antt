-- The one tree that is written for a value, and the leaves of a value that a convention doesn't carry: by a table and a convention,
-- whatever the patterns find.
use Rattle.std.specs.Prelude.{ℕ, suc, cond, List, [], ◌∷◌, ◌++◌, map}
use Rattle.sm_tree.specs.Node.{Node, Nodes, Members, null, list, object, no_nodes, node, no_members, member}
use Rattle.sm_tree.specs.declared.path.Step.{Step}
use Rattle.sm_tree.specs.declared.path.Step.TheVariants.{Member, Index, Key}
use Rattle.sm_shapes.specs.Values.{Val, Vals, EntryVals, FieldVals, null_val, bool_val, int_val, text_val, blob_val, time_val, list_val}
use Rattle.sm_shapes.specs.Values.{map_val, structure_val, union_val, no_vals, val, no_entries, entry, no_fields, field}
use Rattle.sm_shapes.specs.TableData.{TableData, name_at}
use Rattle.sm_shapes.specs.Places.{Place, member_place, entry_place, value_place}
use Rattle.sm_codec.specs.Convention.{Convention}
use Rattle.sm_codec.specs.Sorts.{Sort, simple, sort_of}
use Rattle.sm_codec.specs.Codec.{wire_name_in}

-- a leaf; no value of another sort of place is one
abbrev pub written_leaf : Convention → Sort → Val → Node
written_leaf l (simple x) v = l.write x v
written_leaf l s v = null

abbrev mutual
  -- the tree of a value of the place
  pub written : TableData → Convention → Place → Val → Node
  written t l p null_val = null
  written t l p (bool_val b) = written_leaf l (sort_of t p) (bool_val b)
  written t l p (int_val z) = written_leaf l (sort_of t p) (int_val z)
  written t l p (text_val u) = written_leaf l (sort_of t p) (text_val u)
  written t l p (blob_val u) = written_leaf l (sort_of t p) (blob_val u)
  written t l p (time_val ms) = written_leaf l (sort_of t p) (time_val ms)
  written t l p (list_val vs) = list (written_entries t l p vs)
  written t l p (map_val es) = object (written_pairs t l p es)
  written t l p (structure_val fs) = object (written_fields t l p fs)
  written t l p (union_val k v) = object (member (wire_name_in t l p k) (written t l (member_place k) v) no_members)

  pub written_entries : TableData → Convention → Place → Vals → Nodes
  written_entries t l p no_vals = no_nodes
  written_entries t l p (val v vs) = node (written t l (entry_place t p) v) (written_entries t l p vs)

  -- in byte order of the keys
  pub written_pairs : TableData → Convention → Place → EntryVals → Members
  written_pairs t l p no_entries = no_members
  written_pairs t l p (entry key v es) = member key (written t l (value_place t p) v) (written_pairs t l p es)

  -- in model order
  pub written_fields : TableData → Convention → Place → FieldVals → Members
  written_fields t l p no_fields = no_members
  written_fields t l p (field k v fs) = member (wire_name_in t l p k) (written t l (member_place k) v) (written_fields t l p fs)

-- the paths of parts, seen from what has them
abbrev pub paths_under : Step → List (List Step) → List (List Step)
paths_under step paths = map (λ path. step ∷ path) paths

abbrev pub uncarried_leaf : Convention → Sort → Val → List (List Step)
uncarried_leaf l (simple x) v = cond (l.carries x v) [] ([] ∷ [])
uncarried_leaf l s v = []

abbrev mutual
  -- the paths of the leaves of a value that the convention doesn't carry, in model order
  pub uncarried : TableData → Convention → Place → Val → List (List Step)
  uncarried t l p null_val = []
  uncarried t l p (bool_val b) = uncarried_leaf l (sort_of t p) (bool_val b)
  uncarried t l p (int_val z) = uncarried_leaf l (sort_of t p) (int_val z)
  uncarried t l p (text_val u) = uncarried_leaf l (sort_of t p) (text_val u)
  uncarried t l p (blob_val u) = uncarried_leaf l (sort_of t p) (blob_val u)
  uncarried t l p (time_val ms) = uncarried_leaf l (sort_of t p) (time_val ms)
  uncarried t l p (list_val vs) = uncarried_entries t l p 0 vs
  uncarried t l p (map_val es) = uncarried_pairs t l p es
  uncarried t l p (structure_val fs) = uncarried_fields t l fs
  uncarried t l p (union_val k v) = paths_under (Member (name_at t k)) (uncarried t l (member_place k) v)

  pub uncarried_entries : TableData → Convention → Place → ℕ → Vals → List (List Step)
  uncarried_entries t l p i no_vals = []
  uncarried_entries t l p i (val v vs) =
      paths_under (Index i) (uncarried t l (entry_place t p) v) ++ uncarried_entries t l p (suc i) vs

  pub uncarried_pairs : TableData → Convention → Place → EntryVals → List (List Step)
  uncarried_pairs t l p no_entries = []
  uncarried_pairs t l p (entry key v es) = paths_under (Key key) (uncarried t l (value_place t p) v) ++ uncarried_pairs t l p es

  pub uncarried_fields : TableData → Convention → FieldVals → List (List Step)
  uncarried_fields t l no_fields = []
  uncarried_fields t l (field k v fs) = paths_under (Member (name_at t k)) (uncarried t l (member_place k) v) ++ uncarried_fields t l fs
