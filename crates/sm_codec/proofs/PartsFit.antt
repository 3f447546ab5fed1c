-- Of a value that fits, each part stands at a place of the table; and where all is carried, so is each leaf.
use Rattle.std.proofs.Common.{◌≡◌, ℕ, suc, Bool, List, [], subst}
use Rattle.std.specs.Prelude.{IsUtf8}
use Rattle.sm_tree.specs.declared.path.Step.TheVariants.{Member, Index, Key}
use Rattle.sm_shapes.specs.Values.{Val, Vals, EntryVals, FieldVals, null_val, bool_val, int_val, text_val, blob_val, time_val, list_val}
use Rattle.sm_shapes.specs.Values.{map_val, structure_val, union_val, no_vals, val, no_entries, entry, no_fields, field}
use Rattle.sm_shapes.specs.TableData.{TableData, name_at}
use Rattle.sm_shapes.specs.Places.{Place, member_place, members_of_place, shape_of, kind_of, sparse_of, entry_place, key_place, value_place}
use Rattle.sm_shapes.specs.declared.kinds.ShapeKind.{ShapeKind}
use Rattle.sm_shapes.specs.declared.kinds.ShapeKind.TheVariants as kind
use Rattle.sm_shapes.specs.Fitting.{Test, Fits, FitEntries, FitPairs, FitFields, FitsOrNull, IsOfKind}
use Rattle.sm_shapes.specs.InOrder.{Shaped, AreMembersOf}
use Rattle.sm_codec.specs.Convention.{Convention}
use Rattle.sm_codec.specs.Sorts.{Sort, simple, a_list, a_map, a_structure, a_union, left_out, sort_of}
use Rattle.sm_codec.specs.Codec.{InTable}
use Rattle.sm_codec.specs.Written.{uncarried, uncarried_leaf, uncarried_entries, uncarried_pairs, uncarried_fields, paths_under}
use Rattle.sm_codec.specs.steps.ValueParts.{PartsHold, EntriesHold, PairsHold, FieldsHold, any_leaf, IsCarried, carried_leaf}
use Rattle.sm_codec.proofs.NoFaults.{none_first, none_behind}
use Rattle.sm_codec.proofs.PlacesIn.{members_stand, stand_at, member_splits, entry_in, value_in}
use Rattle.sm_codec.proofs.WrittenValues.{none_of_paths, carried_if}

-- an entry of a list or a value of a map
where_fits : (t : TableData) (q : Place) (sparse : Bool) (holds : Type 0) (v : Val) → FitsOrNull sparse holds v → (holds → PartsHold t
    any_leaf q v)
    → PartsHold t any_leaf q v
where_fits t q sparse holds null_val h is = tt
where_fits t q sparse holds (bool_val b) h is = is h
where_fits t q sparse holds (int_val z) h is = is h
where_fits t q sparse holds (text_val u) h is = is h
where_fits t q sparse holds (blob_val u) h is = is h
where_fits t q sparse holds (time_val ms) h is = is h
where_fits t q sparse holds (list_val vs) h is = is h
where_fits t q sparse holds (map_val es) h is = is h
where_fits t q sparse holds (structure_val fs) h is = is h
where_fits t q sparse holds (union_val k v) h is = is h

-- a text of any kind is one in UTF-8
text_of_kind : (kd : ShapeKind) (u : List ℕ) → IsOfKind kd (text_val u) → IsUtf8 u
text_of_kind kind.Text u h = h
text_of_kind kind.Enum u h = h
text_of_kind kind.Blob u h = absurd h
text_of_kind kind.Boolean u h = absurd h
text_of_kind kind.Byte u h = absurd h
text_of_kind kind.Short u h = absurd h
text_of_kind kind.Integer u h = absurd h
text_of_kind kind.IntEnum u h = absurd h
text_of_kind kind.Long u h = absurd h
text_of_kind kind.Timestamp u h = absurd h
text_of_kind kind.List u h = absurd h
text_of_kind kind.Map u h = absurd h
text_of_kind kind.Structure u h = absurd h
text_of_kind kind.Union u h = absurd h
text_of_kind kind.LeftOut u h = absurd h

mutual
  pub parts_fit : (t : TableData) (test : Test) → Shaped t → (v : Val) (p : Place) → InTable t p → Fits t test p v → PartsHold t any_leaf
      p v
  parts_fit t test shaped null_val p inside h = tt
  parts_fit t test shaped (bool_val b) p inside h = (inside, tt)
  parts_fit t test shaped (int_val z) p inside h = (inside, tt)
  parts_fit t test shaped (text_val u) p inside h = (inside, tt)
  parts_fit t test shaped (blob_val u) p inside h = (inside, tt)
  parts_fit t test shaped (time_val ms) p inside h = (inside, tt)
  parts_fit t test shaped (list_val vs) p inside h = (inside, entries_fit t test shaped vs p (entry_in t p shaped inside h.0) h.3)
  parts_fit t test shaped (map_val es) p inside h = (inside, pairs_fit t test shaped es p (value_in t p shaped inside h.0) h.3)
  parts_fit t test shaped (structure_val fs) p inside h =
      (inside, fields_fit t test shaped fs (shape_of t p) (members_of_place t p) (members_stand t p shaped inside) h.1)
  parts_fit t test shaped (union_val k v) p inside h =
      let split = member_splits k (members_of_place t p) h.1 in
      let there = stand_at t (shape_of t p) split.0 k split.1 (subst (AreMembersOf t (shape_of t p)) split.2 (members_stand t p shaped
      inside)) in
      (inside, there.0, parts_fit t test shaped v (member_place k) there.0 h.2)

  entries_fit : (t : TableData) (test : Test) → Shaped t → (vs : Vals) (p : Place) → InTable t (entry_place t p) → FitEntries t test p vs
      → EntriesHold t any_leaf (entry_place t p) vs
  entries_fit t test shaped no_vals p inside h = tt
  entries_fit t test shaped (val v vs) p inside h = (
    where_fits t (entry_place t p) (sparse_of t p) (Fits t test (entry_place t p) v) v h.0
        (λ f. parts_fit t test shaped v (entry_place t p) inside f),
    entries_fit t test shaped vs p inside h.1,
  )

  pairs_fit : (t : TableData) (test : Test) → Shaped t → (es : EntryVals) (p : Place) → InTable t (value_place t p) → FitPairs t test p es
      → PairsHold t any_leaf (value_place t p) es
  pairs_fit t test shaped no_entries p inside h = tt
  pairs_fit t test shaped (entry key v es) p inside h = (
    text_of_kind (kind_of t (key_place t p)) key h.0,
    where_fits t (value_place t p) (sparse_of t p) (Fits t test (value_place t p) v) v h.2
        (λ f. parts_fit t test shaped v (value_place t p) inside f),
    pairs_fit t test shaped es p inside h.3,
  )

  fields_fit : (t : TableData) (test : Test) → Shaped t → (fs : FieldVals) (s : ℕ) (ks : List ℕ) → AreMembersOf t s ks → FitFields t test
      ks fs
      → FieldsHold t any_leaf fs
  fields_fit t test shaped no_fields s ks stand h = tt
  fields_fit t test shaped (field k v fs) s ks stand h =
      let there = stand_at t s h.0 k h.1 (subst (AreMembersOf t s) h.2 stand) in
      (there.0, parts_fit t test shaped v (member_place k) there.0 h.4, fields_fit t test shaped fs s h.1 there.1 h.5)

leaf_is : (l : Convention) (s : Sort) (v : Val) → uncarried_leaf l s v ≡ [] → IsCarried l s v
leaf_is l (simple x) v h = carried_if (l.carries x v) h
leaf_is l a_list v h = tt
leaf_is l a_map v h = tt
leaf_is l a_structure v h = tt
leaf_is l a_union v h = tt
leaf_is l left_out v h = tt

mutual
  pub parts_carried : (t : TableData) (l : Convention) (v : Val) (p : Place) → PartsHold t any_leaf p v → uncarried t l p v ≡ []
      → PartsHold t (carried_leaf t l) p v
  parts_carried t l null_val p h g = tt
  parts_carried t l (bool_val b) p h g = (h.0, leaf_is l (sort_of t p) (bool_val b) g)
  parts_carried t l (int_val z) p h g = (h.0, leaf_is l (sort_of t p) (int_val z) g)
  parts_carried t l (text_val u) p h g = (h.0, leaf_is l (sort_of t p) (text_val u) g)
  parts_carried t l (blob_val u) p h g = (h.0, leaf_is l (sort_of t p) (blob_val u) g)
  parts_carried t l (time_val ms) p h g = (h.0, leaf_is l (sort_of t p) (time_val ms) g)
  parts_carried t l (list_val vs) p h g = (h.0, entries_carried t l vs p 0 h.1 g)
  parts_carried t l (map_val es) p h g = (h.0, pairs_carried t l es p h.1 g)
  parts_carried t l (structure_val fs) p h g = (h.0, fields_carried t l fs h.1 g)
  parts_carried t l (union_val k v) p h g =
      (h.0, h.1, parts_carried t l v (member_place k) h.2 (none_of_paths (Member (name_at t k)) (uncarried t l (member_place k) v) g))

  entries_carried : (t : TableData) (l : Convention) (vs : Vals) (p : Place) (i : ℕ) → EntriesHold t any_leaf (entry_place t p) vs
      → uncarried_entries t l p i vs ≡ [] → EntriesHold t (carried_leaf t l) (entry_place t p) vs
  entries_carried t l no_vals p i h g = tt
  entries_carried t l (val v vs) p i h g =
      let q = entry_place t p in
      let first = paths_under (Index i) (uncarried t l q v) in
      let rest = uncarried_entries t l p (suc i) vs in (
        parts_carried t l v q h.0 (none_of_paths (Index i) (uncarried t l q v) (none_first first rest g)),
        entries_carried t l vs p (suc i) h.1 (none_behind first rest g),
      )

  pairs_carried : (t : TableData) (l : Convention) (es : EntryVals) (p : Place) → PairsHold t any_leaf (value_place t p) es
      → uncarried_pairs t l p es ≡ [] → PairsHold t (carried_leaf t l) (value_place t p) es
  pairs_carried t l no_entries p h g = tt
  pairs_carried t l (entry key v es) p h g =
      let q = value_place t p in
      let first = paths_under (Key key) (uncarried t l q v) in
      let rest = uncarried_pairs t l p es in (
        h.0,
        parts_carried t l v q h.1 (none_of_paths (Key key) (uncarried t l q v) (none_first first rest g)),
        pairs_carried t l es p h.2 (none_behind first rest g),
      )

  fields_carried : (t : TableData) (l : Convention) (fs : FieldVals) → FieldsHold t any_leaf fs → uncarried_fields t l fs ≡ []
      → FieldsHold t (carried_leaf t l) fs
  fields_carried t l no_fields h g = tt
  fields_carried t l (field k v fs) h g =
      let q = member_place k in
      let first = paths_under (Member (name_at t k)) (uncarried t l q v) in
      let rest = uncarried_fields t l fs in (
        h.0,
        parts_carried t l v q h.1 (none_of_paths (Member (name_at t k)) (uncarried t l q v) (none_first first rest g)),
        fields_carried t l fs h.2 (none_behind first rest g),
      )
