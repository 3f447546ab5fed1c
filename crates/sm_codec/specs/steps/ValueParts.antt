-- What code knows of each part of a value that it walks over: the part's place is one of the table, and of a leaf what a word says.
use Rattle.std.specs.Prelude.{◌≡◌, true, ◌<◌, List, [], ◌∷◌, reverse, IsUtf8, Option, Some, None}
use Rattle.sm_tree.specs.declared.path.Step.{Step}
use Rattle.sm_shapes.specs.Values.{Val, Vals, EntryVals, FieldVals, null_val, bool_val, int_val, text_val, blob_val, time_val, list_val}
use Rattle.sm_shapes.specs.Values.{map_val, structure_val, union_val, no_vals, val, no_entries, entry, no_fields, field}
use Rattle.sm_shapes.specs.TableData.{TableData, member_count}
use Rattle.sm_shapes.specs.Places.{Place, member_place, entry_place, value_place}
use Rattle.sm_codec.specs.Convention.{Convention}
use Rattle.sm_codec.specs.Sorts.{Sort, simple, sort_of}
use Rattle.sm_codec.specs.Codec.{InTable}

abbrev pub LeafWord : Type 1
LeafWord = Place → Val → Type 0

abbrev mutual
  pub PartsHold : TableData → LeafWord → Place → Val → Type 0
  PartsHold t leaf p null_val = Unit {0}
  PartsHold t leaf p (bool_val b) = InTable t p × leaf p (bool_val b)
  PartsHold t leaf p (int_val z) = InTable t p × leaf p (int_val z)
  PartsHold t leaf p (text_val u) = InTable t p × leaf p (text_val u)
  PartsHold t leaf p (blob_val u) = InTable t p × leaf p (blob_val u)
  PartsHold t leaf p (time_val ms) = InTable t p × leaf p (time_val ms)
  PartsHold t leaf p (list_val vs) = InTable t p × EntriesHold t leaf (entry_place t p) vs
  PartsHold t leaf p (map_val es) = InTable t p × PairsHold t leaf (value_place t p) es
  PartsHold t leaf p (structure_val fs) = InTable t p × FieldsHold t leaf fs
  PartsHold t leaf p (union_val k v) = InTable t p × (k < member_count t) × PartsHold t leaf (member_place k) v

  -- the entries of a list, at the place of them
  pub EntriesHold : TableData → LeafWord → Place → Vals → Type 0
  EntriesHold t leaf q no_vals = Unit {0}
  EntriesHold t leaf q (val v vs) = PartsHold t leaf q v × EntriesHold t leaf q vs

  -- the values of a map, at the place of them, under texts
  pub PairsHold : TableData → LeafWord → Place → EntryVals → Type 0
  PairsHold t leaf q no_entries = Unit {0}
  PairsHold t leaf q (entry key v es) = IsUtf8 key × PartsHold t leaf q v × PairsHold t leaf q es

  pub FieldsHold : TableData → LeafWord → FieldVals → Type 0
  FieldsHold t leaf no_fields = Unit {0}
  FieldsHold t leaf (field k v fs) = (k < member_count t) × PartsHold t leaf (member_place k) v × FieldsHold t leaf fs

-- nothing is said of leaves
abbrev pub any_leaf : LeafWord
any_leaf p v = Unit {0}

-- the convention carries the leaf
abbrev pub IsCarried : Convention → Sort → Val → Type 0
IsCarried l (simple x) v = l.carries x v ≡ true
IsCarried l s v = Unit {0}

abbrev pub carried_leaf : TableData → Convention → LeafWord
carried_leaf t l p v = IsCarried l (sort_of t p) v

-- the convention carries the leaves of a value, of the entries of a list, of the values of a map, and of fields
abbrev pub PartsCarried : TableData → Convention → Place → Val → Type 0
PartsCarried t l p v = PartsHold t (carried_leaf t l) p v

abbrev pub EntriesCarried : TableData → Convention → Place → Vals → Type 0
EntriesCarried t l q vs = EntriesHold t (carried_leaf t l) q vs

abbrev pub PairsCarried : TableData → Convention → Place → EntryVals → Type 0
PairsCarried t l q es = PairsHold t (carried_leaf t l) q es

abbrev pub FieldsCarried : TableData → Convention → FieldVals → Type 0
FieldsCarried t l fs = FieldsHold t (carried_leaf t l) fs

-- the first of some paths, its last step first, or that there is none
abbrev pub FoundFirst : List (List Step) → Option (List Step) → Type 0
FoundFirst paths None = paths ≡ []
FoundFirst paths (Some steps) = (rest : List (List Step)) × (paths ≡ reverse steps ∷ rest)
