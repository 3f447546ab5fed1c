-- A value as data, without memory, of every kind of shape. Texts and byte strings are lists of bytes. Values are canonical:
-- fields stand in model order and entries in the byte order of their keys, so two values are the same value exactly where they
-- are equal.
use Rattle.std.specs.Prelude.{ℕ, ◌+◌, ℤ, Bool, true, false, ◌&&◌, ◌==◌, List, [], ◌∷◌}
use Rattle.std.specs.Ordering.{int_eq}
use Rattle.std.specs.Str.{bytes_eq}

mutual
  pub data Val : Type 0 where
    -- stands in sparse lists and maps alone
    null_val : Val
    bool_val : Bool → Val
    int_val : ℤ → Val
    text_val : List ℕ → Val
    blob_val : List ℕ → Val
    -- the milliseconds of a stamp
    time_val : ℤ → Val
    list_val : Vals → Val
    map_val : EntryVals → Val
    structure_val : FieldVals → Val
    -- the number of the one member that is there, and its value
    union_val : ℕ → Val → Val

  -- the entries of a list
  pub data Vals : Type 0 where
    no_vals : Vals
    val : Val → Vals → Vals

  -- the entries of a map: keys with values
  pub data EntryVals : Type 0 where
    no_entries : EntryVals
    entry : List ℕ → Val → EntryVals → EntryVals

  -- the members of a structure that are present: their numbers with their values
  pub data FieldVals : Type 0 where
    no_fields : FieldVals
    field : ℕ → Val → FieldVals → FieldVals

-- lists become the parts of a value
abbrev pub vals_of : List Val → Vals
vals_of [] = no_vals
vals_of (v ∷ vs) = val v (vals_of vs)

abbrev pub entries_of : List (List ℕ × Val) → EntryVals
entries_of [] = no_entries
entries_of (e ∷ es) = entry e.0 e.1 (entries_of es)

abbrev pub fields_of : List (ℕ × Val) → FieldVals
fields_of [] = no_fields
fields_of (f ∷ fs) = field f.0 f.1 (fields_of fs)

-- and back: the entries of a list, and the keys of a map
abbrev pub each_val : Vals → List Val
each_val no_vals = []
each_val (val v vs) = v ∷ each_val vs

abbrev pub keys_of : EntryVals → List (List ℕ)
keys_of no_entries = []
keys_of (entry key v es) = key ∷ keys_of es

abbrev mutual
  -- whether two values are the same
  pub same_val : Val → Val → Bool
  same_val null_val null_val = true
  same_val (bool_val true) (bool_val b) = b
  same_val (bool_val false) (bool_val true) = false
  same_val (bool_val false) (bool_val false) = true
  same_val (int_val y) (int_val z) = int_eq y z
  same_val (text_val t) (text_val u) = bytes_eq t u
  same_val (blob_val t) (blob_val u) = bytes_eq t u
  same_val (time_val y) (time_val z) = int_eq y z
  same_val (list_val vs) (list_val ws) = same_vals vs ws
  same_val (map_val es) (map_val ds) = same_entries es ds
  same_val (structure_val fs) (structure_val gs) = same_fields fs gs
  same_val (union_val j v) (union_val k w) = (j == k) && same_val v w
  same_val v w = false

  pub same_vals : Vals → Vals → Bool
  same_vals no_vals no_vals = true
  same_vals (val v vs) (val w ws) = same_val v w && same_vals vs ws
  same_vals vs ws = false

  pub same_entries : EntryVals → EntryVals → Bool
  same_entries no_entries no_entries = true
  same_entries (entry j v es) (entry k w ds) = bytes_eq j k && (same_val v w && same_entries es ds)
  same_entries es ds = false

  pub same_fields : FieldVals → FieldVals → Bool
  same_fields no_fields no_fields = true
  same_fields (field j v fs) (field k w gs) = (j == k) && (same_val v w && same_fields fs gs)
  same_fields fs gs = false

abbrev mutual
  -- how many values a value has in it, with itself
  pub val_nodes : Val → ℕ
  val_nodes null_val = 1
  val_nodes (bool_val b) = 1
  val_nodes (int_val z) = 1
  val_nodes (text_val u) = 1
  val_nodes (blob_val u) = 1
  val_nodes (time_val ms) = 1
  val_nodes (list_val vs) = vals_nodes vs + 1
  val_nodes (map_val es) = entries_nodes es + 1
  val_nodes (structure_val fs) = fields_nodes fs + 1
  val_nodes (union_val k v) = val_nodes v + 1

  pub vals_nodes : Vals → ℕ
  vals_nodes no_vals = 0
  vals_nodes (val v vs) = val_nodes v + vals_nodes vs

  pub entries_nodes : EntryVals → ℕ
  entries_nodes no_entries = 0
  entries_nodes (entry key v es) = val_nodes v + entries_nodes es

  pub fields_nodes : FieldVals → ℕ
  fields_nodes no_fields = 0
  fields_nodes (field k v fs) = val_nodes v + fields_nodes fs
