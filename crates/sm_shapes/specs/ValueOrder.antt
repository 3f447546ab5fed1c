-- An order on values: by what kind of value they are, and then by their content; of lists, maps and structures part by part, so that where
-- one is a prefix of the other it comes first.
use Rattle.std.specs.Prelude.{◌≡◌, ◌↔◌, ℕ}
use Rattle.std.specs.Cmp.{IsTotalOrder}
use Rattle.std.specs.Cmp.Lexicographic.{slice_cmp}
use Rattle.std.specs.Ordering.{nat_cmp, int_cmp, bool_cmp, ordering_then}
use Rattle.std.specs.declared.cmp.Ordering.{Ordering}
use Rattle.std.specs.declared.cmp.Ordering.TheVariants.{Less, Equal, Greater}
use Rattle.sm_shapes.specs.Values.{Val, Vals, EntryVals, FieldVals, null_val, bool_val, int_val, text_val, blob_val, time_val, list_val}
use Rattle.sm_shapes.specs.Values.{map_val, structure_val, union_val, no_vals, val, no_entries, entry, no_fields, field}

-- the place of a kind of value among the others
abbrev pub val_rank : Val → ℕ
val_rank null_val = 0
val_rank (bool_val b) = 1
val_rank (int_val z) = 2
val_rank (text_val u) = 3
val_rank (blob_val u) = 4
val_rank (time_val ms) = 5
val_rank (list_val vs) = 6
val_rank (map_val es) = 7
val_rank (structure_val fs) = 8
val_rank (union_val k v) = 9

abbrev mutual
  pub val_cmp : Val → Val → Ordering
  val_cmp (bool_val a) (bool_val b) = bool_cmp a b
  val_cmp (int_val y) (int_val z) = int_cmp y z
  val_cmp (text_val t) (text_val u) = slice_cmp nat_cmp t u
  val_cmp (blob_val t) (blob_val u) = slice_cmp nat_cmp t u
  val_cmp (time_val y) (time_val z) = int_cmp y z
  val_cmp (list_val vs) (list_val ws) = vals_cmp vs ws
  val_cmp (map_val es) (map_val ds) = entries_cmp es ds
  val_cmp (structure_val fs) (structure_val gs) = fields_cmp fs gs
  val_cmp (union_val j v) (union_val k w) = ordering_then (nat_cmp j k) (val_cmp v w)
  val_cmp v w = nat_cmp (val_rank v) (val_rank w)

  pub vals_cmp : Vals → Vals → Ordering
  vals_cmp no_vals no_vals = Equal
  vals_cmp no_vals (val w ws) = Less
  vals_cmp (val v vs) no_vals = Greater
  vals_cmp (val v vs) (val w ws) = ordering_then (val_cmp v w) (vals_cmp vs ws)

  pub entries_cmp : EntryVals → EntryVals → Ordering
  entries_cmp no_entries no_entries = Equal
  entries_cmp no_entries (entry k w ds) = Less
  entries_cmp (entry j v es) no_entries = Greater
  entries_cmp (entry j v es) (entry k w ds) = ordering_then (slice_cmp nat_cmp j k) (ordering_then (val_cmp v w) (entries_cmp es ds))

  pub fields_cmp : FieldVals → FieldVals → Ordering
  fields_cmp no_fields no_fields = Equal
  fields_cmp no_fields (field k w gs) = Less
  fields_cmp (field j v fs) no_fields = Greater
  fields_cmp (field j v fs) (field k w gs) = ordering_then (nat_cmp j k) (ordering_then (val_cmp v w) (fields_cmp fs gs))

-- it is a total order
abbrev pub ValuesInOrder : Type 0
ValuesInOrder = IsTotalOrder val_cmp

-- which tells apart all values but equal ones
abbrev pub EqualIsSame : Type 0
EqualIsSame = (v w : Val) → (val_cmp v w ≡ Equal) ↔ (v ≡ w)
