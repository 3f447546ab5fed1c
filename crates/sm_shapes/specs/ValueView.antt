-- What a value of the code stands for. Every contract that speaks of a value cites it.
use Rattle.std.specs.Prelude.{ℕ, List, map}
use Rattle.sm_shapes.specs.Values.{Val, null_val, bool_val, int_val, text_val, blob_val, time_val, list_val, map_val, structure_val}
use Rattle.sm_shapes.specs.Values.{union_val, vals_of, entries_of, fields_of}
use Rattle.sm_shapes.specs.declared.values.Value.{Value, fold-Value}
use Rattle.sm_shapes.specs.declared.values.Items.{Items, fold-Items}
use Rattle.sm_shapes.specs.declared.values.Entries.{Entries, fold-Entries}
use Rattle.sm_shapes.specs.declared.values.Fields.{Fields, fold-Fields}
use Rattle.sm_shapes.specs.declared.values.Value.TheOpen.{Value-F, Items-F, Entries-F, Fields-F}

-- one level of a value, whose parts have been seen
abbrev pub value_step : Value-F Val (List (List ℕ × Val)) (List (ℕ × Val)) (List Val) → Val
value_step Value-F.Null = null_val
value_step (Value-F.Bool b) = bool_val b
value_step (Value-F.Int z) = int_val z
value_step (Value-F.Text t) = text_val t
value_step (Value-F.Blob t) = blob_val t
value_step (Value-F.Time ms) = time_val ms
value_step (Value-F.List vs) = list_val (vals_of vs)
value_step (Value-F.Map es) = map_val (entries_of es)
value_step (Value-F.Structure fs) = structure_val (fields_of fs)
value_step (Value-F.Union k v) = union_val k v.value

abbrev pub entries_step : Entries-F Val (List (List ℕ × Val)) (List (ℕ × Val)) (List Val) → List (List ℕ × Val)
entries_step v = v.entries.items

abbrev pub fields_step : Fields-F Val (List (List ℕ × Val)) (List (ℕ × Val)) (List Val) → List (ℕ × Val)
fields_step v = v.fields.items

abbrev pub items_step : Items-F Val (List (List ℕ × Val)) (List (ℕ × Val)) (List Val) → List Val
items_step v = v.items.items

-- the Val that a value stands for
abbrev pub val_of : Value → Val
val_of = fold-Value Val (List (List ℕ × Val)) (List (ℕ × Val)) (List Val) value_step entries_step fields_step items_step

-- the parts of a list's, a map's and a structure's value
abbrev pub entries_view : Entries → List (List ℕ × Val)
entries_view = fold-Entries Val (List (List ℕ × Val)) (List (ℕ × Val)) (List Val) value_step entries_step fields_step items_step

abbrev pub fields_view : Fields → List (ℕ × Val)
fields_view = fold-Fields Val (List (List ℕ × Val)) (List (ℕ × Val)) (List Val) value_step entries_step fields_step items_step

abbrev pub items_view : Items → List Val
items_view = fold-Items Val (List (List ℕ × Val)) (List (ℕ × Val)) (List Val) value_step entries_step fields_step items_step

-- the same of parts that stand by themselves
abbrev pub vals_view : List Value → List Val
vals_view vs = map val_of vs

abbrev pub each_entry_view : List (List ℕ × Value) → List (List ℕ × Val)
each_entry_view es = map (λ e. (e.0, val_of e.1)) es

abbrev pub each_field_view : List (ℕ × Value) → List (ℕ × Val)
each_field_view fs = map (λ f. (f.0, val_of f.1)) fs
