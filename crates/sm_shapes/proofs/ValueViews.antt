-- What val_of gives of a value of any kind, variant by variant, for code that makes or reads values: other crates cite these.
use Rattle.std.proofs.Common.{◌≡◌, ℕ, List, Box, Global, sym, ap, ◌∙◌, rules}
use Rattle.sm_shapes.specs.Values.{Val, text_val, blob_val, list_val, map_val}
use Rattle.sm_shapes.specs.Values.{union_val, vals_of, entries_of}
use Rattle.sm_shapes.specs.ValueView.{value_step, entries_step, fields_step, items_step, val_of, entries_view, fields_view, items_view}
use Rattle.sm_shapes.specs.ValueView.{vals_view, each_field_view}
use Rattle.sm_shapes.specs.declared.values.Value.{Value, the_lemmas}
use Rattle.sm_shapes.specs.declared.values.Items.{Items}
use Rattle.sm_shapes.specs.declared.values.Entries.{Entries}
use Rattle.sm_shapes.specs.declared.values.Fields.{Fields}
use Rattle.sm_shapes.specs.declared.values.Value.TheVariants.{Text, Blob, List as Listed, Map}
use Rattle.sm_shapes.specs.declared.values.Value.TheVariants.{rolls-Map, Union}
use Rattle.sm_shapes.specs.declared.values.Value.TheFolds.{fold-roll-Value, fold-roll-Items, fold-roll-Fields}

pub view_items : (v : Items) → items_view v ≡ vals_view v.items.items
view_items v = fold-roll-Items Val (List (List ℕ × Val)) (List (ℕ × Val)) (List Val) value_step entries_step fields_step items_step
    (record { items = v.items })

pub view_fields : (v : Fields) → fields_view v ≡ each_field_view v.fields.items
view_fields v = fold-roll-Fields Val (List (List ℕ × Val)) (List (ℕ × Val)) (List Val) value_step entries_step fields_step items_step
    (record { fields = v.fields })

pub text_value : (t : List ℕ) → val_of (Text t) ≡ text_val t
text_value t = search (rules, the_lemmas)

pub blob_value : (t : List ℕ) → val_of (Blob t) ≡ blob_val t
blob_value t = search (rules, the_lemmas)

pub union_value : (k : ℕ) (v : Box Value Global) → val_of (Union k v) ≡ union_val k (val_of v.value)
union_value k v = search (rules, the_lemmas)

pub list_value : (v : Items) → val_of (Listed v) ≡ list_val (vals_of (items_view v))
list_value v = search (rules, the_lemmas)

pub map_value : (v : Entries) → val_of (Map v) ≡ map_val (entries_of (entries_view v))
map_value v = ap val_of (sym (rolls-Map v))
    ∙ fold-roll-Value Val (List (List ℕ × Val)) (List (ℕ × Val)) (List Val) value_step entries_step fields_step items_step _
