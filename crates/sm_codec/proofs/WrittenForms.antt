-- The tree that is written for a value is one of the format of which its leaves are.
use Rattle.std.proofs.Common.{ℕ, List, arith}
use Rattle.std.specs.Prelude.{Option, IsUtf8}
use Rattle.sm_tree.specs.Node.{Node, Nodes, Members, null, list, object, no_nodes, node, no_members, member}
use Rattle.sm_tree.specs.Json.{IsJson, AreJson, AreJsonMembers, IsCbor, AreCbor, AreCborMembers}
use Rattle.sm_time.specs.declared.format.Format.{Format}
use Rattle.sm_shapes.specs.Values.{Val, Vals, EntryVals, FieldVals, null_val, bool_val, int_val, text_val, blob_val, time_val, list_val}
use Rattle.sm_shapes.specs.Values.{map_val, structure_val, union_val, no_vals, val, no_entries, entry, no_fields, field}
use Rattle.sm_shapes.specs.TableData.{TableData}
use Rattle.sm_shapes.specs.InOrder.{Shaped}
use Rattle.sm_shapes.specs.Places.{Place, shape_of, kind_of, format_of, entry_place, value_place, member_place}
use Rattle.sm_shapes.specs.declared.kinds.ShapeKind.{ShapeKind}
use Rattle.sm_shapes.specs.declared.kinds.ShapeKind.TheVariants as kind
use Rattle.sm_codec.specs.Convention.{Convention}
use Rattle.sm_codec.specs.Sorts.{Sort, simple, a_list, a_map, a_structure, a_union, left_out, sort_by, sort_of}
use Rattle.sm_codec.specs.Written.{written, written_leaf, written_entries, written_pairs, written_fields}
use Rattle.sm_codec.specs.WrittenLaws.{HasWidth, WritesTrees, WrittenIsJson, WrittenIsCbor}
use Rattle.sm_codec.specs.steps.ValueParts.{PartsHold, EntriesHold, PairsHold, FieldsHold, IsCarried, carried_leaf}
use Rattle.sm_codec.proofs.PartsFit.{parts_fit, parts_carried}

-- a format, by its trees, its lists of trees and its lists of pairs
record IsFormat (P : Node → Type 0) (Ps : Nodes → Type 0) (Ms : Members → Type 0) : Type 0 where
  null_is : P null
  list_is : (ns : Nodes) → Ps ns → P (list ns)
  object_is : (ms : Members) → Ms ms → P (object ms)
  none_are : Ps no_nodes
  more_are : (n : Node) (ns : Nodes) → P n → Ps ns → Ps (node n ns)
  no_pairs_are : Ms no_members
  more_pairs_are : (k : List ℕ) (n : Node) (ms : Members) → IsUtf8 k → P n → Ms ms → Ms (member k n ms)

abbrev SortWidth : Sort → Type 0
SortWidth (simple x) = HasWidth x
SortWidth s = Unit {0}

width_of : (k : ShapeKind) (format : Option Format) → SortWidth (sort_by k format)
width_of kind.Blob format = tt
width_of kind.Boolean format = tt
width_of kind.Text format = tt
width_of kind.Enum format = tt
width_of kind.Byte format = omega arith
width_of kind.Short format = omega arith
width_of kind.Integer format = omega arith
width_of kind.IntEnum format = omega arith
width_of kind.Long format = omega arith
width_of kind.Timestamp format = tt
width_of kind.List format = tt
width_of kind.Map format = tt
width_of kind.Structure format = tt
width_of kind.Union format = tt
width_of kind.LeftOut format = tt

module _ (P : Node → Type 0) (Ps : Nodes → Type 0) (Ms : Members → Type 0) (form : IsFormat P Ps Ms) (t : TableData) (l : Convention)
    (shaped : Shaped t) (writes : WritesTrees P l) where
  leaf_form : (s : Sort) (v : Val) → SortWidth s → IsCarried l s v → P (written_leaf l s v)
  leaf_form (simple x) v width h = writes.leaves x v width h
  leaf_form a_list v width h = form.null_is
  leaf_form a_map v width h = form.null_is
  leaf_form a_structure v width h = form.null_is
  leaf_form a_union v width h = form.null_is
  leaf_form left_out v width h = form.null_is

  leaf_at : (p : Place) (v : Val) → carried_leaf t l p v → P (written_leaf l (sort_of t p) v)
  leaf_at p v h = leaf_form (sort_of t p) v (width_of (kind_of t p) (format_of t p)) h

  mutual
    written_form : (v : Val) (p : Place) → PartsHold t (carried_leaf t l) p v → P (written t l p v)
    written_form null_val p h = form.null_is
    written_form (bool_val b) p h = leaf_at p (bool_val b) h.1
    written_form (int_val z) p h = leaf_at p (int_val z) h.1
    written_form (text_val u) p h = leaf_at p (text_val u) h.1
    written_form (blob_val u) p h = leaf_at p (blob_val u) h.1
    written_form (time_val ms) p h = leaf_at p (time_val ms) h.1
    written_form (list_val vs) p h = form.list_is (written_entries t l p vs) (entries_form vs p h.1)
    written_form (map_val es) p h = form.object_is (written_pairs t l p es) (pairs_form es p h.1)
    written_form (structure_val fs) p h = form.object_is (written_fields t l p fs) (fields_form fs p h.1)
    written_form (union_val k v) p h =
        let n = written t l (member_place k) v in
        let name = l.name t (shape_of t p) k in
        form.object_is (member name n no_members)
        (form.more_pairs_are name n no_members (writes.names t shaped (shape_of t p) k h.1) (written_form v (member_place k) h.2)
        form.no_pairs_are)

    entries_form : (vs : Vals) (p : Place) → EntriesHold t (carried_leaf t l) (entry_place t p) vs → Ps (written_entries t l p vs)
    entries_form no_vals p h = form.none_are
    entries_form (val v vs) p h =
        form.more_are (written t l (entry_place t p) v) (written_entries t l p vs) (written_form v (entry_place t p) h.0) (entries_form
        vs p h.1)

    pairs_form : (es : EntryVals) (p : Place) → PairsHold t (carried_leaf t l) (value_place t p) es → Ms (written_pairs t l p es)
    pairs_form no_entries p h = form.no_pairs_are
    pairs_form (entry key v es) p h =
        form.more_pairs_are key (written t l (value_place t p) v) (written_pairs t l p es) h.0 (written_form v (value_place t p) h.1)
        (pairs_form es p h.2)

    fields_form : (fs : FieldVals) (p : Place) → FieldsHold t (carried_leaf t l) fs → Ms (written_fields t l p fs)
    fields_form no_fields p h = form.no_pairs_are
    fields_form (field k v fs) p h =
        form.more_pairs_are (l.name t (shape_of t p) k) (written t l (member_place k) v) (written_fields t l p fs)
        (writes.names t shaped (shape_of t p) k h.0) (written_form v (member_place k) h.1) (fields_form fs p h.2)

json_format : IsFormat IsJson AreJson AreJsonMembers
json_format = record {
  null_is = tt;
  list_is = λ ns h. h;
  object_is = λ ms h. h;
  none_are = tt;
  more_are = λ n ns h g. (h, g);
  no_pairs_are = tt;
  more_pairs_are = λ k n ms u h g. (u, h, g);
}

cbor_format : IsFormat IsCbor AreCbor AreCborMembers
cbor_format = record {
  null_is = tt;
  list_is = λ ns h. h;
  object_is = λ ms h. h;
  none_are = tt;
  more_are = λ n ns h g. (h, g);
  no_pairs_are = tt;
  more_pairs_are = λ k n ms u h g. (u, h, g);
}

pub written_is_json : WrittenIsJson
written_is_json t l test p v shaped writes inside h g =
    written_form IsJson AreJson AreJsonMembers json_format t l shaped writes v p
    (parts_carried t l v p (parts_fit t test shaped v p inside h) g)

pub written_is_cbor : WrittenIsCbor
written_is_cbor t l test p v shaped writes inside h g =
    written_form IsCbor AreCbor AreCborMembers cbor_format t l shaped writes v p
    (parts_carried t l v p (parts_fit t test shaped v p inside h) g)
