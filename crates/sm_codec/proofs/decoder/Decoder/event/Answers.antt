use Rattle.std.proofs.Common.{rules, FitsSigned, w64, to_z, of_z, to_z-of_z, ◌≡◌, refl, ap, ◌∙◌, subst}
use Rattle.sm_tree.specs.Node.{null, bool, int, number, text, bytes, opaque}
use Rattle.sm_tree.specs.EventView.{event_of}
use Rattle.sm_tree.specs.Streams.{MayTake}
use Rattle.sm_tree.specs.View.{node_of}
use Rattle.sm_tree.specs.declared.tree.Tree.TheVariants as tree
use Rattle.sm_tree.proofs.Views.{node_null, node_bool, node_int, node_number, node_text, node_bytes, node_opaque}
use Rattle.sm_tree.specs.declared.event.Event.TheVariants.{Null, Bool, Int, Number, Text, Bytes, Tag, Opaque, StartList, EndList}
use Rattle.sm_tree.specs.declared.event.Event.TheVariants.{StartObject, Key, EndObject}
use Rattle.sm_shapes.specs.TableView.{table_data}
use Rattle.sm_codec.specs.Codec.{codec_of}
use Rattle.sm_codec.specs.Decoding as decoding
use Rattle.sm_codec.specs.DecodingView.{decoding_of}
use Rattle.sm_codec.specs.StackView.{frames_of}
use Rattle.sm_codec.specs.steps.DecoderSteps.{due_told, EndedBy}
use Rattle.sm_codec.specs.steps.OpeningSteps.{TagBy, list_start, object_start, StartBy, NameBy}
use Rattle.sm_codec.proofs.KeptMoves.{Stands, name_ready, list_end_ready, object_end_ready, tag_kept, list_kept, object_kept, name_kept}
use Rattle.sm_codec.proofs.KeptMoves.{list_end_kept, object_end_kept}
use Rattle.sm_codec.proofs.EventMoves.{event_ready, took, leaf_took}
use Rattle.sm_codec.proofs.decoder.Decoder.event.Goals as goal

pub leaf-requires-clause-due : goal.leaf-requires-clause-due
leaf-requires-clause-due g c =
    let k = codec_of (table_data c.args.table.now) (g.L.Leaves.convention c.args.leaves.now) g.P.Patterns.test in
    let d = decoding_of c.args.self.now in
    (event_ready k d c.args.event Null (λ b h. h) c.requires.shaped c.in-Null.is c.requires.placed).0

pub leaf-requires-clause-can : goal.leaf-requires-clause-can
leaf-requires-clause-can g c =
    let k = codec_of (table_data c.args.table.now) (g.L.Leaves.convention c.args.leaves.now) g.P.Patterns.test in
    let d = decoding_of c.args.self.now in
    (event_ready k d c.args.event Null (λ b h. h) c.requires.shaped c.in-Null.is c.requires.placed).1

pub leaf-requires-clause-none : goal.leaf-requires-clause-none
leaf-requires-clause-none g c =
    let k = codec_of (table_data c.args.table.now) (g.L.Leaves.convention c.args.leaves.now) g.P.Patterns.test in
    let d = decoding_of c.args.self.now in
    (event_ready k d c.args.event Null (λ b h. h) c.requires.shaped c.in-Null.is c.requires.placed).2

pub returns-in-Null-clause-kept : goal.returns-in-Null-clause-kept
returns-in-Null-clause-kept g c =
    let k = codec_of (table_data c.args.table.now) (g.L.Leaves.convention c.args.leaves.now) g.P.Patterns.test in
    let d = decoding_of c.args.self.now in
    leaf_took k d (decoding_of c.leaf.new.self) c.args.event Null
    (node_of tree.Null) null c.leaf.result c.laws.ensures c.requires.shaped c.in-Null.is
    (node_null) (λ x. x) refl (λ b h. h) c.leaf.ensures.read c.leaf.ensures.shape

pub leaf-requires-in-Bool-clause-due : goal.leaf-requires-in-Bool-clause-due
leaf-requires-in-Bool-clause-due g c =
    let k = codec_of (table_data c.args.table.now) (g.L.Leaves.convention c.args.leaves.now) g.P.Patterns.test in
    let d = decoding_of c.args.self.now in
    (event_ready k d c.args.event (Bool c.in-Bool.truth) (λ b h. h) c.requires.shaped c.in-Bool.is c.requires.placed).0

pub leaf-requires-in-Bool-clause-can : goal.leaf-requires-in-Bool-clause-can
leaf-requires-in-Bool-clause-can g c =
    let k = codec_of (table_data c.args.table.now) (g.L.Leaves.convention c.args.leaves.now) g.P.Patterns.test in
    let d = decoding_of c.args.self.now in
    (event_ready k d c.args.event (Bool c.in-Bool.truth) (λ b h. h) c.requires.shaped c.in-Bool.is c.requires.placed).1

pub leaf-requires-in-Bool-clause-none : goal.leaf-requires-in-Bool-clause-none
leaf-requires-in-Bool-clause-none g c =
    let k = codec_of (table_data c.args.table.now) (g.L.Leaves.convention c.args.leaves.now) g.P.Patterns.test in
    let d = decoding_of c.args.self.now in
    (event_ready k d c.args.event (Bool c.in-Bool.truth) (λ b h. h) c.requires.shaped c.in-Bool.is c.requires.placed).2

pub returns-in-Bool-clause-kept : goal.returns-in-Bool-clause-kept
returns-in-Bool-clause-kept g c =
    let k = codec_of (table_data c.args.table.now) (g.L.Leaves.convention c.args.leaves.now) g.P.Patterns.test in
    let d = decoding_of c.args.self.now in
    leaf_took k d (decoding_of c.leaf-in-Bool.new.self) c.args.event (Bool c.in-Bool.truth) (node_of (tree.Bool c.in-Bool.truth))
    (bool c.in-Bool.truth) c.leaf-in-Bool.result c.laws.ensures c.requires.shaped c.in-Bool.is
    (node_bool c.in-Bool.truth) (λ x. x) refl (λ b h. h) c.leaf-in-Bool.ensures.read c.leaf-in-Bool.ensures.shape

pub leaf-requires-in-Int-clause-due : goal.leaf-requires-in-Int-clause-due
leaf-requires-in-Int-clause-due g c =
    let k = codec_of (table_data c.args.table.now) (g.L.Leaves.convention c.args.leaves.now) g.P.Patterns.test in
    let d = decoding_of c.args.self.now in
    (event_ready k d c.args.event (Int c.in-Int.number) (λ b h. h) c.requires.shaped c.in-Int.is c.requires.placed).0

pub leaf-requires-in-Int-clause-can : goal.leaf-requires-in-Int-clause-can
leaf-requires-in-Int-clause-can g c =
    let k = codec_of (table_data c.args.table.now) (g.L.Leaves.convention c.args.leaves.now) g.P.Patterns.test in
    let d = decoding_of c.args.self.now in
    (event_ready k d c.args.event (Int c.in-Int.number) (λ b h. h) c.requires.shaped c.in-Int.is c.requires.placed).1

pub leaf-requires-in-Int-clause-none : goal.leaf-requires-in-Int-clause-none
leaf-requires-in-Int-clause-none g c =
    let k = codec_of (table_data c.args.table.now) (g.L.Leaves.convention c.args.leaves.now) g.P.Patterns.test in
    let d = decoding_of c.args.self.now in
    (event_ready k d c.args.event (Int c.in-Int.number) (λ b h. h) c.requires.shaped c.in-Int.is c.requires.placed).2

pub returns-in-Int-clause-kept : goal.returns-in-Int-clause-kept
returns-in-Int-clause-kept g c =
    let k = codec_of (table_data c.args.table.now) (g.L.Leaves.convention c.args.leaves.now) g.P.Patterns.test in
    let d = decoding_of c.args.self.now in
    let fits : FitsSigned w64 c.in-Int.number = search rules in
    let same : to_z w64 (of_z w64 c.in-Int.number) ≡ c.in-Int.number = to_z-of_z fits in
    leaf_took k d (decoding_of c.leaf-in-Int.new.self) c.args.event (Int c.in-Int.number)
    (node_of (tree.Int (to_z w64 (of_z w64 c.in-Int.number))))
    (int c.in-Int.number) c.leaf-in-Int.result c.laws.ensures c.requires.shaped c.in-Int.is
    (ap (λ z. node_of (tree.Int z)) same ∙ node_int c.in-Int.number) (λ x. x) refl
    (λ b h. h) c.leaf-in-Int.ensures.read c.leaf-in-Int.ensures.shape

pub leaf-requires-in-Number-clause-due : goal.leaf-requires-in-Number-clause-due
leaf-requires-in-Number-clause-due g c =
    let k = codec_of (table_data c.args.table.now) (g.L.Leaves.convention c.args.leaves.now) g.P.Patterns.test in
    let d = decoding_of c.args.self.now in
    (event_ready k d c.args.event (Number c.in-Number.number) (λ b h. h) c.requires.shaped c.in-Number.is c.requires.placed).0

pub leaf-requires-in-Number-clause-can : goal.leaf-requires-in-Number-clause-can
leaf-requires-in-Number-clause-can g c =
    let k = codec_of (table_data c.args.table.now) (g.L.Leaves.convention c.args.leaves.now) g.P.Patterns.test in
    let d = decoding_of c.args.self.now in
    (event_ready k d c.args.event (Number c.in-Number.number) (λ b h. h) c.requires.shaped c.in-Number.is c.requires.placed).1

pub leaf-requires-in-Number-clause-none : goal.leaf-requires-in-Number-clause-none
leaf-requires-in-Number-clause-none g c =
    let k = codec_of (table_data c.args.table.now) (g.L.Leaves.convention c.args.leaves.now) g.P.Patterns.test in
    let d = decoding_of c.args.self.now in
    (event_ready k d c.args.event (Number c.in-Number.number) (λ b h. h) c.requires.shaped c.in-Number.is c.requires.placed).2

pub returns-in-Number-clause-kept : goal.returns-in-Number-clause-kept
returns-in-Number-clause-kept g c =
    let k = codec_of (table_data c.args.table.now) (g.L.Leaves.convention c.args.leaves.now) g.P.Patterns.test in
    let d = decoding_of c.args.self.now in
    leaf_took k d (decoding_of c.leaf-in-Number.new.self) c.args.event (Number c.in-Number.number)
    (node_of (tree.Number c.in-Number.number)) (number c.in-Number.number) c.leaf-in-Number.result c.laws.ensures c.requires.shaped
    c.in-Number.is
    (node_number c.in-Number.number) (λ x. x) refl (λ b h. h) c.leaf-in-Number.ensures.read c.leaf-in-Number.ensures.shape

pub leaf-requires-in-Text-clause-due : goal.leaf-requires-in-Text-clause-due
leaf-requires-in-Text-clause-due g c =
    let k = codec_of (table_data c.args.table.now) (g.L.Leaves.convention c.args.leaves.now) g.P.Patterns.test in
    let d = decoding_of c.args.self.now in
    (event_ready k d c.args.event (Text c.in-Text.text) (λ b h. h) c.requires.shaped c.in-Text.is c.requires.placed).0

pub leaf-requires-in-Text-clause-can : goal.leaf-requires-in-Text-clause-can
leaf-requires-in-Text-clause-can g c =
    let k = codec_of (table_data c.args.table.now) (g.L.Leaves.convention c.args.leaves.now) g.P.Patterns.test in
    let d = decoding_of c.args.self.now in
    (event_ready k d c.args.event (Text c.in-Text.text) (λ b h. h) c.requires.shaped c.in-Text.is c.requires.placed).1

pub leaf-requires-in-Text-clause-none : goal.leaf-requires-in-Text-clause-none
leaf-requires-in-Text-clause-none g c =
    let k = codec_of (table_data c.args.table.now) (g.L.Leaves.convention c.args.leaves.now) g.P.Patterns.test in
    let d = decoding_of c.args.self.now in
    (event_ready k d c.args.event (Text c.in-Text.text) (λ b h. h) c.requires.shaped c.in-Text.is c.requires.placed).2

pub returns-in-Text-clause-kept : goal.returns-in-Text-clause-kept
returns-in-Text-clause-kept g c =
    let k = codec_of (table_data c.args.table.now) (g.L.Leaves.convention c.args.leaves.now) g.P.Patterns.test in
    let d = decoding_of c.args.self.now in
    leaf_took k d (decoding_of c.leaf-in-Text.new.self) c.args.event (Text c.in-Text.text) (node_of (tree.Text c.in-Text.text))
    (text c.in-Text.text) c.leaf-in-Text.result c.laws.ensures c.requires.shaped c.in-Text.is
    (node_text c.in-Text.text) (λ x. x) refl (λ b h. h) c.leaf-in-Text.ensures.read c.leaf-in-Text.ensures.shape

pub leaf-requires-in-Bytes-clause-due : goal.leaf-requires-in-Bytes-clause-due
leaf-requires-in-Bytes-clause-due g c =
    let k = codec_of (table_data c.args.table.now) (g.L.Leaves.convention c.args.leaves.now) g.P.Patterns.test in
    let d = decoding_of c.args.self.now in
    (event_ready k d c.args.event (Bytes c.in-Bytes.bytes) (λ b h. h) c.requires.shaped c.in-Bytes.is c.requires.placed).0

pub leaf-requires-in-Bytes-clause-can : goal.leaf-requires-in-Bytes-clause-can
leaf-requires-in-Bytes-clause-can g c =
    let k = codec_of (table_data c.args.table.now) (g.L.Leaves.convention c.args.leaves.now) g.P.Patterns.test in
    let d = decoding_of c.args.self.now in
    (event_ready k d c.args.event (Bytes c.in-Bytes.bytes) (λ b h. h) c.requires.shaped c.in-Bytes.is c.requires.placed).1

pub leaf-requires-in-Bytes-clause-none : goal.leaf-requires-in-Bytes-clause-none
leaf-requires-in-Bytes-clause-none g c =
    let k = codec_of (table_data c.args.table.now) (g.L.Leaves.convention c.args.leaves.now) g.P.Patterns.test in
    let d = decoding_of c.args.self.now in
    (event_ready k d c.args.event (Bytes c.in-Bytes.bytes) (λ b h. h) c.requires.shaped c.in-Bytes.is c.requires.placed).2

pub returns-in-Bytes-clause-kept : goal.returns-in-Bytes-clause-kept
returns-in-Bytes-clause-kept g c =
    let k = codec_of (table_data c.args.table.now) (g.L.Leaves.convention c.args.leaves.now) g.P.Patterns.test in
    let d = decoding_of c.args.self.now in
    leaf_took k d (decoding_of c.leaf-in-Bytes.new.self) c.args.event (Bytes c.in-Bytes.bytes) (node_of (tree.Bytes c.in-Bytes.bytes))
    (bytes c.in-Bytes.bytes) c.leaf-in-Bytes.result c.laws.ensures c.requires.shaped c.in-Bytes.is
    (node_bytes c.in-Bytes.bytes) (λ x. x) refl (λ b h. h) c.leaf-in-Bytes.ensures.read c.leaf-in-Bytes.ensures.shape

pub leaf-requires-in-Opaque-clause-due : goal.leaf-requires-in-Opaque-clause-due
leaf-requires-in-Opaque-clause-due g c =
    let k = codec_of (table_data c.args.table.now) (g.L.Leaves.convention c.args.leaves.now) g.P.Patterns.test in
    let d = decoding_of c.args.self.now in
    (event_ready k d c.args.event (Opaque c.in-Opaque.byte) (λ b h. h) c.requires.shaped c.in-Opaque.is c.requires.placed).0

pub leaf-requires-in-Opaque-clause-can : goal.leaf-requires-in-Opaque-clause-can
leaf-requires-in-Opaque-clause-can g c =
    let k = codec_of (table_data c.args.table.now) (g.L.Leaves.convention c.args.leaves.now) g.P.Patterns.test in
    let d = decoding_of c.args.self.now in
    (event_ready k d c.args.event (Opaque c.in-Opaque.byte) (λ b h. h) c.requires.shaped c.in-Opaque.is c.requires.placed).1

pub leaf-requires-in-Opaque-clause-none : goal.leaf-requires-in-Opaque-clause-none
leaf-requires-in-Opaque-clause-none g c =
    let k = codec_of (table_data c.args.table.now) (g.L.Leaves.convention c.args.leaves.now) g.P.Patterns.test in
    let d = decoding_of c.args.self.now in
    (event_ready k d c.args.event (Opaque c.in-Opaque.byte) (λ b h. h) c.requires.shaped c.in-Opaque.is c.requires.placed).2

pub returns-in-Opaque-clause-kept : goal.returns-in-Opaque-clause-kept
returns-in-Opaque-clause-kept g c =
    let k = codec_of (table_data c.args.table.now) (g.L.Leaves.convention c.args.leaves.now) g.P.Patterns.test in
    let d = decoding_of c.args.self.now in
    leaf_took k d (decoding_of c.leaf-in-Opaque.new.self) c.args.event (Opaque c.in-Opaque.byte) (node_of (tree.Opaque c.in-Opaque.byte))
    (opaque c.in-Opaque.byte) c.leaf-in-Opaque.result c.laws.ensures c.requires.shaped c.in-Opaque.is
    (node_opaque c.in-Opaque.byte) (λ x. x) refl (λ b h. h) c.leaf-in-Opaque.ensures.read c.leaf-in-Opaque.ensures.shape

pub tag-requires-clause-due : goal.tag-requires-clause-due
tag-requires-clause-due g c =
    let k = codec_of (table_data c.args.table.now) (g.L.Leaves.convention c.args.leaves.now) g.P.Patterns.test in
    let d = decoding_of c.args.self.now in
    (event_ready k d c.args.event (Tag c.in-Tag.tag) (λ b h. h) c.requires.shaped c.in-Tag.is c.requires.placed).0

pub returns-in-Tag-clause-kept : goal.returns-in-Tag-clause-kept
returns-in-Tag-clause-kept g c =
    let k = codec_of (table_data c.args.table.now) (g.L.Leaves.convention c.args.leaves.now) g.P.Patterns.test in
    let d = decoding_of c.args.self.now in
    let e : decoding.Decoding = record { shape = d.shape; frames = frames_of c.tag.new.self; result = d.result } in
    let due = due_told k.table d.shape d.frames in
    let By : Type 0 = TagBy k.table k.convention due c.in-Tag.tag d.frames e.frames in
    took k d e c.args.event (Tag c.in-Tag.tag) c.tag.result By (e.shape ≡ d.shape) c.in-Tag.is
    (λ by root. tag_kept k d e c.requires.shaped root refl c.in-Tag.tag by) c.tag.ensures refl

pub start_list-requires-clause-due : goal.start_list-requires-clause-due
start_list-requires-clause-due g c =
    let k = codec_of (table_data c.args.table.now) (g.L.Leaves.convention c.args.leaves.now) g.P.Patterns.test in
    let d = decoding_of c.args.self.now in
    (event_ready k d c.args.event (StartList c.in-StartList.field-0) (λ b h. h) c.requires.shaped c.in-StartList.is c.requires.placed).0

pub returns-in-StartList-clause-kept : goal.returns-in-StartList-clause-kept
returns-in-StartList-clause-kept g c =
    let k = codec_of (table_data c.args.table.now) (g.L.Leaves.convention c.args.leaves.now) g.P.Patterns.test in
    let d = decoding_of c.args.self.now in
    let e : decoding.Decoding = record { shape = d.shape; frames = frames_of c.start_list.new.self; result = d.result } in
    let due = due_told k.table d.shape d.frames in
    let By : Type 0 = StartBy list_start k.table k.convention due d.frames e.frames in
    took k d e c.args.event (StartList c.in-StartList.field-0) c.start_list.result By (e.shape ≡ d.shape) c.in-StartList.is
    (λ by root. list_kept k d e c.requires.shaped root refl c.in-StartList.field-0 by) c.start_list.ensures refl

pub start_object-requires-clause-due : goal.start_object-requires-clause-due
start_object-requires-clause-due g c =
    let k = codec_of (table_data c.args.table.now) (g.L.Leaves.convention c.args.leaves.now) g.P.Patterns.test in
    let d = decoding_of c.args.self.now in
    (event_ready k d c.args.event (StartObject c.in-StartObject.field-0)
    (λ b h. h) c.requires.shaped c.in-StartObject.is c.requires.placed).0

pub returns-in-StartObject-clause-kept : goal.returns-in-StartObject-clause-kept
returns-in-StartObject-clause-kept g c =
    let k = codec_of (table_data c.args.table.now) (g.L.Leaves.convention c.args.leaves.now) g.P.Patterns.test in
    let d = decoding_of c.args.self.now in
    let e : decoding.Decoding = record { shape = d.shape; frames = frames_of c.start_object.new.self; result = d.result } in
    let due = due_told k.table d.shape d.frames in
    let By : Type 0 = StartBy object_start k.table k.convention due d.frames e.frames in
    took k d e c.args.event (StartObject c.in-StartObject.field-0) c.start_object.result By (e.shape ≡ d.shape) c.in-StartObject.is
    (λ by root. object_kept k d e c.requires.shaped root refl c.in-StartObject.field-0 by) c.start_object.ensures refl

pub key-requires-clause-can : goal.key-requires-clause-can
key-requires-clause-can g c =
    let k = codec_of (table_data c.args.table.now) (g.L.Leaves.convention c.args.leaves.now) g.P.Patterns.test in
    let d = decoding_of c.args.self.now in
    name_ready k d c.in-Key.name c.requires.shaped (subst (λ e. MayTake (Stands k d) (event_of e)) c.in-Key.is c.requires.placed)

pub returns-in-Key-clause-kept : goal.returns-in-Key-clause-kept
returns-in-Key-clause-kept g c =
    let k = codec_of (table_data c.args.table.now) (g.L.Leaves.convention c.args.leaves.now) g.P.Patterns.test in
    let d = decoding_of c.args.self.now in
    let e : decoding.Decoding = record { shape = d.shape; frames = frames_of c.key.new.self; result = d.result } in
    let By : Type 0 = NameBy k.table k.convention c.as_str.result.now d.frames e.frames in
    took k d e c.args.event (Key c.in-Key.name) c.key.result By (e.shape ≡ d.shape) c.in-Key.is
    (λ by root. name_kept k d e c.in-Key.name c.requires.shaped root refl
    (subst (λ name. NameBy k.table k.convention name d.frames e.frames) c.as_str.ensures.bytes by)) c.key.ensures refl

pub end-requires-clause-can : goal.end-requires-clause-can
end-requires-clause-can g c =
    let k = codec_of (table_data c.args.table.now) (g.L.Leaves.convention c.args.leaves.now) g.P.Patterns.test in
    let d = decoding_of c.args.self.now in
    (list_end_ready k d c.laws.ensures c.requires.shaped (subst
    (λ e. MayTake (Stands k d) (event_of e)) c.in-EndList.is c.requires.placed)).0

pub end-requires-clause-none : goal.end-requires-clause-none
end-requires-clause-none g c =
    let k = codec_of (table_data c.args.table.now) (g.L.Leaves.convention c.args.leaves.now) g.P.Patterns.test in
    let d = decoding_of c.args.self.now in
    (list_end_ready k d c.laws.ensures c.requires.shaped (subst
    (λ e. MayTake (Stands k d) (event_of e)) c.in-EndList.is c.requires.placed)).1

pub returns-in-EndList-clause-kept : goal.returns-in-EndList-clause-kept
returns-in-EndList-clause-kept g c =
    let k = codec_of (table_data c.args.table.now) (g.L.Leaves.convention c.args.leaves.now) g.P.Patterns.test in
    let d = decoding_of c.args.self.now in
    let e = decoding_of c.end.new.self in
    took k d e c.args.event EndList c.end.result (EndedBy k.table k.test d.shape d.frames e) (e.shape ≡ d.shape) c.in-EndList.is
    (λ by root. list_end_kept k d e c.laws.ensures c.requires.shaped root by) c.end.ensures.ended c.end.ensures.shape

pub end-requires-in-EndObject-clause-can : goal.end-requires-in-EndObject-clause-can
end-requires-in-EndObject-clause-can g c =
    let k = codec_of (table_data c.args.table.now) (g.L.Leaves.convention c.args.leaves.now) g.P.Patterns.test in
    let d = decoding_of c.args.self.now in
    (object_end_ready k d c.laws.ensures c.requires.shaped (subst
    (λ e. MayTake (Stands k d) (event_of e)) c.in-EndObject.is c.requires.placed)).0

pub end-requires-in-EndObject-clause-none : goal.end-requires-in-EndObject-clause-none
end-requires-in-EndObject-clause-none g c =
    let k = codec_of (table_data c.args.table.now) (g.L.Leaves.convention c.args.leaves.now) g.P.Patterns.test in
    let d = decoding_of c.args.self.now in
    (object_end_ready k d c.laws.ensures c.requires.shaped (subst
    (λ e. MayTake (Stands k d) (event_of e)) c.in-EndObject.is c.requires.placed)).1

pub returns-in-EndObject-clause-kept : goal.returns-in-EndObject-clause-kept
returns-in-EndObject-clause-kept g c =
    let k = codec_of (table_data c.args.table.now) (g.L.Leaves.convention c.args.leaves.now) g.P.Patterns.test in
    let d = decoding_of c.args.self.now in
    let e = decoding_of c.end-in-EndObject.new.self in
    took k d e c.args.event EndObject c.end-in-EndObject.result (EndedBy k.table k.test d.shape d.frames e)
    (e.shape ≡ d.shape) c.in-EndObject.is
    (λ by root. object_end_kept k d e c.laws.ensures c.requires.shaped root by) c.end-in-EndObject.ensures.ended
    c.end-in-EndObject.ensures.shape

pub returns-in-Null-clause-bounded : goal.returns-in-Null-clause-bounded
returns-in-Null-clause-bounded g c = c.kept_is_bounded.ensures _

pub returns-in-Bool-clause-bounded : goal.returns-in-Bool-clause-bounded
returns-in-Bool-clause-bounded g c = c.kept_is_bounded.ensures _

pub returns-in-Int-clause-bounded : goal.returns-in-Int-clause-bounded
returns-in-Int-clause-bounded g c = c.kept_is_bounded.ensures _

pub returns-in-Number-clause-bounded : goal.returns-in-Number-clause-bounded
returns-in-Number-clause-bounded g c = c.kept_is_bounded.ensures _

pub returns-in-Text-clause-bounded : goal.returns-in-Text-clause-bounded
returns-in-Text-clause-bounded g c = c.kept_is_bounded.ensures _

pub returns-in-Bytes-clause-bounded : goal.returns-in-Bytes-clause-bounded
returns-in-Bytes-clause-bounded g c = c.kept_is_bounded.ensures _

pub returns-in-Opaque-clause-bounded : goal.returns-in-Opaque-clause-bounded
returns-in-Opaque-clause-bounded g c = c.kept_is_bounded.ensures _

pub returns-in-Tag-clause-bounded : goal.returns-in-Tag-clause-bounded
returns-in-Tag-clause-bounded g c = c.kept_is_bounded.ensures _

pub returns-in-StartList-clause-bounded : goal.returns-in-StartList-clause-bounded
returns-in-StartList-clause-bounded g c = c.kept_is_bounded.ensures _

pub returns-in-StartObject-clause-bounded : goal.returns-in-StartObject-clause-bounded
returns-in-StartObject-clause-bounded g c = c.kept_is_bounded.ensures _

pub returns-in-Key-clause-bounded : goal.returns-in-Key-clause-bounded
returns-in-Key-clause-bounded g c = c.kept_is_bounded.ensures _

pub returns-in-EndList-clause-bounded : goal.returns-in-EndList-clause-bounded
returns-in-EndList-clause-bounded g c = c.kept_is_bounded.ensures _

pub returns-in-EndObject-clause-bounded : goal.returns-in-EndObject-clause-bounded
returns-in-EndObject-clause-bounded g c = c.kept_is_bounded.ensures _
