-- The object of an error is one of its format, where its fields are carried; so a writer takes its events and writes its text.
use Rattle.std.proofs.Common.{◌≡◌, ◌<◌, ℕ, List, []}
use Rattle.std.specs.Prelude.{IsUtf8, None, Some}
use Rattle.sm_tree.specs.Json.{IsCbor, IsJson}
use Rattle.sm_shapes.specs.Fitting.{Fits, any_text}
use Rattle.sm_shapes.specs.InOrder.{Shaped}
use Rattle.sm_shapes.specs.Places.{root_place}
use Rattle.sm_shapes.specs.TableData.{TableData, shape_count}
use Rattle.sm_shapes.specs.Values.{FieldVals, structure_val}
use Rattle.sm_codec.specs.Convention.{Convention}
use Rattle.sm_codec.specs.Written.{uncarried_fields}
use Rattle.sm_codec.specs.WrittenLaws.{WritesCbor, WritesJson}
use Rattle.sm_codec.specs.WrittenObjects.{written_object}
use Rattle.sm_codec.proofs.WrittenForms.{written_is_cbor, written_is_json}

pub object_is_json : (t : TableData) (l : Convention) (shape : ℕ) (name text : List ℕ) (fs : FieldVals) → Shaped t → WritesJson l
    → shape < shape_count t → IsUtf8 name → IsUtf8 text → Fits t any_text (root_place shape) (structure_val fs) → uncarried_fields t l fs ≡ []
    → IsJson (written_object t l (root_place shape) (Some (name, text)) None fs)
object_is_json t l shape name text fs shaped writes inside first second fits carried =
    (first, second, written_is_json t l any_text (root_place shape) (structure_val fs) shaped writes inside fits carried)

pub object_is_cbor : (t : TableData) (l : Convention) (shape : ℕ) (name text : List ℕ) (fs : FieldVals) → Shaped t → WritesCbor l
    → shape < shape_count t → IsUtf8 name → IsUtf8 text → Fits t any_text (root_place shape) (structure_val fs) → uncarried_fields t l fs ≡ []
    → IsCbor (written_object t l (root_place shape) (Some (name, text)) None fs)
object_is_cbor t l shape name text fs shaped writes inside first second fits carried =
    (first, second, written_is_cbor t l any_text (root_place shape) (structure_val fs) shaped writes inside fits carried)
