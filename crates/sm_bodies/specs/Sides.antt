-- The sides of a body. A body is read by that of the near side, and written by that of the far side.
use Rattle.std.specs.Prelude.{ℕ, false, List}
use Rattle.sm_tree.specs.Node.{Node}
use Rattle.sm_tree.specs.Syntax.{Syntax}
use Rattle.sm_json.specs.JsonText.{json_syntax}
use Rattle.sm_json.specs.Written as json
use Rattle.sm_cbor.specs.Refusals.{cbor_syntax}
use Rattle.sm_cbor.specs.Written.{written_item}
use Rattle.sm_codec.specs.Convention.{Convention}
use Rattle.sm_codec.specs.Conventions.{json_convention, cbor_convention}
use Rattle.sm_codec.specs.WrittenLaws.{WritesJson, WritesCbor}
use Rattle.sm_bodies.specs.declared.form.BodyForm.{BodyForm}
use Rattle.sm_bodies.specs.declared.form.BodyForm.TheVariants.{Json, Cbor}

-- the format of its texts, how leaves are spelled, and the text that is written for a tree
pub record Side : Type 1 where
  pub syntax : Syntax
  pub leaves : Convention
  pub text : Node → List ℕ

-- that of JSON, with the names of members
abbrev pub json_side : Side
json_side = record { syntax = json_syntax; leaves = json_convention false; text = json.written }

abbrev pub cbor_side : Side
cbor_side = record { syntax = cbor_syntax; leaves = cbor_convention; text = written_item }

abbrev pub side_of : BodyForm → Side
side_of Json = json_side
side_of Cbor = cbor_side

-- the leaves that a convention writes can be written in the form
abbrev pub WritesForm : BodyForm → Convention → Type 0
WritesForm Json l = WritesJson l
WritesForm Cbor l = WritesCbor l
