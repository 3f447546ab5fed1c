-- What parts of a message come to: the value of the structure that they are parts of, or its faults in model order, whatever part each of them
-- comes from.
use Rattle.std.specs.Prelude.{◌&&◌, Bool, true, false, not, cond, Err}
use Rattle.sm_tree.specs.Node.{Node, object}
use Rattle.sm_shapes.specs.Fitting.{Test}
use Rattle.sm_shapes.specs.Values.{fields_of, structure_val}
use Rattle.sm_shapes.specs.declared.fault.FaultKind.TheVariants.{WrongType}
use Rattle.sm_codec.specs.Codec.{Codec, codec_of}
use Rattle.sm_codec.specs.Conventions.{json_convention}
use Rattle.sm_codec.specs.FaultLists.{Reading, settled}
use Rattle.sm_codec.specs.Readings.{members_faults, members_fields, one_here, when_closed}
use Rattle.sm_messages.specs.MessageForm.{Content, a_tree, nothing, raw_bytes}
use Rattle.sm_bind.specs.PartsData.{PartsData}
use Rattle.sm_bind_read.specs.Parts.{stands}
use Rattle.sm_bind.specs.Roles.{Bound, bound_members, has_document}

-- values of documents and payloads are JSON, under the JSON names of members
abbrev pub bound_codec : Bound → Test → Codec
bound_codec b test = codec_of b.table (json_convention true) test

abbrev pub is_object : Node → Bool
is_object (object ms) = true
is_object n = false

abbrev pub is_no_object : Content → Bool
is_no_object (a_tree n) = not (is_object n)
is_no_object (raw_bytes u) = false
is_no_object nothing = false

-- a document that is no object has that fault alone
abbrev pub parts_reading : Bound → Test → PartsData → Content → Reading
parts_reading b test parts content =
    let c = bound_codec b test in
    cond (has_document b && is_no_object content) (Err (one_here WrongType))
    (settled (members_faults b.table (when_closed b.table) (stands b c parts content) (bound_members b))
    (structure_val (fields_of (members_fields (when_closed b.table) (stands b c parts content) (bound_members b)))))
