-- How messages name an error (Smithy 2.0, "AWS JSON 1.1 protocol", "Operation error serialization"): by the name of its shape, before which
-- a namespace may stand, and behind which a URI.
use Rattle.std.specs.Prelude.{ℕ, List, ◌∷◌, Option, Some, None, codes, if◌then◌else◌}
use Rattle.std.specs.List.{Contains, before_first}
use Rattle.std.specs.Str.{bytes_eq}
use Rattle.sm_bytes.specs.Ascii.{colon, number_sign}
use Rattle.sm_ids.specs.IdText.{IsShapeId}
use Rattle.sm_ids.specs.TextParts.{is_absolute, is_byte, local_part}
use Rattle.sm_tree.specs.Node.{Node, Members, object, member, no_members, text}
use Rattle.sm_compile.specs.Served.{type_name}
use Rattle.sm_http.specs.FieldValues.{first_value, values_named}
use Rattle.sm_http.specs.declared.message.Head.{Head}
use Rattle.sm_service.specs.ErrorOrder.{place_named}
use Rattle.sm_messages.specs.Goals.{operation_at}
use Rattle.sm_service.specs.ServiceData.{ServiceData}
use Rattle.sm_service.specs.declared.error.ErrorShape.{ErrorShape}

-- behind the first `#`, where there is one
abbrev pub without_namespace : List ℕ → List ℕ
without_namespace u = if is_absolute u then local_part u else u

-- first all from the first `:` on is dropped, then all up to the first `#`
abbrev pub error_name : List ℕ → List ℕ
error_name u = without_namespace (before_first (is_byte colon) u)

-- the first text that stands under this name in an object
abbrev pub text_among : List ℕ → Members → Option (List ℕ)
text_among name no_members = None
text_among name (member k (text u) ms) = if bytes_eq k name then Some u else text_among name ms
text_among name (member k n ms) = text_among name ms

abbrev pub text_under : List ℕ → Node → Option (List ℕ)
text_under name (object ms) = text_among name ms
text_under name n = None

-- the first of two that is there
abbrev pub or_else : Option (List ℕ) → Option (List ℕ) → Option (List ℕ)
or_else (Some u) other = Some u
or_else None other = other

-- the text that tells an error where a field may (AWS JSON, restJson1): the first field's, also where it tells none that is known
abbrev pub error_field_name : List ℕ
error_field_name = codes "x-amzn-errortype"

abbrev pub told_by_head : Head → Option (List ℕ)
told_by_head head = first_value (values_named error_field_name head.fields)

-- and else the body's
abbrev pub code_name : List ℕ
code_name = codes "code"

abbrev pub told_by_body : Node → Option (List ℕ)
told_by_body n = or_else (text_under type_name n) (text_under code_name n)

-- the place of the first error of an operation that has the name which this text tells
abbrev pub error_told : ServiceData → ℕ → List ℕ → Option ℕ
error_told s o u = place_named (operation_at s o).errors (error_name u)

-- each error has the id of a shape
abbrev pub AreErrorIds : List ErrorShape → Type 0
AreErrorIds es = (e : ErrorShape) → Contains es e → IsShapeId e.id
