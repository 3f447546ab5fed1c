-- Smithy RPC v2 CBOR as a form of messages (Smithy 2.0, "Smithy RPC v2 CBOR protocol"): bodies are CBOR of the whole value, by the names of
-- members. The prelude's `Unit` has no body, and a body of no bytes is read as it. An error tells the whole id of its shape.
use Rattle.std.specs.Prelude.{ℕ, ◌&&◌, Bool, true, false, cond, List, [], ◌∷◌, None, Some, codes}
use Rattle.sm_cbor.specs.Refusals.{cbor_syntax}
use Rattle.sm_cbor.specs.Written.{written_item}
use Rattle.sm_shapes.specs.Values.{FieldVals, Val, field, no_fields}
use Rattle.sm_compile.specs.Served.{type_name}
use Rattle.sm_codec.specs.Conventions.{cbor_convention}
use Rattle.sm_http.specs.declared.message.Message.{Message}
use Rattle.sm_service.specs.ServiceData.{ServiceData}
use Rattle.sm_messages.specs.Goals.{Goal, Role, goal_shape, the_error, the_input, the_output}
use Rattle.sm_messages.specs.MessageForm.{MessageForm}
use Rattle.sm_messages.specs.Names.{text_under}
use Rattle.sm_messages.specs.TreeBodies.{error_of, fields_in, is_unit, status_of, tree_faults, tree_spells, tree_uncarried}
use Rattle.sm_messages.specs.TreeBodies.{tree_use, tree_written}
use Rattle.sm_messages.specs.WrittenHeads.{written_request, written_response}
use Rattle.sm_rpc.specs.Heads.{IsForOperation, accept_field, cbor_type, is_marked, path_of, protocol_field}

-- a value of the prelude's `Unit`, which has no members
abbrev pub has_nothing : FieldVals → Bool
has_nothing no_fields = true
has_nothing (field k v fs) = false

abbrev pub is_unit_val : ServiceData → Goal → Val → Bool
is_unit_val s g v = is_unit s (goal_shape s g) g.role && has_nothing (fields_in v)

abbrev pub body_of : ServiceData → Goal → Val → List ℕ
body_of s g v = cond (is_unit_val s g v) [] (written_item (tree_written cbor_convention s g (error_of s g).id v))

abbrev pub written_on : Role → ServiceData → Goal → List ℕ → List ℕ → Message
written_on the_input s g host body =
    written_request (codes "POST") (path_of s g.operation) host cbor_type (protocol_field ∷ accept_field ∷ []) body
written_on the_output s g host body = written_response (status_of s g) cbor_type (protocol_field ∷ []) body
written_on (the_error e) s g host body = written_response (status_of s g) cbor_type (protocol_field ∷ []) body

abbrev pub rpc_written : ServiceData → Goal → List ℕ → Val → Message
rpc_written s g host v = written_on g.role s g host (body_of s g v)

abbrev pub rpc_form : MessageForm
rpc_form = record {
  serves = λ s. Unit {0};
  is_marked = is_marked;
  asks_for = IsForOperation;
  goes_to = λ s head o. IsForOperation s o head;
  restriction = λ s o. None;
  content_type = λ s o. Some cbor_type;
  head_error = λ head. None;
  body_error = text_under type_name;
  syntax = cbor_syntax;
  body_use = tree_use;
  empty_is_object = false;
  spells = λ s test g head c v. tree_spells cbor_convention s test g c v;
  faults = λ s test g head c. tree_faults cbor_convention s test g c;
  uncarried = tree_uncarried cbor_convention;
  written = rpc_written;
}
