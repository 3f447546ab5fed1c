-- AWS JSON 1.0 and 1.1 as forms of messages (Smithy 2.0, "AWS JSON 1.0 protocol", "AWS JSON 1.1 protocol"): bodies are JSON of the whole
-- value, by the names of members. The prelude's `Unit` is written `{}`, and a body of no bytes is read as it.
use Rattle.std.specs.Prelude.{ℕ, true, false, List, [], ◌∷◌, None, Some, codes}
use Rattle.sm_json.specs.JsonText.{json_syntax}
use Rattle.sm_json.specs.Written as json
use Rattle.sm_shapes.specs.Values.{Val}
use Rattle.sm_codec.specs.Convention.{Convention}
use Rattle.sm_codec.specs.Conventions.{json_convention}
use Rattle.sm_http.specs.declared.message.Message.{Message}
use Rattle.sm_service.specs.ServiceData.{ServiceData}
use Rattle.sm_messages.specs.Goals.{Goal, Role, the_error, the_input, the_output}
use Rattle.sm_messages.specs.MessageForm.{MessageForm}
use Rattle.sm_messages.specs.Names.{told_by_body, told_by_head}
use Rattle.sm_messages.specs.TreeBodies.{error_of, status_of, tree_faults, tree_spells, tree_uncarried, tree_use, tree_written}
use Rattle.sm_messages.specs.WrittenHeads.{written_request, written_response}
use Rattle.sm_awsjson.specs.Heads.{IsForOperation, json_type, target_field, type_told}
use Rattle.sm_awsjson.specs.declared.version.AwsVersion.{AwsVersion}

-- leaves as in JSON, members by their names: `jsonName` isn't looked at
abbrev pub aws_convention : Convention
aws_convention = json_convention false

abbrev pub body_of : AwsVersion → ServiceData → Goal → Val → List ℕ
body_of version s g v = json.written (tree_written aws_convention s g (type_told version (error_of s g).id) v)

abbrev pub written_on : Role → AwsVersion → ServiceData → Goal → List ℕ → List ℕ → Message
written_on the_input version s g host body =
    written_request (codes "POST") (codes "/") host (json_type version) (target_field s g.operation ∷ []) body
written_on the_output version s g host body = written_response (status_of s g) (json_type version) [] body
written_on (the_error e) version s g host body = written_response (status_of s g) (json_type version) [] body

abbrev pub aws_written : AwsVersion → ServiceData → Goal → List ℕ → Val → Message
aws_written version s g host v = written_on g.role version s g host (body_of version s g v)

abbrev pub aws_form : AwsVersion → MessageForm
aws_form version = record {
  serves = λ s. Unit {0};
  is_marked = λ head. true;
  asks_for = IsForOperation;
  goes_to = λ s head o. IsForOperation s o head;
  restriction = λ s o. None;
  content_type = λ s o. Some (json_type version);
  head_error = told_by_head;
  body_error = told_by_body;
  syntax = json_syntax;
  body_use = tree_use;
  empty_is_object = false;
  spells = λ s test g head c v. tree_spells aws_convention s test g c v;
  faults = λ s test g head c. tree_faults aws_convention s test g c;
  uncarried = tree_uncarried aws_convention;
  written = aws_written version;
}
