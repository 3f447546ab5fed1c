-- restJson1 as a form of messages (Smithy 2.0, "AWS restJson1 protocol", "HTTP binding traits"): a value stands in the target, the fields,
-- the status and the body of a message, each member by its binding, and documents are JSON by the JSON names of members.
use Rattle.std.specs.Prelude.{◌≡◌, true, Ok}
use Rattle.sm_json.specs.JsonText.{json_syntax}
use Rattle.sm_shapes.specs.Fitting.{Test}
use Rattle.sm_codec.specs.FaultLists.{Reading, faults_in}
use Rattle.sm_http.specs.declared.message.Head.{Head}
use Rattle.sm_bind_read.specs.service.ServiceData.{ServiceData}
use Rattle.sm_bind_read.specs.messages.Goals.{Goal, goal_of, the_input}
use Rattle.sm_bind_read.specs.messages.MessageForm.{Content, MessageForm}
use Rattle.sm_bind_read.specs.messages.Names.{told_by_body, told_by_head}
use Rattle.sm_bind_read.specs.BoundGoals.{bound_at}
use Rattle.sm_bind_read.specs.PartFaults.{parts_reading}
use Rattle.sm_bind_bodies.specs.bind_write.CarriedParts.{uncarried_parts}
use Rattle.sm_bind_bodies.specs.bind_write.Restrictions.{restriction}
use Rattle.sm_rest_heads.specs.BodyParts.{rest_use, wanted_type}
use Rattle.sm_rest_heads.specs.RestParts.{head_parts}
use Rattle.sm_rest_heads.specs.RestRoutes.{GoesTo, IsForOperation}
use Rattle.sm_rest.specs.RestServable.{RestServable}
use Rattle.sm_rest.specs.WrittenRest.{rest_written}

-- what a message to a goal comes to, of which a body has this content
abbrev pub rest_reading : ServiceData → Test → Goal → Head → Content → Reading
rest_reading s test g head content = parts_reading (bound_at s g) test (head_parts s g head) content

abbrev pub rest_form : MessageForm
rest_form = record {
  serves = RestServable;
  is_marked = λ head. true;
  asks_for = IsForOperation;
  goes_to = GoesTo;
  restriction = restriction;
  content_type = λ s o. wanted_type (bound_at s (goal_of o the_input));
  head_error = told_by_head;
  body_error = told_by_body;
  syntax = json_syntax;
  body_use = λ s g empty. rest_use (bound_at s g) empty;
  empty_is_object = true;
  spells = λ s test g head content v. rest_reading s test g head content ≡ Ok v;
  faults = λ s test g head content. faults_in (rest_reading s test g head content);
  uncarried = λ s g v. uncarried_parts (bound_at s g) v;
  written = rest_written;
}
