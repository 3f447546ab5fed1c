-- The parts of a message of restJson1 that stand in its head: labels and query pairs of a request's target, fields, and a response's status.
use Rattle.std.specs.Prelude.{ℕ, List, [], Option, Some, None}
use Rattle.sm_http.specs.declared.message.Head.{Head}
use Rattle.sm_http.specs.declared.message.Start.{Start}
use Rattle.sm_http.specs.declared.message.Start.TheVariants.{Request, Response}
use Rattle.sm_bind.specs.service.ServiceData.{HttpData, ServiceData}
use Rattle.sm_parts.specs.Targets.{QueryPair}
use Rattle.sm_routes.specs.WrittenTargets.{LabelText, pairs_left, target_labels}
use Rattle.sm_messages.specs.Goals.{Asked, Goal, Role, a_request, a_response, operation_at, the_error, the_input, the_output}
use Rattle.sm_bind.specs.PartsData.{PartsData}

-- a response has no target, and a request no status
abbrev pub target_in : Start → List ℕ
target_in (Request method target) = target
target_in (Response status) = []

abbrev pub status_in : Start → ℕ
status_in (Request method target) = 0
status_in (Response status) = status

-- what stands in a target for the labels of the pattern, and the pairs that its literals leave
abbrev pub labels_by : Option HttpData → List ℕ → List LabelText
labels_by None target = []
labels_by (Some h) target = target_labels h.uri target

abbrev pub pairs_by : Option HttpData → List ℕ → List QueryPair
pairs_by None target = []
pairs_by (Some h) target = pairs_left h.uri target

-- the status of a request is one that isn't looked at
abbrev pub request_parts : Option HttpData → Head → PartsData
request_parts rule head = record {
  labels = labels_by rule (target_in head.start);
  query = pairs_by rule (target_in head.start);
  fields = head.fields;
  status = 200;
}

abbrev pub response_parts : Head → PartsData
response_parts head = record { labels = []; query = []; fields = head.fields; status = status_in head.start }

abbrev pub parts_on : Role → Option HttpData → Head → PartsData
parts_on the_input rule head = request_parts rule head
parts_on the_output rule head = response_parts head
parts_on (the_error e) rule head = response_parts head

abbrev pub head_parts : ServiceData → Goal → Head → PartsData
head_parts s g head = parts_on g.role (operation_at s g.operation).http head

-- what is kept of a head whose body is held: all of it, a response with the start of one
abbrev pub kept_start : Asked → Start → Start
kept_start a_request start = start
kept_start (a_response o) start = Response (status_in start)

abbrev pub kept_head : Asked → Head → Head
kept_head asked head = record { start = kept_start asked head.start; fields = head.fields }
