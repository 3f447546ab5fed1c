use Rattle.std.proofs.Common.{refl}
use Rattle.std.specs.Prelude.{Err, Ok}
use Rattle.sm_rest.specs.service.ServiceView.{service_data}
use Rattle.sm_rest.specs.messages.Goals.{goal_of, the_input}
use Rattle.sm_rest.specs.messages.HeadAnswers.{to_goal}
use Rattle.sm_rest.specs.bind.BindingsView.{bindings_data}
use Rattle.sm_rest.specs.bind.BoundView.{bound_of}
use Rattle.sm_rest.specs.rest_heads.RestParts.{head_parts}
use Rattle.sm_rest_read.proofs.PlacesJoined.{joinable, joins_there, pass_at, stored_at}
use Rattle.sm_rest_read.proofs.RestAnswered.{goal_answers}
use Rattle.sm_rest_read.proofs.replies.held_request.Goals as goal

pub whole_value-requires-clause-place : goal.whole_value-requires-clause-place
whole_value-requires-clause-place g c =
    joinable (service_data c.args.service.now) (goal_of c.args.operation the_input) (bindings_data c.args.rest.now.bindings)
    (bound_of c.input_place-place.result) c.requires.servable c.requires.serves.http c.requires.rest.bindings
    (record { operation = c.requires.served; goal = (c.requires.served.within, tt) }) c.input_place-place.ensures

pub whole_value-requires-clause-stored : goal.whole_value-requires-clause-stored
whole_value-requires-clause-stored g c =
    stored_at (service_data c.args.service.now) (goal_of c.args.operation the_input) (bound_of c.input_place-place.result)
    (g.P.Patterns.added c.args.patterns.now) c.input_place-place.ensures c.requires.stored

pub whole_value-requires-clause-pass : goal.whole_value-requires-clause-pass
whole_value-requires-clause-pass g c =
    pass_at (service_data c.args.service.now) (goal_of c.args.operation the_input) (bound_of c.input_place-place.result)
    g.P.Patterns.test c.input_place-place.ensures c.requires.pass

pub returns-in-Ok-clause-request : goal.returns-in-Ok-clause-request
returns-in-Ok-clause-request g c =
    let s = service_data c.args.service.now in
    let goal_there = goal_of c.args.operation the_input in
    let head = c.args.message.head in
    goal_answers s g.P.Patterns.test (to_goal goal_there) head c.args.message.body goal_there (Ok c.in-Ok.value) refl
    (joins_there s goal_there (bound_of c.input_place-place.result) g.P.Patterns.test (head_parts s goal_there head) c.args.message.body
    (Ok c.in-Ok.value) c.input_place-place.ensures (c.in-Ok.ensures.joins (head_parts s goal_there head) c.request_parts-parts.ensures))

pub returns-clause-request : goal.returns-clause-request
returns-clause-request g c =
    let s = service_data c.args.service.now in
    let goal_there = goal_of c.args.operation the_input in
    let head = c.args.message.head in
    goal_answers s g.P.Patterns.test (to_goal goal_there) head c.args.message.body goal_there (Err c.in-Err.refusal) refl
    (joins_there s goal_there (bound_of c.input_place-place.result) g.P.Patterns.test (head_parts s goal_there head) c.args.message.body
    (Err c.in-Err.refusal) c.input_place-place.ensures (c.in-Err.ensures.joins (head_parts s goal_there head) c.request_parts-parts.ensures))
