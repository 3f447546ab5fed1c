use Rattle.std.proofs.Common.{subst}
use Rattle.std.specs.Prelude.{Err, Ok}
use Rattle.sm_rest.specs.service.ServiceView.{service_data}
use Rattle.sm_rest.specs.messages.Goals.{a_request, goal_of, the_input}
use Rattle.sm_rest.specs.messages.HeadAnswers.{to_goal}
use Rattle.sm_rest.specs.messages.Heads.{is_empty}
use Rattle.sm_rest.specs.messages.IsForm.{ServesOperation}
use Rattle.sm_rest.specs.bind.BindingsView.{bindings_data, parts_data}
use Rattle.sm_rest.specs.bind.BoundView.{bound_of}
use Rattle.sm_rest.specs.RestForm.{rest_form}
use Rattle.sm_rest_read.specs.Begun.{RestBegun, RestFed, RestHeld}
use Rattle.sm_rest_read.proofs.PlacesJoined.{body_there, joinable, joins_there, pass_at, stored_at}
use Rattle.sm_rest_read.proofs.RestBodies.{fed_request, held_request, request_served}
use Rattle.sm_rest_read.proofs.body.RestBody.finish_request.Goals as goal

pub held_request-requires-clause-served : goal.held_request-requires-clause-served
held_request-requires-clause-served g c =
    let (head, bytes, begun) = c.requires.begun in
    let s = service_data c.args.service.now in
    let held : RestHeld s a_request head (is_empty bytes) bytes c.in-Held.operation c.in-Held.message c.in-Held.dropped =
    subst (λ b. RestBegun c.args.rest.now s g.P.Patterns.test a_request b head (is_empty bytes) bytes) c.in-Held.is begun
    in
    subst (ServesOperation rest_form s) held.operation (request_served s head (is_empty bytes) held.there held.judged).0

pub returns-in-Held-clause-answers : goal.returns-in-Held-clause-answers
returns-in-Held-clause-answers g c head bytes begun =
    let s = service_data c.args.service.now in
    let held : RestHeld s a_request head (is_empty bytes) bytes c.in-Held.operation c.in-Held.message c.in-Held.dropped =
    subst (λ b. RestBegun c.args.rest.now s g.P.Patterns.test a_request b head (is_empty bytes) bytes) c.in-Held.is begun
    in
    held_request c.args.rest.now s g.P.Patterns.test head bytes c.in-Held.operation c.in-Held.message c.in-Held.dropped
    c.held_request.result held c.held_request.ensures.request

pub input_place-place-requires : goal.input_place-place-requires
input_place-place-requires g c =
    let (head, bytes, begun) = c.requires.begun in
    let s = service_data c.args.service.now in
    let fed : RestFed c.args.rest.now s g.P.Patterns.test a_request head (is_empty bytes) bytes c.in-Fed.operation c.in-Fed.parts
    c.in-Fed.reader c.in-Fed.decoder =
    subst (λ b. RestBegun c.args.rest.now s g.P.Patterns.test a_request b head (is_empty bytes) bytes) c.in-Fed.is begun
    in
    (request_served s head (is_empty bytes) (to_goal (goal_of c.in-Fed.operation the_input)) fed.judged).0.within

pub fed_value-requires-clause-place : goal.fed_value-requires-clause-place
fed_value-requires-clause-place g c =
    let (head, bytes, begun) = c.requires.begun in
    let s = service_data c.args.service.now in
    let fed : RestFed c.args.rest.now s g.P.Patterns.test a_request head (is_empty bytes) bytes c.in-Fed.operation c.in-Fed.parts
    c.in-Fed.reader c.in-Fed.decoder =
    subst (λ b. RestBegun c.args.rest.now s g.P.Patterns.test a_request b head (is_empty bytes) bytes) c.in-Fed.is begun
    in
    let serves = (request_served s head (is_empty bytes) (to_goal (goal_of c.in-Fed.operation the_input)) fed.judged).0 in
    joinable s (goal_of c.in-Fed.operation the_input) (bindings_data c.args.rest.now.bindings) (bound_of c.input_place-place.result)
    c.requires.servable c.requires.serves.http c.requires.rest.bindings
    (record { operation = serves; goal = (serves.within, tt) }) c.input_place-place.ensures

pub fed_value-requires-clause-stored : goal.fed_value-requires-clause-stored
fed_value-requires-clause-stored g c =
    stored_at (service_data c.args.service.now) (goal_of c.in-Fed.operation the_input) (bound_of c.input_place-place.result)
    (g.P.Patterns.added c.args.patterns.now) c.input_place-place.ensures c.requires.stored

pub fed_value-requires-clause-pass : goal.fed_value-requires-clause-pass
fed_value-requires-clause-pass g c =
    pass_at (service_data c.args.service.now) (goal_of c.in-Fed.operation the_input) (bound_of c.input_place-place.result)
    g.P.Patterns.test c.input_place-place.ensures c.requires.pass

pub fed_value-requires-clause-fed : goal.fed_value-requires-clause-fed
fed_value-requires-clause-fed g c =
    let (head, bytes, begun) = c.requires.begun in
    let s = service_data c.args.service.now in
    let fed : RestFed c.args.rest.now s g.P.Patterns.test a_request head (is_empty bytes) bytes c.in-Fed.operation c.in-Fed.parts
    c.in-Fed.reader c.in-Fed.decoder =
    subst (λ b. RestBegun c.args.rest.now s g.P.Patterns.test a_request b head (is_empty bytes) bytes) c.in-Fed.is begun
    in
    (fed.shape, bytes, fed.come)

pub fed_value-requires-clause-memory : goal.fed_value-requires-clause-memory
fed_value-requires-clause-memory g c =
    let (head, bytes, begun) = c.requires.begun in
    let s = service_data c.args.service.now in
    let fed : RestFed c.args.rest.now s g.P.Patterns.test a_request head (is_empty bytes) bytes c.in-Fed.operation c.in-Fed.parts
    c.in-Fed.reader c.in-Fed.decoder =
    subst (λ b. RestBegun c.args.rest.now s g.P.Patterns.test a_request b head (is_empty bytes) bytes) c.in-Fed.is begun
    in
    fed.memory

pub returns-in-Ok-clause-answers : goal.returns-in-Ok-clause-answers
returns-in-Ok-clause-answers g c head bytes begun =
    let s = service_data c.args.service.now in
    let there = goal_of c.in-Fed.operation the_input in
    let fed : RestFed c.args.rest.now s g.P.Patterns.test a_request head (is_empty bytes) bytes c.in-Fed.operation c.in-Fed.parts
    c.in-Fed.reader c.in-Fed.decoder =
    subst (λ b. RestBegun c.args.rest.now s g.P.Patterns.test a_request b head (is_empty bytes) bytes) c.in-Fed.is begun
    in
    let b = bound_of c.input_place-place.result in
    fed_request c.args.rest.now s g.P.Patterns.test head bytes c.in-Fed.operation c.in-Fed.parts c.in-Fed.reader c.in-Fed.decoder
    (Ok c.in-Ok.value) fed
    (joins_there s there b g.P.Patterns.test (parts_data c.in-Fed.parts) bytes (Ok c.in-Ok.value) c.input_place-place.ensures
    (c.in-Ok.ensures.joins fed.shape bytes
    (body_there s there (bindings_data c.args.rest.now.bindings) b fed.shape c.input_place-place.ensures fed.body) fed.full fed.come))

pub returns-clause-answers : goal.returns-clause-answers
returns-clause-answers g c head bytes begun =
    let s = service_data c.args.service.now in
    let there = goal_of c.in-Fed.operation the_input in
    let fed : RestFed c.args.rest.now s g.P.Patterns.test a_request head (is_empty bytes) bytes c.in-Fed.operation c.in-Fed.parts
    c.in-Fed.reader c.in-Fed.decoder =
    subst (λ b. RestBegun c.args.rest.now s g.P.Patterns.test a_request b head (is_empty bytes) bytes) c.in-Fed.is begun
    in
    let b = bound_of c.input_place-place.result in
    fed_request c.args.rest.now s g.P.Patterns.test head bytes c.in-Fed.operation c.in-Fed.parts c.in-Fed.reader c.in-Fed.decoder
    (Err c.in-Err.refusal) fed
    (joins_there s there b g.P.Patterns.test (parts_data c.in-Fed.parts) bytes (Err c.in-Err.refusal) c.input_place-place.ensures
    (c.in-Err.ensures.joins fed.shape bytes
    (body_there s there (bindings_data c.args.rest.now.bindings) b fed.shape c.input_place-place.ensures fed.body) fed.full fed.come))
