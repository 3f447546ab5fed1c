use Rattle.std.proofs.Common.{refl}
use Rattle.std.specs.Prelude.{Err, Ok}
use Rattle.sm_rest.specs.service.ServiceView.{service_data}
use Rattle.sm_rest.specs.messages.Goals.{goal_of, the_output}
use Rattle.sm_rest.specs.bind.BindingsView.{bindings_data}
use Rattle.sm_rest.specs.bind.BoundView.{bound_of}
use Rattle.sm_rest.specs.rest_heads.RestParts.{head_parts}
use Rattle.sm_rest_read.proofs.PlacesJoined.{joinable, joins_there, pass_at, stored_at}
use Rattle.sm_rest_read.proofs.replies.output_reply.Goals as goal

pub whole_value-requires-clause-place : goal.whole_value-requires-clause-place
whole_value-requires-clause-place g c =
    joinable (service_data c.args.service.now) (goal_of c.args.operation the_output) (bindings_data c.args.rest.now.bindings)
    (bound_of c.output_place-place.result) c.requires.servable c.requires.serves.http c.requires.rest.bindings
    (record { operation = c.requires.served; goal = (c.requires.served.within, tt) }) c.output_place-place.ensures

pub whole_value-requires-clause-stored : goal.whole_value-requires-clause-stored
whole_value-requires-clause-stored g c =
    stored_at (service_data c.args.service.now) (goal_of c.args.operation the_output) (bound_of c.output_place-place.result)
    (g.P.Patterns.added c.args.patterns.now) c.output_place-place.ensures c.requires.stored

pub whole_value-requires-clause-pass : goal.whole_value-requires-clause-pass
whole_value-requires-clause-pass g c =
    pass_at (service_data c.args.service.now) (goal_of c.args.operation the_output) (bound_of c.output_place-place.result)
    g.P.Patterns.test c.output_place-place.ensures c.requires.pass

pub returns-in-Ok-clause-reply : goal.returns-in-Ok-clause-reply
returns-in-Ok-clause-reply g c =
    let s = service_data c.args.service.now in
    let there = goal_of c.args.operation the_output in (
      refl,
      joins_there s there (bound_of c.output_place-place.result) g.P.Patterns.test (head_parts s there c.args.head.now) c.args.body
          (Ok c.in-Ok.value) c.output_place-place.ensures (c.in-Ok.ensures.joins (head_parts s there c.args.head.now) c.response_parts-parts.ensures),
    )

pub returns-in-Err-clause-reply : goal.returns-in-Err-clause-reply
returns-in-Err-clause-reply g c =
    let s = service_data c.args.service.now in
    let there = goal_of c.args.operation the_output in
    joins_there s there (bound_of c.output_place-place.result) g.P.Patterns.test (head_parts s there c.args.head.now) c.args.body
    (Err c.in-Err.refusal) c.output_place-place.ensures (c.in-Err.ensures.joins (head_parts s there c.args.head.now) c.response_parts-parts.ensures)
