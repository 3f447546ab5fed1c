use Rattle.std.proofs.Common.{[], refl, sym, ◌∙◌}
use Rattle.sm_rest.specs.service.ServiceView.{service_data}
use Rattle.sm_rest.specs.messages.Goals.{a_response, goal_of, the_output}
use Rattle.sm_rest.specs.messages.HeadAnswers.{to_goal}
use Rattle.sm_rest.specs.messages.WrittenHeads.{with_fields}
use Rattle.sm_rest.specs.bind.BindingsView.{bindings_data}
use Rattle.sm_rest.specs.bind.BoundView.{bound_of}
use Rattle.sm_rest.specs.rest_heads.RestParts.{head_parts, kept_start}
use Rattle.sm_rest_read.proofs.PlacesJoined.{fed_at, number_at, shape_at, unread_at}
use Rattle.sm_rest_read.proofs.RestBodies.{begins_fed, begins_held, keeps_none}
use Rattle.sm_rest_read.proofs.beginning.output_begun.Goals as goal

pub fed-requires : goal.fed-requires
fed-requires c =
    let s = service_data c.args.service.now in
    let g = goal_of c.args.operation the_output in
    let d = bindings_data c.args.rest.now.bindings in
    let b = bound_of c.output_place-place.result in
    number_at s g d b c.args.empty c.in-Some.shape c.requires.servable c.requires.rest.bindings (c.requires.served.within, tt) c.output_place-place.ensures
    (sym c.fed_shape.ensures ∙ c.in-Some.is)

pub is_unread-requires : goal.is_unread-requires
is_unread-requires c =
    shape_at (service_data c.args.service.now) (goal_of c.args.operation the_output) (bound_of c.output_place-place.result) c.requires.servable
    (c.requires.served.within, tt) c.output_place-place.ensures

pub returns-in-Some : goal.returns-in-Some
returns-in-Some c = λ test judged.
    let s = service_data c.args.service.now in
    let g = goal_of c.args.operation the_output in
    let d = bindings_data c.args.rest.now.bindings in
    let b = bound_of c.output_place-place.result in
    let at = fed_at s g d b c.args.empty c.in-Some.shape c.output_place-place.ensures (sym c.fed_shape.ensures ∙ c.in-Some.is) in
    begins_fed c.args.rest.now s test (a_response c.args.operation) c.args.head.now c.args.empty c.args.operation c.in-Some.shape c.fed.result
    (record { judged = judged; asks = c.requires.served; full = at.0 }) at.1
    (c.fed.ensures (head_parts s g c.args.head.now) c.response_parts-parts.ensures)

pub returns-in-None : goal.returns-in-None
returns-in-None c = λ test judged.
    let s = service_data c.args.service.now in
    let g = goal_of c.args.operation the_output in
    let b = bound_of c.output_place-place.result in
    let head = c.args.head.now in
    let m = with_fields (kept_start (a_response c.args.operation) head.start) head.fields [] in
    begins_held c.args.rest.now s test (a_response c.args.operation) head c.args.empty (to_goal g) m c.is_unread.result c.held.result
    (record {
      there = to_goal g;
      judged = judged;
      asks = c.requires.served;
      operation = refl;
      keeps = refl;
      body = keeps_none s (to_goal g) c.is_unread.result (λ up. unread_at s g b c.output_place-place.ensures (c.is_unread.ensures.0 up));
    })
    (c.held.ensures m c.kept_response.ensures)
