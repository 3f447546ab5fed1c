use Rattle.std.proofs.Common.{[], refl}
use Rattle.sm_rest.specs.service.ServiceView.{service_data}
use Rattle.sm_rest.specs.messages.Goals.{a_response, goal_of, the_error}
use Rattle.sm_rest.specs.messages.HeadAnswers.{to_goal}
use Rattle.sm_rest.specs.messages.WrittenHeads.{with_fields}
use Rattle.sm_rest.specs.bind.BoundView.{bound_of}
use Rattle.sm_rest.specs.rest_heads.RestParts.{kept_start}
use Rattle.sm_rest_read.proofs.PlacesJoined.{shape_at, unread_at}
use Rattle.sm_rest_read.proofs.RestBodies.{begins_held, keeps_none}
use Rattle.sm_rest_read.proofs.beginning.error_begun.Goals as goal

pub is_unread-requires : goal.is_unread-requires
is_unread-requires c =
    shape_at (service_data c.args.service.now) (goal_of c.args.operation (the_error c.args.error)) (bound_of c.error_place-place.result)
    c.requires.servable c.requires.goal c.error_place-place.ensures

pub returns : goal.returns
returns c = λ rest test empty judged.
    let s = service_data c.args.service.now in
    let g = goal_of c.args.operation (the_error c.args.error) in
    let b = bound_of c.error_place-place.result in
    let head = c.args.head.now in
    let asked = a_response c.args.operation in
    let m = with_fields (kept_start asked head.start) head.fields [] in
    begins_held rest s test asked head empty (to_goal g) m c.is_unread.result c.held.result
    (record {
      there = to_goal g;
      judged = judged;
      asks = c.requires.served;
      operation = refl;
      keeps = refl;
      body = keeps_none s (to_goal g) c.is_unread.result (λ up. unread_at s g b c.error_place-place.ensures (c.is_unread.ensures.0 up));
    })
    (c.held.ensures m c.kept_response.ensures)
