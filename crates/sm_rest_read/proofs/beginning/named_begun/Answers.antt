use Rattle.std.proofs.Common.{[], false, refl}
use Rattle.sm_rest.specs.service.ServiceView.{service_data}
use Rattle.sm_rest.specs.messages.Goals.{a_response}
use Rattle.sm_rest.specs.messages.HeadAnswers.{to_named_error}
use Rattle.sm_rest.specs.messages.WrittenHeads.{with_fields}
use Rattle.sm_rest.specs.rest_heads.RestParts.{kept_start}
use Rattle.sm_rest_read.proofs.RestBodies.{begins_held}
use Rattle.sm_rest_read.proofs.beginning.named_begun.Goals as goal

pub returns : goal.returns
returns c = λ rest test empty judged.
    let s = service_data c.args.service.now in
    let head = c.args.head.now in
    let asked = a_response c.args.operation in
    let m = with_fields (kept_start asked head.start) head.fields [] in
    begins_held rest s test asked head empty (to_named_error c.args.operation) m false c.held.result
    (record {
      there = to_named_error c.args.operation;
      judged = judged;
      asks = c.requires.served;
      operation = refl;
      keeps = refl;
      body = refl;
    })
    (c.held.ensures m c.kept_response.ensures)
