use Rattle.std.proofs.Common.{subst}
use Rattle.sm_protocols.specs.service.ServiceView.{service_data}
use Rattle.sm_protocols.specs.messages.Answers.{AtHead, RefusedAs}
use Rattle.sm_protocols.specs.messages.Goals.{a_request}
use Rattle.sm_protocols.specs.messages.HeadAnswers.{IsJudged, refused_at_head, wrong_media_type}
use Rattle.sm_protocols.specs.Forms.{form_of}
use Rattle.sm_protocols.specs.Kept.{protocol_of}
use Rattle.sm_gateway.specs.GatewayView.{gateway_data}
use Rattle.sm_gateway.specs.steps.Reading.{IsMediaType, both_spoken}
use Rattle.sm_gateway.proofs.HeadsTowards.{media_goes}
use Rattle.sm_gateway.proofs.MessagesBegun.{media_refused, other_refused}
use Rattle.sm_gateway.proofs.RefusalsSaid.{media_said, other_said}
use Rattle.sm_gateway.proofs.reading.refused_front.Goals as goal

pub unreachable-requires : goal.unreachable-requires
unreachable-requires c =
    let near = form_of (protocol_of c.args.gateway.now.front) in
    let s = service_data c.args.gateway.now.service in
    let head = c.args.head.now in
    let same = media_said c.args.refusal (subst (IsMediaType c.args.refusal) c.if-is_media_type.true c.is_media_type.ensures) in
    let judged : IsJudged near s a_request head c.args.empty (refused_at_head wrong_media_type) =
    subst (RefusedAs (AtHead (λ r. IsJudged near s a_request head c.args.empty (refused_at_head r)))) same c.requires.refused in
    let x = media_goes near s head c.args.empty judged in
    c.in-None.ensures x.operation x.goes

pub admitted-requires : goal.admitted-requires
admitted-requires c =
    let reads = c.requires.reads.front in
    let s = service_data c.args.gateway.now.service in
    reads.within s c.args.head.now c.in-Some.operation (reads.asked_for s c.args.head.now c.in-Some.operation c.in-Some.ensures)

pub returns-then-is_media_type : goal.returns-then-is_media_type
returns-then-is_media_type c = λ test serves.
    let near = form_of (protocol_of c.args.gateway.now.front) in
    let s = service_data c.args.gateway.now.service in
    let head = c.args.head.now in
    let same = media_said c.args.refusal (subst (IsMediaType c.args.refusal) c.if-is_media_type.true c.is_media_type.ensures) in
    let judged : IsJudged near s a_request head c.args.empty (refused_at_head wrong_media_type) =
    subst (RefusedAs (AtHead (λ r. IsJudged near s a_request head c.args.empty (refused_at_head r)))) same c.requires.refused in
    media_refused (both_spoken c.args.gateway.now) (gateway_data c.args.gateway.now) test serves c.requires.reads head c.args.empty
    c.in-Some.operation c.admitted.result
    c.in-Some.ensures judged c.admitted.ensures

pub returns : goal.returns
returns c = λ test serves.
    let isnt = subst (IsMediaType c.args.refusal) c.if-is_media_type.false c.is_media_type.ensures in
    other_refused (both_spoken c.args.gateway.now) (gateway_data c.args.gateway.now) test c.args.head.now c.args.empty c.args.refusal
    c.refused_body.result
    (λ h said e. other_said c.args.refusal h isnt said e) c.requires.refused c.refused_body.ensures
