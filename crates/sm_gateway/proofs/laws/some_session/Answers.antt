use Rattle.sm_http.specs.declared.message.MessageSide.TheVariants.{Request as of_requests, Response as of_responses}
use Rattle.sm_gateway.proofs.GatewayLaws.{some_gateway_session}
use Rattle.sm_gateway.proofs.laws.some_session.Goals as goal

pub returns : goal.returns
returns c = λ g test serves.
    some_gateway_session g test serves
    (record { front = (c.each_is_form.ensures g.front).reads; back = (c.each_is_form.ensures g.back).reads })
    (c.some_answer.ensures of_requests) (c.some_answer.ensures of_responses)
