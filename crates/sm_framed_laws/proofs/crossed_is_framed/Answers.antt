use Rattle.sm_gateway.specs.GatewayData.{back_form, front_form}
use Rattle.sm_framed_laws.proofs.CrossedFramed.{crossed_framed}
use Rattle.sm_framed_laws.proofs.crossed_is_framed.Goals as goal

pub returns-clause-requests : goal.returns-clause-requests
returns-clause-requests c = λ g. crossed_framed (front_form g) (back_form g) (c.each_is_form.ensures g.front).reads (c.written_is_framed.ensures.back g)

pub returns-clause-responses : goal.returns-clause-responses
returns-clause-responses c = λ g. crossed_framed (back_form g) (front_form g) (c.each_is_form.ensures g.back).reads (c.written_is_framed.ensures.front g)
