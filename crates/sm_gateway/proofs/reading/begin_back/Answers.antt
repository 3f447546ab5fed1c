use Rattle.std.proofs.Common.{refl}
use Rattle.sm_gateway.specs.GatewayView.{gateway_data}
use Rattle.sm_gateway.specs.steps.Reading.{both_spoken}
use Rattle.sm_gateway.proofs.MessagesBegun.{reply_refused}
use Rattle.sm_gateway.proofs.reading.begin_back.Goals as goal

pub returns-in-Ok : goal.returns-in-Ok
returns-in-Ok c = λ test serves m asked. (m, refl, asked, c.in-Ok.ensures test)

pub returns-in-Err : goal.returns-in-Err
returns-in-Err c = λ test serves.
    reply_refused (both_spoken c.args.gateway.now) (gateway_data c.args.gateway.now) test serves c.requires.reads c.args.call.operation
    c.args.head.now c.args.empty
    c.in-Err.refusal c.refused_body.result c.in-Err.ensures c.refused_body.ensures
