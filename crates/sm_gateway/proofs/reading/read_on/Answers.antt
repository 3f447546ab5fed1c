use Rattle.std.proofs.Common.{refl}
use Rattle.sm_gateway.specs.GatewayView.{gateway_data}
use Rattle.sm_gateway.specs.declared.body.GatewayBody.TheVariants.{Reply, Request}
use Rattle.sm_gateway.specs.steps.Reading.{both_spoken}
use Rattle.sm_gateway.proofs.MessagesRead.{refused_holds, refused_on, reply_begun, reply_holds, reply_on, request_begun, request_holds}
use Rattle.sm_gateway.proofs.MessagesRead.{request_on}
use Rattle.sm_gateway.proofs.reading.read_on.Goals as goal

pub returns-in-Refused-clause-reads : goal.returns-in-Refused-clause-reads
returns-in-Refused-clause-reads g c =
    refused_on (both_spoken c.args.gateway.now) (gateway_data c.args.gateway.now) g.P.Patterns.test c.args.body.now _ c.args.piece.now
    c.in-Refused.is

pub piece-requires-clause-begun : goal.piece-requires-clause-begun
piece-requires-clause-begun g c =
    request_begun (both_spoken c.args.gateway.now) (gateway_data c.args.gateway.now) g.P.Patterns.test c.args.body.now _ c.in-Request.is
    c.requires.begun

pub returns-in-Request-clause-reads : goal.returns-in-Request-clause-reads
returns-in-Request-clause-reads g c =
    request_on (both_spoken c.args.gateway.now) (gateway_data c.args.gateway.now) g.P.Patterns.test c.args.body.now
    (Request c.piece.new.self) _ c.piece.new.self
    c.args.piece.now c.piece.result c.in-Request.is refl c.piece.ensures.begun

pub piece-requires-in-Reply-clause-begun : goal.piece-requires-in-Reply-clause-begun
piece-requires-in-Reply-clause-begun g c =
    reply_begun (both_spoken c.args.gateway.now) (gateway_data c.args.gateway.now) g.P.Patterns.test c.args.body.now _ _ c.in-Reply.is
    c.requires.begun

pub returns-in-Reply-clause-reads : goal.returns-in-Reply-clause-reads
returns-in-Reply-clause-reads g c =
    reply_on (both_spoken c.args.gateway.now) (gateway_data c.args.gateway.now) g.P.Patterns.test c.args.body.now
    (Reply _ c.piece-in-Reply.new.self) _ _
    c.piece-in-Reply.new.self c.args.piece.now c.piece-in-Reply.result c.in-Reply.is refl c.piece-in-Reply.ensures.begun

pub returns-in-Refused-clause-few : goal.returns-in-Refused-clause-few
returns-in-Refused-clause-few g c pass =
    refused_holds (both_spoken c.args.gateway.now) (gateway_data c.args.gateway.now) g.P.Patterns.test c.args.body.now _ c.args.piece.now
    c.in-Refused.is

pub returns-in-Request-clause-few : goal.returns-in-Request-clause-few
returns-in-Request-clause-few g c pass =
    request_holds (both_spoken c.args.gateway.now) (gateway_data c.args.gateway.now) g.P.Patterns.test c.args.body.now
    (Request c.piece.new.self) _ c.piece.new.self
    c.args.piece.now c.piece.result pass c.in-Request.is refl c.piece.ensures.few

pub returns-in-Reply-clause-few : goal.returns-in-Reply-clause-few
returns-in-Reply-clause-few g c pass =
    reply_holds (both_spoken c.args.gateway.now) (gateway_data c.args.gateway.now) g.P.Patterns.test c.args.body.now
    (Reply _ c.piece-in-Reply.new.self) _ _
    c.piece-in-Reply.new.self c.args.piece.now c.piece-in-Reply.result pass c.in-Reply.is refl c.piece-in-Reply.ensures.few
