use Rattle.sm_awsjson.specs.service.ServiceView.{service_data}
use Rattle.sm_protocols.specs.declared.body.ProtocolBody.TheVariants.{Aws, Rpc}
use Rattle.sm_protocols.specs.declared.spoken.Spoken.TheVariants.{AwsJson10, AwsJson11, RpcV2Cbor}
use Rattle.sm_protocols.proofs.KeptRest.{rest_serves}
use Rattle.sm_protocols.proofs.ProtocolsTaken.{request_of}
use Rattle.sm_protocols.proofs.body.ProtocolBody.finish_request.Goals as goal

pub returns-in-Aws-clause-answers : goal.returns-in-Aws-clause-answers
returns-in-Aws-clause-answers g c =
    request_of c.args.spoken.now AwsJson10 (service_data c.args.service.now) g.P.Patterns.test c.args.self (Aws c.in-Aws.body)
    c.finish_request.result
    c.in-AwsJson10.is c.in-Aws.is c.finish_request.ensures.answers

pub returns-in-Aws-self-clause-answers : goal.returns-in-Aws-self-clause-answers
returns-in-Aws-self-clause-answers g c =
    request_of c.args.spoken.now AwsJson11 (service_data c.args.service.now) g.P.Patterns.test c.args.self (Aws c.in-Aws-self.body)
    c.finish_request-in-Aws-self.result
    c.in-AwsJson11.is c.in-Aws-self.is c.finish_request-in-Aws-self.ensures.answers

pub returns-in-Rpc-self-3-clause-answers : goal.returns-in-Rpc-self-3-clause-answers
returns-in-Rpc-self-3-clause-answers g c =
    request_of c.args.spoken.now RpcV2Cbor (service_data c.args.service.now) g.P.Patterns.test c.args.self (Rpc c.in-Rpc-self-3.body)
    c.finish_request-in-Rpc-self-3.result
    c.in-RpcV2Cbor.is c.in-Rpc-self-3.is c.finish_request-in-Rpc-self-3.ensures.answers

pub finish_request-requires-in-Rest-self-2-clause-serves : goal.finish_request-requires-in-Rest-self-2-clause-serves
finish_request-requires-in-Rest-self-2-clause-serves g c =
    rest_serves (service_data c.args.service.now) c.args.spoken.now c.in-RestJson1.rest c.in-RestJson1.is c.requires.serves
