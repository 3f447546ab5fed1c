use Rattle.std.proofs.Common.{sym, subst}
use Rattle.std.specs.Prelude.{Err, Ok}
use Rattle.sm_shapes.specs.Fitting.{any_text}
use Rattle.sm_awsjson.specs.service.ServiceView.{service_data}
use Rattle.sm_protocols.specs.ProtocolBodies.{BeginsResponse}
use Rattle.sm_protocols.specs.declared.body.ProtocolBody.TheVariants.{Aws, Rpc}
use Rattle.sm_protocols.proofs.heads.begin_response.Goals as goal

pub returns-in-Ok : goal.returns-in-Ok
returns-in-Ok c =
    subst (λ p. BeginsResponse p (service_data c.args.service.now) c.args.operation c.args.head.now c.args.empty (Ok (Aws c.in-Ok.body)))
    (sym c.in-AwsJson10.is) (λ test. (c.in-Ok.ensures test).1)

pub returns-in-Err : goal.returns-in-Err
returns-in-Err c =
    subst (λ p. BeginsResponse p (service_data c.args.service.now) c.args.operation c.args.head.now c.args.empty (Err c.in-Err.refusal))
    (sym c.in-AwsJson10.is) (c.in-Err.ensures any_text)

pub returns-in-Ok-begin_response : goal.returns-in-Ok-begin_response
returns-in-Ok-begin_response c =
    subst (λ p. BeginsResponse p (service_data c.args.service.now) c.args.operation c.args.head.now c.args.empty (Ok (Aws c.in-Ok-begin_response.body)))
    (sym c.in-AwsJson11.is) (λ test. (c.in-Ok-begin_response.ensures test).1)

pub returns-in-Err-begin_response : goal.returns-in-Err-begin_response
returns-in-Err-begin_response c =
    subst (λ p. BeginsResponse p (service_data c.args.service.now) c.args.operation c.args.head.now c.args.empty (Err c.in-Err-begin_response.refusal))
    (sym c.in-AwsJson11.is) (c.in-Err-begin_response.ensures any_text)

pub returns-in-Ok-begin_response-2 : goal.returns-in-Ok-begin_response-2
returns-in-Ok-begin_response-2 c =
    subst (λ p. BeginsResponse p (service_data c.args.service.now) c.args.operation c.args.head.now c.args.empty (Ok (Rpc c.in-Ok-begin_response-2.body)))
    (sym c.in-RpcV2Cbor.is) (λ test. (c.in-Ok-begin_response-2.ensures test).1)

pub returns-in-Err-begin_response-2 : goal.returns-in-Err-begin_response-2
returns-in-Err-begin_response-2 c =
    subst (λ p. BeginsResponse p (service_data c.args.service.now) c.args.operation c.args.head.now c.args.empty (Err c.in-Err-begin_response-2.refusal))
    (sym c.in-RpcV2Cbor.is) (c.in-Err-begin_response-2.ensures any_text)

pub returns-in-Err-begin_rest_response : goal.returns-in-Err-begin_rest_response
returns-in-Err-begin_rest_response c =
    subst (λ p. BeginsResponse p (service_data c.args.service.now) c.args.operation c.args.head.now c.args.empty
    (Err c.in-Err-begin_rest_response.refusal)) (sym c.in-RestJson1.is) (c.in-Err-begin_rest_response.ensures any_text)
