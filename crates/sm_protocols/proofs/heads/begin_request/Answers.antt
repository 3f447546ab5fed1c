use Rattle.std.proofs.Common.{sym, subst}
use Rattle.std.specs.Prelude.{Err, Ok}
use Rattle.sm_shapes.specs.Fitting.{any_text}
use Rattle.sm_awsjson.specs.service.ServiceView.{service_data}
use Rattle.sm_awsjson.specs.declared.version.AwsVersion.TheVariants.{V10, V11}
use Rattle.sm_protocols.specs.ProtocolBodies.{BeginsRequest}
use Rattle.sm_protocols.specs.declared.body.ProtocolBody.TheVariants.{Aws, Rest, Rpc}
use Rattle.sm_protocols.proofs.HeadsBegun.{aws_head, rest_head, rpc_head}
use Rattle.sm_protocols.proofs.heads.begin_request.Goals as goal

pub returns-in-Ok : goal.returns-in-Ok
returns-in-Ok c =
    let s = service_data c.args.service.now in
    subst (λ p. BeginsRequest p s c.args.head.now c.args.empty (Ok (c.operation.result, Aws c.in-Ok.body))) (sym c.in-AwsJson10.is)
    (aws_head V10 s c.args.head.now c.args.empty c.operation.result c.in-Ok.body c.operation.ensures c.in-Ok.ensures)

pub returns-in-Err : goal.returns-in-Err
returns-in-Err c =
    subst (λ p. BeginsRequest p (service_data c.args.service.now) c.args.head.now c.args.empty (Err c.in-Err.refusal)) (sym c.in-AwsJson10.is)
    (c.in-Err.ensures any_text)

pub returns-in-Ok-begin_request : goal.returns-in-Ok-begin_request
returns-in-Ok-begin_request c =
    let s = service_data c.args.service.now in
    subst (λ p. BeginsRequest p s c.args.head.now c.args.empty (Ok (c.operation-in-Ok-begin_request.result, Aws c.in-Ok-begin_request.body))) (sym c.in-AwsJson11.is)
    (aws_head V11 s c.args.head.now c.args.empty c.operation-in-Ok-begin_request.result c.in-Ok-begin_request.body c.operation-in-Ok-begin_request.ensures c.in-Ok-begin_request.ensures)

pub returns-in-Err-begin_request : goal.returns-in-Err-begin_request
returns-in-Err-begin_request c =
    subst (λ p. BeginsRequest p (service_data c.args.service.now) c.args.head.now c.args.empty (Err c.in-Err-begin_request.refusal)) (sym c.in-AwsJson11.is)
    (c.in-Err-begin_request.ensures any_text)

pub returns-in-Ok-begin_request-2 : goal.returns-in-Ok-begin_request-2
returns-in-Ok-begin_request-2 c =
    let s = service_data c.args.service.now in
    subst (λ p. BeginsRequest p s c.args.head.now c.args.empty (Ok (c.operation-in-Ok-begin_request-2.result, Rpc c.in-Ok-begin_request-2.body))) (sym c.in-RpcV2Cbor.is)
    (rpc_head s c.args.head.now c.args.empty c.operation-in-Ok-begin_request-2.result c.in-Ok-begin_request-2.body c.operation-in-Ok-begin_request-2.ensures c.in-Ok-begin_request-2.ensures)

pub returns-in-Err-begin_request-2 : goal.returns-in-Err-begin_request-2
returns-in-Err-begin_request-2 c =
    subst (λ p. BeginsRequest p (service_data c.args.service.now) c.args.head.now c.args.empty (Err c.in-Err-begin_request-2.refusal)) (sym c.in-RpcV2Cbor.is)
    (c.in-Err-begin_request-2.ensures any_text)

pub returns-in-Ok-begin_rest_request : goal.returns-in-Ok-begin_rest_request
returns-in-Ok-begin_rest_request c =
    let s = service_data c.args.service.now in
    subst (λ p. BeginsRequest p s c.args.head.now c.args.empty
    (Ok (c.operation-in-Ok-begin_rest_request.result, Rest c.in-Ok-begin_rest_request.body))) (sym c.in-RestJson1.is)
    (rest_head c.in-RestJson1.rest s c.args.head.now c.args.empty c.operation-in-Ok-begin_rest_request.result
    c.in-Ok-begin_rest_request.body c.operation-in-Ok-begin_rest_request.ensures c.in-Ok-begin_rest_request.ensures)

pub returns-in-Err-begin_rest_request : goal.returns-in-Err-begin_rest_request
returns-in-Err-begin_rest_request c =
    subst (λ p. BeginsRequest p (service_data c.args.service.now) c.args.head.now c.args.empty (Err c.in-Err-begin_rest_request.refusal))
    (sym c.in-RestJson1.is) (c.in-Err-begin_rest_request.ensures any_text)
