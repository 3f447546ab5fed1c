use Rattle.std.proofs.Common.{refl}
use Rattle.std.proofs.lemmas.Result.{on_ok_weaker}
use Rattle.sm_awsjson.specs.service.ServiceView.{service_data}
use Rattle.sm_protocols.specs.declared.body.ProtocolBody.TheVariants.{Aws, Rpc}
use Rattle.sm_protocols.specs.declared.spoken.Spoken.TheVariants.{AwsJson10, AwsJson11, RpcV2Cbor}
use Rattle.sm_protocols.proofs.ProtocolsTaken.{few_on_of, on_of}
use Rattle.sm_protocols.proofs.body.ProtocolBody.piece.Goals as goal

pub returns-in-Aws-clause-begun : goal.returns-in-Aws-clause-begun
returns-in-Aws-clause-begun g c =
    on_ok_weaker c.piece.result (λ x. on_of c.args.spoken.now AwsJson10 (service_data c.args.service.now) g.P.Patterns.test c.args.self.now
    (Aws c.piece.new.self) _ (Aws c.piece.new.self) c.args.bytes.now c.in-AwsJson10.is c.in-Aws.is refl x) c.piece.ensures.begun

pub returns-in-Aws-self-clause-begun : goal.returns-in-Aws-self-clause-begun
returns-in-Aws-self-clause-begun g c =
    on_ok_weaker c.piece-in-Aws-self.result (λ x. on_of c.args.spoken.now AwsJson11 (service_data c.args.service.now) g.P.Patterns.test
    c.args.self.now
    (Aws c.piece-in-Aws-self.new.self) _ (Aws c.piece-in-Aws-self.new.self) c.args.bytes.now c.in-AwsJson11.is c.in-Aws-self.is refl x)
    c.piece-in-Aws-self.ensures.begun

pub returns-in-Rpc-self-3-clause-begun : goal.returns-in-Rpc-self-3-clause-begun
returns-in-Rpc-self-3-clause-begun g c =
    on_ok_weaker c.piece-in-Rpc-self-3.result (λ x. on_of c.args.spoken.now RpcV2Cbor (service_data c.args.service.now) g.P.Patterns.test
    c.args.self.now
    (Rpc c.piece-in-Rpc-self-3.new.self) _ (Rpc c.piece-in-Rpc-self-3.new.self) c.args.bytes.now c.in-RpcV2Cbor.is c.in-Rpc-self-3.is refl
    x) c.piece-in-Rpc-self-3.ensures.begun

pub returns-in-Aws-clause-few : goal.returns-in-Aws-clause-few
returns-in-Aws-clause-few g c =
    on_ok_weaker c.piece.result (λ x. few_on_of c.args.spoken.now AwsJson10 (service_data c.args.service.now) g.P.Patterns.test
    c.args.self.now (Aws c.piece.new.self) _ (Aws c.piece.new.self) c.args.bytes.now c.in-AwsJson10.is c.in-Aws.is refl x)
    c.piece.ensures.few

pub returns-in-Aws-self-clause-few : goal.returns-in-Aws-self-clause-few
returns-in-Aws-self-clause-few g c =
    on_ok_weaker c.piece-in-Aws-self.result (λ x. few_on_of c.args.spoken.now AwsJson11 (service_data c.args.service.now)
    g.P.Patterns.test c.args.self.now (Aws c.piece-in-Aws-self.new.self) _ (Aws c.piece-in-Aws-self.new.self) c.args.bytes.now
    c.in-AwsJson11.is c.in-Aws-self.is refl x) c.piece-in-Aws-self.ensures.few

pub returns-in-Rpc-self-3-clause-few : goal.returns-in-Rpc-self-3-clause-few
returns-in-Rpc-self-3-clause-few g c =
    on_ok_weaker c.piece-in-Rpc-self-3.result (λ x. few_on_of c.args.spoken.now RpcV2Cbor (service_data c.args.service.now)
    g.P.Patterns.test c.args.self.now (Rpc c.piece-in-Rpc-self-3.new.self) _ (Rpc c.piece-in-Rpc-self-3.new.self) c.args.bytes.now
    c.in-RpcV2Cbor.is c.in-Rpc-self-3.is refl x) c.piece-in-Rpc-self-3.ensures.few
