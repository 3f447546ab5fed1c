use Rattle.std.proofs.Common.{◌≡◌, sym, subst}
use Rattle.std.specs.Prelude.{IfOk}
use Rattle.sm_shapes.specs.ValueView.{val_of}
use Rattle.sm_codec.specs.Encoded.{first_path}
use Rattle.sm_http.specs.declared.message.MessageSide.TheVariants.{Request}
use Rattle.sm_awsjson.specs.service.ServiceView.{service_data}
use Rattle.sm_awsjson.specs.messages.Goals.{goal_of, the_input}
use Rattle.sm_awsjson.specs.Messages.{aws_form}
use Rattle.sm_awsjson.specs.declared.version.AwsVersion.TheVariants.{V10, V11}
use Rattle.sm_rpc.specs.Messages.{rpc_form}
use Rattle.sm_protocols.specs.Forms.{form_of}
use Rattle.sm_protocols.specs.Kept.{protocol_of}
use Rattle.sm_protocols.proofs.SidesTold.{first_of, input_on}
use Rattle.sm_protocols.proofs.carrying.uncarried_input.Goals as goal

pub returns-in-AwsJson10 : goal.returns-in-AwsJson10
returns-in-AwsJson10 c =
    let s = service_data c.args.service.now in
    let v = val_of c.args.value.now in
    subst (λ p. IfOk c.uncarried_by_aws.result (λ path. path ≡ first_path ((form_of (protocol_of p)).uncarried s (goal_of c.args.operation the_input) v)))
    (sym c.in-AwsJson10.is)
    (first_of ((aws_form V10).uncarried s) s c.args.operation Request v the_input c.uncarried_by_aws.result
    (input_on s c.args.operation v c.requires.number c.requires.fits) c.uncarried_by_aws.ensures)

pub returns-in-AwsJson11 : goal.returns-in-AwsJson11
returns-in-AwsJson11 c =
    let s = service_data c.args.service.now in
    let v = val_of c.args.value.now in
    subst (λ p. IfOk c.uncarried_by_aws-in-AwsJson11.result (λ path. path ≡ first_path ((form_of (protocol_of p)).uncarried s (goal_of c.args.operation the_input) v)))
    (sym c.in-AwsJson11.is)
    (first_of ((aws_form V11).uncarried s) s c.args.operation Request v the_input c.uncarried_by_aws-in-AwsJson11.result
    (input_on s c.args.operation v c.requires.number c.requires.fits) c.uncarried_by_aws-in-AwsJson11.ensures)

pub returns-in-RpcV2Cbor : goal.returns-in-RpcV2Cbor
returns-in-RpcV2Cbor c =
    let s = service_data c.args.service.now in
    let v = val_of c.args.value.now in
    subst (λ p. IfOk c.uncarried_by_rpc.result (λ path. path ≡ first_path ((form_of (protocol_of p)).uncarried s (goal_of c.args.operation the_input) v)))
    (sym c.in-RpcV2Cbor.is)
    (first_of (rpc_form.uncarried s) s c.args.operation Request v the_input c.uncarried_by_rpc.result
    (input_on s c.args.operation v c.requires.number c.requires.fits) c.uncarried_by_rpc.ensures)
