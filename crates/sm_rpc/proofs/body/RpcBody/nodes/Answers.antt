use Rattle.sm_cbor.specs.Stands.{cbor_source}
use Rattle.sm_codec.proofs.CborLaws.{cbor_laws}
use Rattle.sm_messages.proofs.BodiesBegun.{nodes_few}
use Rattle.sm_rpc.specs.Begun.{rpc_state}
use Rattle.sm_codec.specs.Conventions.{cbor_convention}
use Rattle.sm_rpc.specs.Messages.{rpc_form}
use Rattle.sm_rpc.proofs.body.RpcBody.nodes.Goals as goal

pub returns-in-Fed-clause-few : goal.returns-in-Fed-clause-few
returns-in-Fed-clause-few c s test asked head empty bytes servable pass begun =
    nodes_few cbor_source cbor_convention rpc_form s test asked head empty bytes (rpc_state c.args.self.now) c.laws.ensures.times
    c.laws.ensures.few c.laws.ensures.begin c.laws.ensures.complete c.kept_is_bounded.ensures cbor_laws servable pass begun
