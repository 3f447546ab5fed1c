use Rattle.std.proofs.Common.{◌≡◌, ◌++◌, rules, subst}
use Rattle.sm_cbor.specs.Stands.{cbor_source}
use Rattle.sm_codec.proofs.CborLaws.{cbor_laws}
use Rattle.sm_service.specs.ServiceView.{service_data}
use Rattle.sm_messages.specs.Pieces.{TakesPiece}
use Rattle.sm_messages.specs.TreeBodies.{tree_codec}
use Rattle.sm_messages.proofs.BodiesBegun.{begun_on}
use Rattle.sm_bounds.proofs.ReceivedFew.{begun_received}
use Rattle.sm_rpc.specs.Begun.{rpc_state}
use Rattle.sm_codec.specs.Conventions.{cbor_convention}
use Rattle.sm_rpc.specs.Messages.{rpc_form}
use Rattle.sm_rpc.proofs.body.RpcBody.piece.Goals as goal

pub returns-in-Ok-clause-begun : goal.returns-in-Ok-clause-begun
returns-in-Ok-clause-begun g c asked head empty come begun =
    let s = service_data c.args.service.now in
    let same : c.replace-body.result ≡ c.args.self.now = search rules in
    begun_on cbor_source cbor_convention rpc_form s g.P.Patterns.test asked head empty come c.args.bytes.now
    (rpc_state c.args.self.now) (rpc_state c.in-Ok.body)
    (subst (λ b. TakesPiece cbor_source (tree_codec cbor_convention s g.P.Patterns.test) (rpc_state b) c.args.bytes.now
    (rpc_state c.in-Ok.body)) same c.in-Ok.ensures.takes) begun

pub returns-in-Ok-clause-few : goal.returns-in-Ok-clause-few
returns-in-Ok-clause-few g c asked head empty come pass begun =
    let s = service_data c.args.service.now in
    c.holds_few.ensures (tree_codec cbor_convention s g.P.Patterns.test) (come ++ c.args.bytes.now) (rpc_state c.in-Ok.body)
    (record { convention = cbor_laws; table = c.requires.servable.shaped; defaults = pass })
    (begun_received cbor_source cbor_convention rpc_form s g.P.Patterns.test asked head empty (come ++ c.args.bytes.now)
    (rpc_state c.in-Ok.body) (returns-in-Ok-clause-begun g c asked head empty come begun))
