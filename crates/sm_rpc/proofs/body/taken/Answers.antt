use Rattle.std.proofs.Common.{refl, subst, sym}
use Rattle.sm_cbor.specs.Stands.{cbor_source}
use Rattle.sm_service.specs.ServiceView.{service_data}
use Rattle.sm_messages.specs.Begun.{fed}
use Rattle.sm_messages.specs.Pieces.{TakesPiece}
use Rattle.sm_messages.specs.TreeBodies.{tree_codec}
use Rattle.sm_rpc.specs.Begun.{rpc_state}
use Rattle.sm_codec.specs.Conventions.{cbor_convention}
use Rattle.sm_rpc.proofs.body.taken.Goals as goal

pub returns-in-Ok-fed_with-clause-takes : goal.returns-in-Ok-fed_with-clause-takes
returns-in-Ok-fed_with-clause-takes g c =
    let body = c.in-Ok-fed_with.field-0 in
    subst (λ b. TakesPiece cbor_source (tree_codec cbor_convention (service_data c.args.service.now) g.P.Patterns.test) (rpc_state b)
    c.args.bytes.now (fed c.in-Fed.operation body.reader body.decoder)) (sym c.in-Fed.is)
    (body.reader, body.decoder, refl, c.in-Ok-fed_with.ensures.fed)
