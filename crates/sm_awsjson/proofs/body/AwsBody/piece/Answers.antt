use Rattle.std.proofs.Common.{◌≡◌, ◌++◌, rules, subst}
use Rattle.std.specs.Prelude.{false}
use Rattle.sm_json.specs.Stands.{json_source}
use Rattle.sm_codec.proofs.JsonLaws.{json_laws}
use Rattle.sm_service.specs.ServiceView.{service_data}
use Rattle.sm_messages.specs.Pieces.{TakesPiece}
use Rattle.sm_messages.specs.TreeBodies.{tree_codec}
use Rattle.sm_messages.proofs.BodiesBegun.{begun_on}
use Rattle.sm_bounds.proofs.ReceivedFew.{begun_received}
use Rattle.sm_awsjson.specs.Begun.{aws_state}
use Rattle.sm_awsjson.specs.Messages.{aws_convention, aws_form}
use Rattle.sm_awsjson.proofs.body.AwsBody.piece.Goals as goal

pub returns-in-Ok-clause-begun : goal.returns-in-Ok-clause-begun
returns-in-Ok-clause-begun g c asked head empty come begun =
    let s = service_data c.args.service.now in
    let same : c.replace-body.result ≡ c.args.self.now = search rules in
    begun_on json_source aws_convention (aws_form c.args.protocol.now.version) s g.P.Patterns.test asked head empty come c.args.bytes.now
    (aws_state c.args.self.now) (aws_state c.in-Ok.body)
    (subst (λ b. TakesPiece json_source (tree_codec aws_convention s g.P.Patterns.test) (aws_state b) c.args.bytes.now
    (aws_state c.in-Ok.body)) same c.in-Ok.ensures.takes) begun

pub returns-in-Ok-clause-few : goal.returns-in-Ok-clause-few
returns-in-Ok-clause-few g c asked head empty come pass begun =
    let s = service_data c.args.service.now in
    c.holds_few.ensures (tree_codec aws_convention s g.P.Patterns.test) (come ++ c.args.bytes.now) (aws_state c.in-Ok.body)
    (record { convention = json_laws false; table = c.requires.servable.shaped; defaults = pass })
    (begun_received json_source aws_convention (aws_form c.args.protocol.now.version) s g.P.Patterns.test asked head empty
    (come ++ c.args.bytes.now) (aws_state c.in-Ok.body) (returns-in-Ok-clause-begun g c asked head empty come begun))
