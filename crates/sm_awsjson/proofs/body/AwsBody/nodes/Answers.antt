use Rattle.std.specs.Prelude.{false}
use Rattle.sm_json.specs.Stands.{json_source}
use Rattle.sm_codec.proofs.JsonLaws.{json_laws}
use Rattle.sm_messages.proofs.BodiesBegun.{nodes_few}
use Rattle.sm_awsjson.specs.Begun.{aws_state}
use Rattle.sm_awsjson.specs.Messages.{aws_convention, aws_form}
use Rattle.sm_awsjson.proofs.body.AwsBody.nodes.Goals as goal

pub returns-in-Fed-clause-few : goal.returns-in-Fed-clause-few
returns-in-Fed-clause-few c version s test asked head empty bytes servable pass begun =
    nodes_few json_source aws_convention (aws_form version) s test asked head empty bytes (aws_state c.args.self.now) c.laws.ensures.times
    c.laws.ensures.few c.laws.ensures.begin c.laws.ensures.complete c.kept_is_bounded.ensures (json_laws false) servable pass begun
