use Rattle.std.proofs.Common.{ap, ◌∙◌}
use Rattle.sm_tree.specs.Node.{object, members_of}
use Rattle.sm_tree.proofs.Views.{node_object_pairs}
use Rattle.sm_schema.proofs.JoinedParts.{object_joined}
use Rattle.sm_schema.proofs.nodes.object_of.Goals as goal

pub returns : goal.returns
returns c =
    node_object_pairs c.new.result ∙ ap (λ ms. object (members_of ms)) c.new.ensures ∙ object_joined c.args.pairs.pairs.items
