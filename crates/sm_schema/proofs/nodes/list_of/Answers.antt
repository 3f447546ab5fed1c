use Rattle.std.proofs.Common.{ap, ◌∙◌}
use Rattle.sm_tree.specs.Node.{list, nodes_of}
use Rattle.sm_tree.proofs.Views.{node_list_items}
use Rattle.sm_schema.proofs.JoinedParts.{list_joined}
use Rattle.sm_schema.proofs.nodes.list_of.Goals as goal

pub returns : goal.returns
returns c = node_list_items c.new.result ∙ ap (λ ns. list (nodes_of ns)) c.new.ensures ∙ list_joined c.args.entries.entries.items
