use Rattle.std.proofs.Common.{ap, ◌∙◌}
use Rattle.sm_tree.specs.Node.{no_members}
use Rattle.sm_tree.specs.View.{members_view, node_of}
use Rattle.sm_schema.specs.steps.Joined.{joined}
use Rattle.sm_schema.proofs.OkParts.{on_ok, not_empty, required_put}
use Rattle.sm_schema.proofs.aggregates.put_required.Goals as goal

pub returns-else-is_empty : goal.returns-else-is_empty
returns-else-is_empty c =
    on_ok c.put.result (λ says. says no_members
    ∙ ap (joined (members_view c.args.pairs.now.pairs.items))
    (required_put c.args.names.entries.items (node_of c.list_of.result.tree)
    (not_empty c.args.names.entries.len _ c.is_empty.result c.is_empty.ensures c.if-is_empty.false c.args.names.entries.ok.0) c.list_of.ensures))
    c.put.ensures
