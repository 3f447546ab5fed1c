use Rattle.sm_ast.specs.Layout.{members_name}
use Rattle.sm_tree.specs.Node.{members_of}
use Rattle.sm_tree.specs.View.{members_view}
use Rattle.sm_ast.proofs.JsonParts.{json_under}
use Rattle.sm_ast.proofs.statements.member.members_under.Goals as goal

pub members-requires : goal.members-requires
members-requires c = json_under members_name (members_of (members_view c.args.pairs.now)) _ c.requires c.in-Some.ensures _
    c.pairs_or_none.ensures
