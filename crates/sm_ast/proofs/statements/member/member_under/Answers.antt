use Rattle.sm_tree.specs.Node.{members_of}
use Rattle.sm_tree.specs.View.{members_view}
use Rattle.sm_ast.proofs.JsonParts.{json_under}
use Rattle.sm_ast.proofs.statements.member.member_under.Goals as goal

pub member-requires : goal.member-requires
member-requires c = json_under c.args.name.now (members_of (members_view c.args.pairs.now)) _ c.requires c.in-Some.ensures _
    c.pairs_or_none.ensures
