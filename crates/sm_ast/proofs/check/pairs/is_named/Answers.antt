use Rattle.std.proofs.Common.{sym}
use Rattle.sm_tree.specs.Node.{members_of}
use Rattle.sm_tree.specs.View.{members_view}
use Rattle.sm_ast.proofs.Judged.{stands_named, stands_nowhere}
use Rattle.sm_ast.proofs.check.pairs.is_named.Goals as goal

pub returns-in-Some : goal.returns-in-Some
returns-in-Some c = sym (stands_named c.args.name.now (members_of (members_view c.args.pairs.now)) _ c.in-Some.ensures)

pub returns-in-None : goal.returns-in-None
returns-in-None c = sym (stands_nowhere c.args.name.now (members_of (members_view c.args.pairs.now)) c.in-None.ensures)
