use Rattle.std.proofs.Common.{◌≡◌, ◌++◌, drop}
use Rattle.sm_tree.specs.Json.{AreJsonMembers}
use Rattle.sm_tree.specs.Node.{members_of}
use Rattle.sm_tree.specs.View.{members_view}
use Rattle.sm_model.specs.SaidView.{member_statements_view}
use Rattle.sm_ast.specs.steps.Saying.{members_said}
use Rattle.sm_ast.proofs.statements.member.members.Given as goal

abbrev pub invariant-loop-pair : goal.invariant-loop-pair
invariant-loop-pair l = record {
  json : AreJsonMembers (members_of (members_view (drop l.pair-index l.pairs)));
  said : member_statements_view l.members.items ++ members_said (members_of (members_view (drop l.pair-index l.pairs)))
      ≡ members_said (members_of (members_view l.pairs));
}
