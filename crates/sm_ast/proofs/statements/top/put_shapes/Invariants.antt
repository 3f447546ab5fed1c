use Rattle.std.proofs.Common.{◌≡◌, ◌++◌, drop}
use Rattle.sm_tree.specs.Json.{AreJsonMembers}
use Rattle.sm_tree.specs.Node.{members_of}
use Rattle.sm_tree.specs.View.{members_view}
use Rattle.sm_model.specs.SaidView.{statements_view}
use Rattle.sm_ast.specs.steps.Saying.{shape_statements}
use Rattle.sm_ast.proofs.statements.top.put_shapes.Given as goal

abbrev pub invariant-loop-pair : goal.invariant-loop-pair
invariant-loop-pair l = record {
  json : AreJsonMembers (members_of (members_view (drop l.pair-index l.pairs)));
  said : statements_view l.statements.items ++ shape_statements (members_of (members_view (drop l.pair-index l.pairs)))
      ≡ statements_view l.fn.statements.items ++ shape_statements (members_of (members_view l.pairs));
}
