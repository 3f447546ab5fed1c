use Rattle.std.proofs.Common.{◌≡◌, ◌++◌, drop}
use Rattle.sm_tree.specs.Json.{AreJsonMembers}
use Rattle.sm_tree.specs.Node.{members_of}
use Rattle.sm_tree.specs.View.{members_view}
use Rattle.sm_model.specs.SaidView.{traits_view}
use Rattle.sm_ast.specs.steps.Saying.{traits_said}
use Rattle.sm_ast.proofs.statements.traits.trait_uses.Given as goal

abbrev pub invariant-loop-pair : goal.invariant-loop-pair
invariant-loop-pair l = record {
  json : AreJsonMembers (members_of (members_view (drop l.pair-index l.pairs)));
  said : traits_view l.uses.items ++ traits_said (members_of (members_view (drop l.pair-index l.pairs)))
      ≡ traits_said (members_of (members_view l.pairs));
}
