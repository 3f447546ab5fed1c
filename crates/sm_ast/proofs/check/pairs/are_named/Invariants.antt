use Rattle.std.proofs.Common.{◌≡◌, drop, map}
use Rattle.sm_tree.specs.Node.{members_of}
use Rattle.sm_tree.specs.View.{members_view}
use Rattle.sm_ast.specs.Faults.{are_there, names_of}
use Rattle.sm_ast.proofs.check.pairs.are_named.Given as goal

abbrev pub invariant-loop-name : goal.invariant-loop-name
invariant-loop-name l = record {
  rest : are_there (map (λ k. k.now) (drop l.name-index l.wanted)) (names_of (members_of (members_view l.pairs)))
      ≡ are_there (map (λ k. k.now) l.wanted) (names_of (members_of (members_view l.pairs)));
}
