use Rattle.std.proofs.Common.{◌≡◌, [], drop, take, map}
use Rattle.sm_tree.specs.Node.{members_of}
use Rattle.sm_tree.specs.View.{members_view}
use Rattle.sm_ast.specs.Faults.{pairs_fault}
use Rattle.sm_ast.specs.steps.Checks.{Remembers}
use Rattle.sm_ast.proofs.check.pairs.check_pairs.Given as goal

abbrev pub invariant-loop-pair : goal.invariant-loop-pair
invariant-loop-pair g l = record {
  seen : Remembers l.seen (map (λ p. p.0) (take l.pair-index l.pairs));
  fault : pairs_fault (g.R.PairRule.fault l.rule) [] (members_of (members_view l.pairs))
      ≡ pairs_fault (g.R.PairRule.fault l.rule) (map (λ p. p.0) (take l.pair-index l.pairs))
      (members_of (members_view (drop l.pair-index l.pairs)));
}
