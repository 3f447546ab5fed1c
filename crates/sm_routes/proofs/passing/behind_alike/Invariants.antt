use Rattle.std.proofs.Common.{◌≡◌, drop, true}
use Rattle.sm_routes.specs.steps.Passing.{begin_alike}
use Rattle.sm_routes.proofs.passing.behind_alike.Given as goal

abbrev pub invariant-segments : goal.invariant-segments
invariant-segments l = record {
  begins : begin_alike l.left l.firsts l.others ≡ true → begin_alike l.depth l.first l.other ≡ true;
  rest : drop l.left l.others ≡ drop l.depth l.other;
}

abbrev pub decreases-segments : goal.decreases-segments
decreases-segments l = l.left
