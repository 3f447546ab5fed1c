use Rattle.std.proofs.Common.{◌≡◌, ◌++◌, drop}
use Rattle.sm_model.specs.GraphView.{AreShapeNumbers}
use Rattle.sm_http_rules.specs.steps.WireNames.{prefixes_of}
use Rattle.sm_http_rules.proofs.prefixes.prefixes_among.Given as goal

abbrev pub invariant-loop-member : goal.invariant-loop-member
invariant-loop-member l = record {
  numbers : AreShapeNumbers l.graph (drop l.member-index l.members);
  prefixes : l.prefixes.items ++ prefixes_of l.graph (drop l.member-index l.members) ≡ prefixes_of l.graph l.members;
}
