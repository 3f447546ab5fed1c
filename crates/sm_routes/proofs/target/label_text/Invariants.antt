use Rattle.std.proofs.Common.{◌≡◌, drop}
use Rattle.sm_routes.specs.WrittenTargets.{label_text}
use Rattle.sm_routes.proofs.target.label_text.Given as goal

abbrev pub invariant-loop-label : goal.invariant-loop-label
invariant-loop-label l = label_text l.name (drop l.label-index l.labels) ≡ label_text l.name l.labels
