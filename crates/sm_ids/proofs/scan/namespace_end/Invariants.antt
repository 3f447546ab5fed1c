use Rattle.std.proofs.Common.{◌≤◌, ◌-◌, length, take}
use Rattle.sm_ids.proofs.Scanning.{InNamespace}
use Rattle.sm_ids.proofs.scan.namespace_end.Given as goal

abbrev pub invariant-identifiers : goal.invariant-identifiers
invariant-identifiers l = record {
  within : l.from ≤ length l.bytes;
  taken : InNamespace (take l.from l.bytes);
}

abbrev pub decreases-identifiers : goal.decreases-identifiers
decreases-identifiers l = length l.bytes - l.from
