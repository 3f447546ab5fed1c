use Rattle.std.proofs.Common.{◌≡◌, ◌+◌, ◌-◌, ◌≤◌, ◌^◌, drop}
use Rattle.sm_bytes.specs.Lengths.{length_word}
use Rattle.sm_merge.specs.steps.Made.{members_count}
use Rattle.sm_merge.proofs.limits.member_count.Given as goal

abbrev pub invariant-loop-one : goal.invariant-loop-one
invariant-loop-one l = record {
  fits : l.count ≤ 2 ^ 64 - 1;
  size : length_word (l.count + members_count (drop l.one-index l.members)) ≡ length_word (members_count l.members);
}
