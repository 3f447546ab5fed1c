use Rattle.std.proofs.Common.{◌≡◌, ◌+◌, ◌-◌, ◌≤◌, ◌^◌, drop}
use Rattle.sm_bytes.specs.Lengths.{length_word}
use Rattle.sm_merge.specs.steps.Firsts.{targets_view}
use Rattle.sm_merge.specs.steps.Made.{made_members, members_size}
use Rattle.sm_merge.proofs.limits.members_size.Given as goal

abbrev pub invariant-loop-member : goal.invariant-loop-member
invariant-loop-member l = record {
  fits : l.size ≤ 2 ^ 64 - 1;
  size : length_word (l.size + members_size (made_members l.kind l.traits.members.items (targets_view (drop l.member-index l.members))))
      ≡ length_word (members_size (made_members l.kind l.traits.members.items (targets_view l.members)));
}
