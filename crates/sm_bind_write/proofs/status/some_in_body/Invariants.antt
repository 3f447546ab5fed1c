use Rattle.std.proofs.Common.{◌≡◌, drop}
use Rattle.std.specs.List.{list_any}
use Rattle.sm_messages.specs.service.WireMembers.{stands_in_body, wire_member_at}
use Rattle.sm_bind.specs.BoundView.{bound_of}
use Rattle.sm_bind_write.proofs.status.some_in_body.Given as goal

abbrev pub invariant-loop-member : goal.invariant-loop-member
invariant-loop-member l =
    list_any (λ k. stands_in_body (bound_of l.place).side (wire_member_at (bound_of l.place).table k)) (drop l.member-index l.members)
    ≡ list_any (λ k. stands_in_body (bound_of l.place).side (wire_member_at (bound_of l.place).table k)) l.members
