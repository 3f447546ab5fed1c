use Rattle.std.proofs.Common.{◌≡◌, ◌++◌, drop}
use Rattle.std.specs.List.{filter}
use Rattle.sm_bind_write.specs.bind.BoundView.{bound_of}
use Rattle.sm_bind_write.specs.bind.Roles.{is_in_document}
use Rattle.sm_bind_bodies.proofs.document.members_there.Given as goal

abbrev pub invariant-loop-member : goal.invariant-loop-member
invariant-loop-member l =
    l.there.items ++ filter (is_in_document (bound_of l.place)) (drop l.member-index l.members)
    ≡ filter (is_in_document (bound_of l.place)) l.members
