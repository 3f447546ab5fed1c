use Rattle.std.proofs.Common.{◌≡◌, drop, map}
use Rattle.std.specs.List.{filter_map}
use Rattle.std.specs.Str.{str_to_ascii_lowercase}
use Rattle.sm_messages.specs.service.WireMembers.{header_of}
use Rattle.sm_bind.specs.BoundView.{bound_of}
use Rattle.sm_bind.specs.Roles.{binding_on, is_among}
use Rattle.sm_bind_write.specs.steps.Naming.{joined}
use Rattle.sm_bind_write.proofs.taken.is_header_name.Given as goal

abbrev pub invariant-loop-member : goal.invariant-loop-member
invariant-loop-member l =
    is_among (map str_to_ascii_lowercase (filter_map (λ k. header_of (binding_on (bound_of l.place) k)) (drop l.member-index l.members)))
    (joined l.prefix l.key)
    ≡ is_among (map str_to_ascii_lowercase (filter_map (λ k. header_of (binding_on (bound_of l.place) k)) l.members))
    (joined l.prefix l.key)
