use Rattle.std.proofs.Common.{◌≡◌, drop}
use Rattle.std.specs.Str.{str_to_ascii_lowercase}
use Rattle.sm_bind.specs.BoundView.{bound_of}
use Rattle.sm_bind.specs.Roles.{is_among}
use Rattle.sm_bind_read.specs.steps.Taken.{headers_of}
use Rattle.sm_bind_read.proofs.taken.is_header.Given as goal

abbrev pub invariant-loop-member : goal.invariant-loop-member
invariant-loop-member l =
    is_among (headers_of (bound_of l.place) (drop l.member-index l.members)) (str_to_ascii_lowercase l.name)
    ≡ is_among (headers_of (bound_of l.place) l.members) (str_to_ascii_lowercase l.name)
