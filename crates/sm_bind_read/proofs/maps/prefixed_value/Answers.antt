use Rattle.std.proofs.Common.{false, subst}
use Rattle.sm_codec.specs.Readings.{member_reading, when_closed}
use Rattle.sm_part_values.specs.Joins.{MemberJoins}
use Rattle.sm_part_values.specs.PartTexts.{in_field, keyed_by, map_or_none}
use Rattle.sm_bind.specs.BoundView.{bound_of}
use Rattle.sm_bind_read.specs.PartFaults.{bound_codec}
use Rattle.sm_bind_read.proofs.maps.prefixed_value.Goals as goal

pub returns-in-Ok-clause-joins : goal.returns-in-Ok-clause-joins
returns-in-Ok-clause-joins g c =
    let b = bound_of c.args.place.now in
    let codec = bound_codec b g.P.Patterns.test in
    subst (λ rows. MemberJoins (member_reading (when_closed b.table) c.args.member (map_or_none codec (keyed_by false in_field codec rows)))
    c.mapped_value.result) c.in-Ok.ensures c.mapped_value.ensures.joins
