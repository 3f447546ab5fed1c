use Rattle.std.proofs.Common.{ap, ◌∙◌}
use Rattle.std.specs.Prelude.{nat_lt, ◌^◌}
use Rattle.sm_codec.proofs.PlainLeaves.{far_places, few_places}
use Rattle.sm_codec.proofs.plain.has_places.Goals as goal

pub returns-then-places-ge64 : goal.returns-then-places-ge64
returns-then-places-ge64 c = far_places c.args.reach c.args.bits c.saturating_sub-places.result c.saturating_sub-places.ensures
    c.ranges.reach.fits c.if-places-ge64.true

pub returns : goal.returns
returns c = few_places c.args.reach c.saturating_sub-places.result ∙ ap (λ p. nat_lt c.args.reach (2 ^ p)) c.saturating_sub-places.ensures
