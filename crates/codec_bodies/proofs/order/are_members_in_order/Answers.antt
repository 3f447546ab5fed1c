use Rattle.std.proofs.Common.{below_more, arith, rules}
use Rattle.codec_bodies.proofs.order.are_members_in_order.Goals as goal

pub loop-place-preserved : goal.loop-place-preserved
loop-place-preserved c = below_more _ _ c.loop-place.invariant (search rules)

pub returns : goal.returns
returns c good k h = c.loop-place.invariant k (omega (arith, h, c.count_of_members-count.ensures, c.loop-place-test.false))
