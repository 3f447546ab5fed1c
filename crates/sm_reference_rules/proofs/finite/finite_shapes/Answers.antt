use Rattle.sm_reference_rules.proofs.FiniteMoves.{waits_first}
use Rattle.sm_reference_rules.proofs.FiniteTold.{all_finite}
use Rattle.sm_reference_rules.proofs.finite.finite_shapes.Goals as goal

pub follow-requires-clause-ways : goal.follow-requires-clause-ways
follow-requires-clause-ways c = c.requires

pub follow-requires-clause-knows : goal.follow-requires-clause-knows
follow-requires-clause-knows c = c.in_ok-look_at_all.ensures.knows

pub follow-requires-clause-waits : goal.follow-requires-clause-waits
follow-requires-clause-waits c =
    waits_first c.args.graph.now c.in_ok-known.known c.look_at_all.new.known c.in_ok-look_at_all.ensures

pub returns : goal.returns
returns c = all_finite c.args.graph.now c.follow.new.known c.in_ok-follow.ensures.knows c.in_ok-follow.ensures.waits
