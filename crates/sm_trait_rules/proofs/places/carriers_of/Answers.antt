use Rattle.std.proofs.Common.{ℕ, get_or, map, ap, ◌∙◌}
use Rattle.std.proofs.lemmas.List.{get_or_default, take_all}
use Rattle.sm_trait_rules.proofs.PlacesTold.{carriers_more}
use Rattle.sm_trait_rules.proofs.places.carriers_of.Goals as goal

pub loop-used-preserved : goal.loop-used-preserved
loop-used-preserved c =
    let us = c.args.uses.now in
    let i = c.loop-used.used-index in
    c.in_ok-push.ensures.items
    ∙ carriers_more us i (get_or us i (0, 0)) c.loop-used.carriers.items c.loop-used-test.true
    (get_or_default us i (0, 0) (get_or us i (0, 0)) c.loop-used-test.true) c.loop-used.invariant

pub returns : goal.returns
returns c =
    c.loop-used.invariant ∙ ap (map (λ (u : ℕ × ℕ). u.0)) (take_all c.loop-used.used-index c.args.uses.now c.loop-used-test.false)
