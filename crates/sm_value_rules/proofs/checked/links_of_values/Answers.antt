use Rattle.std.proofs.Common.{[], subst, sym}
use Rattle.std.proofs.lemmas.List.{take_all}
use Rattle.sm_value_rules.specs.steps.Checking.{AreOfValues}
use Rattle.sm_value_rules.proofs.CheckedMarks.{none_of_values, values_next}
use Rattle.sm_value_rules.proofs.checked.links_of_values.Goals as goal

pub loop-link-init : goal.loop-link-init
loop-link-init c = subst (AreOfValues []) (sym c.new-links.ensures.items) none_of_values

pub loop-link-preserved : goal.loop-link-preserved
loop-link-preserved c =
    let at = c.loop-link in
    let all = c.args.all.now in
    values_next all at.links.items c.put_link.new.links.items at.link-index _ c.loop-link-test.true c.in_ok-put_link.ensures at.invariant

pub returns : goal.returns
returns c =
    subst (λ ls. AreOfValues ls c.loop-link.links.items) (take_all c.loop-link.link-index c.args.all.now c.loop-link-test.false)
    c.loop-link.invariant
