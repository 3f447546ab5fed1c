use Rattle.std.proofs.Common.{◌≡◌, ◌+◌, arith, length, subst}
use Rattle.std.specs.List.{Contains}
use Rattle.sm_model.specs.GraphView.{entries_of}
use Rattle.sm_model.specs.steps.Linking.{Adds}
use Rattle.sm_model.proofs.Linking.{joins_none, joins_both, joins_same}
use Rattle.sm_transform.specs.steps.Steps.{StepsToTraits, TraitStepsBelow}
use Rattle.sm_transform.proofs.StepsNeeded.{below_more, below_none}
use Rattle.sm_transform.proofs.needs.put_all_traits.Goals as goal

pub loop-number-init : goal.loop-number-init
loop-number-init c =
    joins_none (Contains c.args.steps.now.items) (TraitStepsBelow c.args.graph.now 0) (below_none c.args.graph.now)

pub loop-number-preserved : goal.loop-number-preserved
loop-number-preserved c =
    let g = c.args.graph.now in
    let k = c.loop-number.number in
    let old = c.args.steps.now.items in
    joins_same (Contains old) _ (TraitStepsBelow g (k + 1)) _ (below_more g k)
    (joins_both (Contains old) (TraitStepsBelow g k) (Contains c.loop-number.steps.items) (StepsToTraits g k) _
    c.loop-number.invariant c.in_ok-put_own_traits.ensures)

pub returns : goal.returns
returns c =
    let g = c.args.graph.now in
    let all : c.loop-number.number ≡ length (entries_of g) = omega (arith, c.count-number-end.ensures, c.loop-number-test.false) in
    subst (λ n. Adds (TraitStepsBelow g n) c.args.steps.now.items c.loop-number.steps.items) all c.loop-number.invariant
