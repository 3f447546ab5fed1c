use Rattle.std.proofs.Common.{subst}
use Rattle.std.proofs.lemmas.List.{take_all}
use Rattle.sm_rules.specs.RuleEvents.{Puts}
use Rattle.sm_passes.specs.Putting.{ToldOf}
use Rattle.sm_passes.proofs.ListPut.{none_of, put_place}
use Rattle.sm_http_rules.specs.steps.BoundTargets.{ToldBinding}
use Rattle.sm_http_rules.proofs.bound_targets.put_bindings.Goals as goal

pub loop-binding-init : goal.loop-binding-init
loop-binding-init c = none_of (ToldBinding c.args.graph.now c.args.leading.now c.args.member) c.args.events.now.items

pub loop-binding-preserved : goal.loop-binding-preserved
loop-binding-preserved c =
    put_place (ToldBinding c.args.graph.now c.args.leading.now c.args.member) c.args.bindings.now c.loop-binding.binding-index _
    c.loop-binding-test.true c.args.events.now.items c.loop-binding.events.items c.put_binding.new.events.items c.loop-binding.invariant
    c.in_ok-put_binding.ensures

pub returns : goal.returns
returns c =
    subst (λ bs. Puts (ToldOf (ToldBinding c.args.graph.now c.args.leading.now c.args.member) bs) c.args.events.now.items
    c.loop-binding.events.items) (take_all c.loop-binding.binding-index c.args.bindings.now c.loop-binding-test.false)
    c.loop-binding.invariant
