use Rattle.std.proofs.Common.{subst}
use Rattle.sm_rules.specs.RuleEvents.{Puts}
use Rattle.sm_http_traits.specs.Bindings.{bindings_in}
use Rattle.sm_passes.specs.Putting.{ToldOf}
use Rattle.sm_passes.proofs.EventsPut.{puts_both}
use Rattle.sm_http_rules.specs.steps.BoundTargets.{ToldBeside, ToldBinding}
use Rattle.sm_http_rules.proofs.bound_targets.put_member.Goals as goal

pub returns : goal.returns
returns c =
    let told = ToldBinding c.args.graph.now c.args.leading.now c.args.member in
    puts_both (ToldOf told (bindings_in c.args.side)) (ToldBeside c.args.graph.now c.args.side c.args.payload c.args.member)
    c.args.events.now.items c.put_bindings.new.events.items c.put_beside.new.events.items
    (subst (λ bs. Puts (ToldOf told bs) c.args.events.now.items c.put_bindings.new.events.items) c.bindings_of.ensures
    c.in_ok-put_bindings.ensures) c.in_ok-put_beside.ensures
