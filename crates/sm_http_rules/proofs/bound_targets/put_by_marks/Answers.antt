use Rattle.sm_model.specs.GraphView.{maps_of}
use Rattle.sm_rules.specs.Http.{IsBoundWrongly}
use Rattle.sm_rules.specs.declared.rule.Rule.TheVariants.{HttpTarget}
use Rattle.sm_passes.proofs.Numbered.{puts_homes}
use Rattle.sm_http_rules.specs.steps.BoundTargets.{home_of_binding}
use Rattle.sm_http_rules.proofs.BoundTold.{binding_home}
use Rattle.sm_http_rules.proofs.bound_targets.put_by_marks.Goals as goal

pub returns : goal.returns
returns c =
    let m = maps_of c.args.graph.now in
    puts_homes c.args.graph.now HttpTarget (IsBoundWrongly m) (home_of_binding m) (binding_home m) c.args.events.now.items
    c.put_each.new.events.items c.in_ok-put_each.ensures
