use Rattle.sm_model.specs.GraphView.{maps_of}
use Rattle.sm_rules.specs.WireNames.{HasWireNameAgain}
use Rattle.sm_rules.specs.declared.rule.Rule.TheVariants.{WireNames}
use Rattle.sm_passes.proofs.Numbered.{puts_homes}
use Rattle.sm_http_rules.specs.steps.WireNames.{home_of}
use Rattle.sm_http_rules.proofs.WireNamesTold.{home_there}
use Rattle.sm_http_rules.proofs.wire_names.put_wire_names.Goals as goal

pub returns : goal.returns
returns c =
    let m = maps_of c.args.graph.now in
    puts_homes c.args.graph.now WireNames (HasWireNameAgain m) (home_of m) (home_there m) c.args.events.now.items
    c.put_each.new.events.items c.in_ok-put_each.ensures
