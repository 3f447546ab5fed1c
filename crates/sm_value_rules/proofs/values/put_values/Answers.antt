use Rattle.sm_model.specs.GraphView.{maps_of}
use Rattle.sm_rules.specs.Traits.{HasOtherValue}
use Rattle.sm_rules.specs.declared.rule.Rule.TheVariants.{TraitValue}
use Rattle.sm_rules.specs.TraitShapes.{HasFaultyValue, HasWrongValue}
use Rattle.sm_passes.proofs.PartsPut.{puts_parts}
use Rattle.sm_value_rules.proofs.ValuesTold.{value_parts}
use Rattle.sm_value_rules.proofs.values.put_values.Goals as goal

pub returns : goal.returns
returns c =
    let m = maps_of c.args.graph.now in
    puts_parts TraitValue (HasOtherValue m) (HasFaultyValue m) (HasWrongValue m) c.args.events.now.items
    c.put_other_values.new.events.items c.put_faulty_values.new.events.items (value_parts m) c.in_ok-put_other_values.ensures
    c.in_ok-put_faulty_values.ensures
