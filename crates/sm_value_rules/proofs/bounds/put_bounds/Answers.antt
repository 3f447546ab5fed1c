use Rattle.std.proofs.Common.{length, arith}
use Rattle.sm_model.specs.GraphView.{entries_of, maps_of}
use Rattle.sm_rules.specs.Constraints.{HasWrongBounds}
use Rattle.sm_rules.specs.declared.rule.Rule.TheVariants.{ConstraintBounds}
use Rattle.sm_passes.proofs.Numbered.{puts_numbers}
use Rattle.sm_value_rules.proofs.WrongBounds.{bounds_there}
use Rattle.sm_value_rules.proofs.bounds.put_bounds.Goals as goal

pub returns : goal.returns
returns c =
    puts_numbers c.args.graph.now ConstraintBounds (HasWrongBounds (maps_of c.args.graph.now)) (bounds_there (maps_of c.args.graph.now))
    (length (entries_of c.args.graph.now)) (omega arith) c.args.events.now.items c.put_outside.new.events.items c.in_ok-put_outside.ensures
