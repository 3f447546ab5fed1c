use Rattle.std.proofs.Common.{length, arith}
use Rattle.sm_model.specs.GraphView.{entries_of, maps_of}
use Rattle.sm_rules.specs.declared.rule.Rule.TheVariants.{TargetMissing}
use Rattle.sm_passes.proofs.Numbered.{puts_numbers}
use Rattle.sm_reference_rules.specs.steps.Missing.{TargetsNothing}
use Rattle.sm_reference_rules.proofs.MissingTargets.{missing_put}
use Rattle.sm_reference_rules.proofs.missing.put_missing.Goals as goal

pub returns : goal.returns
returns c =
    missing_put (maps_of c.args.graph.now) c.args.events.now.items c.put_outside.new.events.items c.put_bodies.new.events.items
    (puts_numbers c.args.graph.now TargetMissing (TargetsNothing (maps_of c.args.graph.now)) (λ from id h. (_, h.1.0))
    (length (entries_of c.args.graph.now)) (omega arith) c.args.events.now.items c.put_outside.new.events.items c.in_ok-put_outside.ensures)
    c.in_ok-put_bodies.ensures
