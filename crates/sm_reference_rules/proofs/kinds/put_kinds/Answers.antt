use Rattle.sm_model.specs.GraphView.{maps_of}
use Rattle.sm_rules.specs.Targets.{TargetsOther}
use Rattle.sm_rules.specs.declared.rule.Rule.TheVariants.{TargetKind}
use Rattle.sm_passes.proofs.Numbered.{puts_homes}
use Rattle.sm_reference_rules.proofs.TargetKinds.{kinds_put}
use Rattle.sm_reference_rules.proofs.kinds.put_kinds.Goals as goal

pub returns : goal.returns
returns c =
    kinds_put (maps_of c.args.graph.now) c.args.events.now.items c.put_each.new.events.items c.put_bodies.new.events.items
    (puts_homes c.args.graph.now TargetKind (TargetsOther (maps_of c.args.graph.now)) (λ from id h. h.shape)
    (λ from id h. (_, h.member.home.0)) c.args.events.now.items c.put_each.new.events.items c.in_ok-put_each.ensures)
    c.in_ok-put_bodies.ensures
