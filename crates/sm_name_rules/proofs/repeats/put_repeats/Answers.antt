use Rattle.sm_model.specs.GraphView.{maps_of}
use Rattle.sm_rules.specs.Names.{RepeatsName}
use Rattle.sm_rules.specs.declared.rule.Rule.TheVariants.{MemberCase}
use Rattle.sm_passes.proofs.Numbered.{puts_homes}
use Rattle.sm_name_rules.proofs.repeats.put_repeats.Goals as goal

pub returns : goal.returns
returns c =
    puts_homes c.args.graph.now MemberCase (RepeatsName (maps_of c.args.graph.now)) (λ id detail h. h.shape)
    (λ id detail h. (_, h.behind.home.0)) c.args.events.now.items c.put_each.new.events.items c.in_ok-put_each.ensures
