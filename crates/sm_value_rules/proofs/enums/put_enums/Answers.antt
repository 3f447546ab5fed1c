use Rattle.std.proofs.Common.{length, arith}
use Rattle.sm_model.specs.GraphView.{entries_of, maps_of}
use Rattle.sm_rules.specs.declared.rule.Rule.TheVariants.{EnumValues}
use Rattle.sm_passes.proofs.Numbered.{puts_homes, puts_numbers}
use Rattle.sm_value_rules.specs.steps.Enums.{HasNone, HasWrong, home_of}
use Rattle.sm_value_rules.proofs.EnumMembers.{enums_put}
use Rattle.sm_value_rules.proofs.enums.put_enums.Goals as goal

pub returns : goal.returns
returns c =
    enums_put (maps_of c.args.graph.now) c.args.events.now.items c.put_each.new.events.items c.put_each-2.new.events.items
    (puts_numbers c.args.graph.now EnumValues (HasNone (maps_of c.args.graph.now)) (λ id detail h. (_, h.0.1.0))
    (length (entries_of c.args.graph.now)) (omega arith) c.args.events.now.items c.put_each.new.events.items c.in_ok-put_each.ensures)
    (puts_homes c.args.graph.now EnumValues (HasWrong (maps_of c.args.graph.now)) (home_of (maps_of c.args.graph.now))
    (λ id detail h. (_, h.0.behind.home.0)) c.put_each.new.events.items c.put_each-2.new.events.items c.in_ok-put_each-2.ensures)
