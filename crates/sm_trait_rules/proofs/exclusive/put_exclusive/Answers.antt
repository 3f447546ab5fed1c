use Rattle.std.proofs.Common.{length, arith}
use Rattle.sm_model.specs.GraphView.{entries_of, maps_of}
use Rattle.sm_rules.specs.Traits.{HasExclusiveTraits}
use Rattle.sm_rules.specs.declared.rule.Rule.TheVariants.{TraitConflict}
use Rattle.sm_passes.proofs.Numbered.{puts_numbers}
use Rattle.sm_trait_rules.proofs.exclusive.put_exclusive.Goals as goal

pub returns : goal.returns
returns c =
    puts_numbers c.args.graph.now TraitConflict (HasExclusiveTraits (maps_of c.args.graph.now)) (λ id detail h. (_, h.own.0))
    (length (entries_of c.args.graph.now)) (omega arith) c.args.events.now.items c.put_outside.new.events.items c.in_ok-put_outside.ensures
