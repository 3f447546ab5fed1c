use Rattle.std.proofs.Common.{length, arith}
use Rattle.sm_model.specs.GraphView.{entries_of, maps_of}
use Rattle.sm_rules.specs.declared.rule.Rule.TheVariants.{TraitUnknown}
use Rattle.sm_rules.specs.Traits.{HasUnknownTrait}
use Rattle.sm_passes.proofs.Numbered.{puts_numbers}
use Rattle.sm_trait_rules.proofs.UnknownTraits.{unknown_there}
use Rattle.sm_trait_rules.proofs.unknown.put_unknown.Goals as goal

pub returns : goal.returns
returns c =
    puts_numbers c.args.graph.now TraitUnknown (HasUnknownTrait (maps_of c.args.graph.now)) (unknown_there (maps_of c.args.graph.now))
    (length (entries_of c.args.graph.now)) (omega arith) c.args.events.now.items c.put_outside.new.events.items c.in_ok-put_outside.ensures
