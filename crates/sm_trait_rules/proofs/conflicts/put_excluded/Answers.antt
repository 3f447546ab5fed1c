use Rattle.std.proofs.Common.{length, refl, subst, sym, arith}
use Rattle.sm_model.specs.GraphView.{entries_of, maps_of}
use Rattle.sm_rules.specs.declared.rule.Rule.TheVariants.{TraitConflict}
use Rattle.sm_passes.proofs.Numbered.{puts_numbers}
use Rattle.sm_trait_rules.specs.steps.Conflicting.{AreExcluded}
use Rattle.sm_rules.specs.TraitShapes.{HasExcludedTrait}
use Rattle.sm_trait_rules.proofs.conflicts.put_excluded.Goals as goal

pub put_outside-requires : goal.put_outside-requires
put_outside-requires c = (refl, subst (AreExcluded c.args.graph.now) (sym c.as_slice.ensures.value) c.in_ok-sets.ensures)

pub returns : goal.returns
returns c =
    puts_numbers c.args.graph.now TraitConflict (HasExcludedTrait (maps_of c.args.graph.now)) (λ id detail h. (_, h.own.0))
    (length (entries_of c.args.graph.now)) (omega arith) c.args.events.now.items c.put_outside.new.events.items c.in_ok-put_outside.ensures
