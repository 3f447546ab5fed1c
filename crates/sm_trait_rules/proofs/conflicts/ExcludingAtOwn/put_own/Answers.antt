use Rattle.std.proofs.Common.{◌≡◌, false, subst, sym}
use Rattle.sm_model.specs.GraphView.{IsShapeNumber, maps_of}
use Rattle.sm_model.specs.PreludeShapes.{is_prelude_id}
use Rattle.sm_model.specs.Reaching.{id_of_number}
use Rattle.sm_rules.specs.RuleEvents.{IsEventAt, Puts}
use Rattle.sm_rules.specs.declared.rule.Rule.TheVariants.{TraitConflict}
use Rattle.sm_trait_rules.specs.steps.Conflicting.{AreExcluded}
use Rattle.sm_rules.specs.TraitShapes.{HasExcludedTrait}
use Rattle.sm_trait_rules.proofs.conflicts.ExcludingAtOwn.put_own.Goals as goal

pub put_carried-requires-clause-number : goal.put_carried-requires-clause-number
put_carried-requires-clause-number c = subst (λ g. IsShapeNumber g c.args.number) (sym c.requires.knows.0) c.requires.number

pub put_carried-requires-clause-own : goal.put_carried-requires-clause-own
put_carried-requires-clause-own c =
    subst (λ g. is_prelude_id (id_of_number g c.args.number) ≡ false) (sym c.requires.knows.0)
    c.requires.own

pub put_carried-requires-clause-sets : goal.put_carried-requires-clause-sets
put_carried-requires-clause-sets c = subst (λ g. AreExcluded g c.args.self.now.sets.now) (sym c.requires.knows.0) c.requires.knows.1

pub returns : goal.returns
returns c =
    subst (λ g. Puts (IsEventAt TraitConflict (HasExcludedTrait (maps_of g)) (id_of_number g c.args.number)) c.args.events.now.items
    c.put_carried.new.events.items) c.requires.knows.0 c.in_ok-put_carried.ensures
