-- Where no rule fails that rejects a model, each shape is sound and each service ready.
use Rattle.std.proofs.Common.{◌≡◌, refl}
use Rattle.sm_model.specs.Graphs.{GraphMaps}
use Rattle.sm_model.specs.declared.event.Severity.TheVariants.{Error}
use Rattle.sm_rules.specs.RuleList.{severity_of}
use Rattle.sm_rules.specs.declared.rule.Rule.{Rule}
use Rattle.sm_rules.specs.declared.rule.Rule.TheVariants as rule
use Rattle.sm_rules.specs.TraitShapes.{by_table}
use Rattle.sm_rules.specs.TraitShapes.HasWrongPlace.{by_row as place_by_row}
use Rattle.sm_rules.specs.TraitShapes.HasWrongValue.{by_row as value_by_row}
use Rattle.sm_accepted.specs.NoneFails.{NeverFails, NoneFails}
use Rattle.sm_accepted.proofs.ReadyGraphs.{ready_graph, sound_graph}
use Rattle.sm_load.specs.Laws.{ReadyWithoutErrors, SoundWithoutErrors}
use Rattle.sm_load.specs.Loading.{HasError}
use Rattle.sm_rules.specs.Rules.{Fails}

module _ (g : GraphMaps) (none : HasError g → ⊥) where
  never : (r : Rule) → severity_of r ≡ Error → NeverFails g (Fails r)
  never r rejects id detail inside fails = none (record { rule = r; id = id; detail = detail; rejects = rejects; fails = fails })

  none_fails : NoneFails g
  none_fails = record {
    member_names = never rule.MemberCase refl;
    missing = never rule.TargetMissing refl;
    kinds = never rule.TargetKind refl;
    values = λ id detail inside h. never rule.TraitValue refl id detail inside (value_by_row h);
    places = λ id detail inside h. never rule.TraitPlace refl id detail inside (place_by_row h);
    exclusive = λ id detail inside h. never rule.TraitConflict refl id detail inside (by_table h);
    single = never rule.TraitSingle refl;
    enums = never rule.EnumValues refl;
    bounds = never rule.ConstraintBounds refl;
    names = never rule.ServiceNames refl;
    uris = never rule.HttpUri refl;
    labels = never rule.HttpLabels refl;
    parts = never rule.HttpTarget refl;
    wire_names = never rule.WireNames refl;
    routes = never rule.HttpRoutes refl;
    numbers = never rule.HttpCode refl;
  }

pub sound_without_errors : SoundWithoutErrors
sound_without_errors g formed none id = sound_graph g formed (none_fails g none) id

pub ready_without_errors : ReadyWithoutErrors
ready_without_errors g formed none service = ready_graph g formed (none_fails g none) service
