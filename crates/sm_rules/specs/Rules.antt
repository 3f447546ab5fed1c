-- The rules of models, by the names of their events, and what each says of a shape or member of a graph.
use Rattle.sm_model.specs.Graphs.{GraphMaps}
use Rattle.sm_rules.specs.Constraints.{HasWrongBounds, HasWrongEnum}
use Rattle.sm_rules.specs.Http.{HasNoUri, HasSameRoute, HasWrongLabel, HasWrongStatusCode, IsBoundWrongly, HasOtherMethod}
use Rattle.sm_rules.specs.Names.{RepeatsName, HasCaseTwin}
use Rattle.sm_rules.specs.Services.{HasWrongNames}
use Rattle.sm_rules.specs.Targets.{RefersToNothing, RefersToOther}
use Rattle.sm_rules.specs.Traits.{CarriesTwice, HasUnknownTrait}
use Rattle.sm_rules.specs.WireNames.{HasWireNameAgain}
use Rattle.sm_rules.specs.RuleEvents.{RuleFails}
use Rattle.sm_rules.specs.Shapes.{IsUnused, HasNoFinite}
use Rattle.sm_rules.specs.declared.rule.Rule.{Rule}
use Rattle.sm_rules.specs.declared.rule.Rule.TheVariants as rule
use Rattle.sm_rules.specs.TraitShapes.{HasConflict, HasWrongPlace, HasWrongValue}
use Rattle.sm_rules.specs.Defaults.{HasWrongDefault}

-- a rule fails at a shape or member, with this detail
abbrev pub Fails : Rule → GraphMaps → RuleFails
Fails rule.IdCase = HasCaseTwin
Fails rule.MemberCase = RepeatsName
Fails rule.TargetMissing = RefersToNothing
Fails rule.TargetKind = RefersToOther
Fails rule.TraitUnknown = HasUnknownTrait
Fails rule.TraitValue = HasWrongValue
Fails rule.TraitPlace = HasWrongPlace
Fails rule.TraitConflict = HasConflict
Fails rule.TraitSingle = CarriesTwice
Fails rule.ShapeInfinite = HasNoFinite
Fails rule.EnumValues = HasWrongEnum
Fails rule.DefaultValue = HasWrongDefault
Fails rule.ConstraintBounds = HasWrongBounds
Fails rule.ServiceNames = HasWrongNames
Fails rule.HttpUri = HasNoUri
Fails rule.HttpLabels = HasWrongLabel
Fails rule.HttpTarget = IsBoundWrongly
Fails rule.WireNames = HasWireNameAgain
Fails rule.HttpRoutes = HasSameRoute
Fails rule.HttpCode = HasWrongStatusCode
Fails rule.HttpMethod = HasOtherMethod
Fails rule.ShapeUnused = IsUnused
