-- The list of the rules of models: the id of each one's events, and how grave they are. Which events may be suppressed follows from it.
use Rattle.std.specs.Prelude.{ℕ, Bool, true, false, not, List, [], ◌∷◌, Option, codes}
use Rattle.std.specs.List.{find}
use Rattle.std.specs.Str.{bytes_eq}
use Rattle.sm_model.specs.declared.event.Severity.{Severity}
use Rattle.sm_model.specs.declared.event.Severity.TheVariants.{Note, Warning, Danger, Error}
use Rattle.sm_rules.specs.declared.rule.Rule.{Rule}
use Rattle.sm_rules.specs.declared.rule.Rule.TheVariants as rule

-- all of them, in the order in which they are looked at
abbrev pub all_rules : List Rule
all_rules =
    rule.IdCase ∷ rule.MemberCase ∷ rule.TargetMissing ∷ rule.TargetKind ∷ rule.TraitUnknown ∷ rule.TraitValue ∷ rule.TraitPlace ∷
    rule.TraitConflict ∷ rule.TraitSingle ∷ rule.ShapeInfinite ∷ rule.EnumValues ∷ rule.DefaultValue ∷ rule.ConstraintBounds ∷
    rule.ServiceNames ∷ rule.HttpUri ∷ rule.HttpLabels ∷ rule.HttpTarget ∷ rule.WireNames ∷ rule.HttpRoutes ∷ rule.HttpCode ∷
    rule.HttpMethod ∷ rule.ShapeUnused ∷ []

-- what the list says of a rule
pub record RuleRow : Type 0 where
  pub id : List ℕ
  pub severity : Severity

abbrev row : List ℕ → Severity → RuleRow
row id severity = record { id = id; severity = severity }

abbrev pub rule_row : Rule → RuleRow
rule_row rule.IdCase = row (codes "Id.Case") Error
rule_row rule.MemberCase = row (codes "Member.Case") Error
rule_row rule.TargetMissing = row (codes "Target.Missing") Error
rule_row rule.TargetKind = row (codes "Target.Kind") Error
rule_row rule.TraitUnknown = row (codes "Trait.Unknown") Warning
rule_row rule.TraitValue = row (codes "Trait.Value") Error
rule_row rule.TraitPlace = row (codes "Trait.Place") Error
rule_row rule.TraitConflict = row (codes "Trait.Conflict") Error
rule_row rule.TraitSingle = row (codes "Trait.Single") Error
rule_row rule.ShapeInfinite = row (codes "Shape.Infinite") Error
rule_row rule.EnumValues = row (codes "Enum.Values") Error
rule_row rule.DefaultValue = row (codes "Default.Value") Error
rule_row rule.ConstraintBounds = row (codes "Constraint.Bounds") Error
rule_row rule.ServiceNames = row (codes "Service.Names") Error
rule_row rule.HttpUri = row (codes "Http.Uri") Error
rule_row rule.HttpLabels = row (codes "Http.Labels") Error
rule_row rule.HttpTarget = row (codes "Http.Target") Error
rule_row rule.WireNames = row (codes "Wire.Names") Error
rule_row rule.HttpRoutes = row (codes "Http.Routes") Error
rule_row rule.HttpCode = row (codes "Http.Code") Error
rule_row rule.HttpMethod = row (codes "Http.Method") Danger
rule_row rule.ShapeUnused = row (codes "Shape.Unused") Note

abbrev pub rule_id : Rule → List ℕ
rule_id r = (rule_row r).id

abbrev pub severity_of : Rule → Severity
severity_of r = (rule_row r).severity

-- the model is rejected
abbrev pub is_error : Severity → Bool
is_error Error = true
is_error Danger = false
is_error Warning = false
is_error Note = false

-- a rule's events may be suppressed, unless the model is rejected for them
abbrev pub may_be_suppressed : Rule → Bool
may_be_suppressed r = not (is_error (severity_of r))

-- the rule of an event's id
abbrev pub rule_named : List ℕ → Option Rule
rule_named id = find (λ r. bytes_eq id (rule_id r)) all_rules
