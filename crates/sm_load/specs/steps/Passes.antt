-- The events of several rules, one after the other.
use Rattle.std.specs.Prelude.{List}
use Rattle.std.specs.List.{Contains}
use Rattle.sm_model.specs.EventView.{EventTold}
use Rattle.sm_model.specs.Graphs.{GraphMaps}
use Rattle.sm_rules.specs.RuleEvents.{IsEventOf}
use Rattle.sm_rules.specs.Rules.{Fails}
use Rattle.sm_rules.specs.declared.rule.Rule.{Rule}

-- an event of some rule that fails, whether or not it is suppressed
abbrev pub IsOfRule : GraphMaps → EventTold → Type 0
IsOfRule g e = (rule : Rule) × IsEventOf rule (Fails rule g) e

-- of one of these rules
pub record IsOfOne (g : GraphMaps) (rules : List Rule) (e : EventTold) : Type 0 where
  pub rule : Rule
  pub among : Contains rules rule
  pub told : IsEventOf rule (Fails rule g) e
