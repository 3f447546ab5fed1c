-- The events of a graph: all that fails and isn't suppressed (Smithy 2.0, "Model validation", section "Severity"). An event for which
-- the model is rejected is never suppressed.
use Rattle.std.specs.Prelude.{◌≡◌, ◌⊎◌, ◌↔◌, false, List}
use Rattle.std.specs.List.{Contains}
use Rattle.sm_model.specs.Graphs.{GraphMaps}
use Rattle.sm_model.specs.EventView.{EventTold, AreInOrder, events_view}
use Rattle.sm_model.specs.declared.event.ModelEvent.{ModelEvent}
use Rattle.sm_model.specs.declared.event.Severity.TheVariants.{Error}
use Rattle.sm_rules.specs.RuleEvents.{HaveSeverities, IsEventOf}
use Rattle.sm_rules.specs.RuleList.{severity_of}
use Rattle.sm_rules.specs.declared.rule.Rule.{Rule}
use Rattle.sm_rules.specs.Rules.{Fails}
use Rattle.sm_load.specs.Suppressions.{is_suppressed}

-- an event of a rule that fails, and isn't suppressed where it may be
pub record IsToldBy (g : GraphMaps) (rule : Rule) (e : EventTold) : Type 0 where
  pub fails : IsEventOf rule (Fails rule g) e
  pub told : (severity_of rule ≡ Error) ⊎ (is_suppressed g e.shape e.event ≡ false)

abbrev pub IsTold : GraphMaps → EventTold → Type 0
IsTold g e = (rule : Rule) × IsToldBy g rule e

-- exactly these, in order, each once
pub record AreEvents (g : GraphMaps) (es : List EventTold) : Type 0 where
  pub in_order : AreInOrder es
  pub all : (e : EventTold) → Contains es e ↔ IsTold g e

-- and each is as grave as its rule
pub record AreModelEvents (g : GraphMaps) (es : List ModelEvent) : Type 0 where
  pub events : AreEvents g (events_view es)
  pub severities : HaveSeverities es
