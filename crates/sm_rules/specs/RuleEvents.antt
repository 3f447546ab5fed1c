-- The events that rules tell of the shapes and members of a graph.
use Rattle.std.specs.Prelude.{◌≡◌, ℕ, List}
use Rattle.std.specs.List.{Contains}
use Rattle.sm_model.specs.EventView.{EventTold, events_view}
use Rattle.sm_model.specs.declared.event.ModelEvent.{ModelEvent}
use Rattle.sm_model.specs.Joins.{Joins}
use Rattle.sm_rules.specs.RuleList.{rule_id, severity_of}
use Rattle.sm_rules.specs.declared.rule.Rule.{Rule}

-- an event of a rule at a shape or member
abbrev pub rule_event : Rule → List ℕ → List ℕ → EventTold
rule_event rule id detail = record { shape = id; event = rule_id rule; detail = detail }

-- what a rule tells: where it fails, with its detail
abbrev pub RuleFails : Type 1
RuleFails = List ℕ → List ℕ → Type 0

abbrev pub IsEventOf : Rule → RuleFails → EventTold → Type 0
IsEventOf rule Fails e = (id detail : List ℕ) × Fails id detail × (e ≡ rule_event rule id detail)

-- those at one shape or member
abbrev pub IsEventAt : Rule → RuleFails → List ℕ → EventTold → Type 0
IsEventAt rule Fails id e = (detail : List ℕ) × Fails id detail × (e ≡ rule_event rule id detail)

-- each event is as grave as its rule
abbrev pub HasItsSeverity : ModelEvent → Type 0
HasItsSeverity e = (rule : Rule) × (e.id ≡ rule_id rule) × (e.severity ≡ severity_of rule)

abbrev pub HaveSeverities : List ModelEvent → Type 0
HaveSeverities es = (e : ModelEvent) → Contains es e → HasItsSeverity e

-- exactly these events were put, in any order, and any number of times
pub record Puts (Told : EventTold → Type 0) (before now : List ModelEvent) : Type 0 where
  pub told : Joins (Contains (events_view before)) Told (Contains (events_view now))
  pub severities : HaveSeverities before → HaveSeverities now

-- those told of members of one shape: the home of what fails
abbrev pub IsEventIn : Rule → (Fails : RuleFails) → ((id detail : List ℕ) → Fails id detail → List ℕ) → List ℕ → EventTold → Type 0
IsEventIn rule Fails home shape e =
    (id detail : List ℕ) × (h : Fails id detail) × (home id detail h ≡ shape) × (e ≡ rule_event rule id detail)
