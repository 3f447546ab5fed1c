-- An event's id and shape and detail say all of it: its severity is that of the rule of this id.
use Rattle.std.proofs.Common.{◌≡◌, ℕ, List, [], ◌∷◌, Option, Some, None, map, refl, sym, ap, ◌∙◌}
use Rattle.sm_model.specs.EventView.{AreErrors, EventTold, event_view, events_view}
use Rattle.sm_model.specs.declared.event.ModelEvent.{ModelEvent}
use Rattle.sm_model.specs.declared.event.Severity.{Severity}
use Rattle.sm_model.specs.declared.event.Severity.TheVariants.{Error}
use Rattle.sm_model.proofs.OneRising.{contains_behind, contains_head}
use Rattle.sm_rules.specs.RuleEvents.{HaveSeverities}
use Rattle.sm_rules.specs.RuleList.{rule_id, rule_named, severity_of}
use Rattle.sm_rules.specs.declared.rule.Rule.{Rule}
use Rattle.sm_rules.proofs.AllRules.{named}

abbrev pub severity_where : Option Rule → Severity
severity_where None = Error
severity_where (Some r) = severity_of r

abbrev pub severity_from : List ℕ → Severity
severity_from event = severity_where (rule_named event)

pub of_rule : (r : Rule) → severity_from (rule_id r) ≡ severity_of r
of_rule r = ap severity_where (named r)

-- rules whose events have one id are as grave
pub severity_same : (a b : Rule) → rule_id a ≡ rule_id b → severity_of a ≡ severity_of b
severity_same a b same = sym (of_rule a) ∙ ap severity_from same ∙ of_rule b

-- events whose severities these are
abbrev pub made_event : Severity → EventTold → ModelEvent
made_event s e = record { id = e.event; severity = s; shape = e.shape; detail = e.detail }

module _ (grave : EventTold → Severity) where
  abbrev AreGrave : List ModelEvent → Type 0
  AreGrave [] = Unit {0}
  AreGrave (e ∷ es) = (e.severity ≡ grave (event_view e)) × AreGrave es

  made_again : (es : List ModelEvent) → AreGrave es → es ≡ map (λ t. made_event (grave t) t) (events_view es)
  made_again [] h = refl
  made_again (e ∷ es) h = λ i. made_event (h.0 i) (event_view e) ∷ made_again es h.1 i

  one_of_view : (es fs : List ModelEvent) → AreGrave es → AreGrave fs → events_view es ≡ events_view fs → es ≡ fs
  one_of_view es fs h k same = made_again es h ∙ ap (map (λ t. made_event (grave t) t)) same ∙ sym (made_again fs k)

-- errors, and events of rules
errors_grave : (es : List ModelEvent) → AreErrors es → AreGrave (λ e. Error) es
errors_grave [] h = tt
errors_grave (e ∷ es) h = (h.0, errors_grave es h.1)

rules_grave : (es : List ModelEvent) → HaveSeverities es → AreGrave (λ e. severity_from e.event) es
rules_grave [] h = tt
rules_grave (e ∷ es) h =
    let its = h e (contains_head e es) in (
      its.2 ∙ sym (of_rule its.0) ∙ ap severity_from (sym its.1),
      rules_grave es (λ f there. h f (contains_behind e f es there)),
    )

pub one_of_errors : (es fs : List ModelEvent) → AreErrors es → AreErrors fs → events_view es ≡ events_view fs → es ≡ fs
one_of_errors es fs h k = one_of_view (λ e. Error) es fs (errors_grave es h) (errors_grave fs k)

pub one_of_rules : (es fs : List ModelEvent) → HaveSeverities es → HaveSeverities fs → events_view es ≡ events_view fs → es ≡ fs
one_of_rules es fs h k = one_of_view (λ e. severity_from e.event) es fs (rules_grave es h) (rules_grave fs k)
