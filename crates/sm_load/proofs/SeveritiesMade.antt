-- Events with the severities that they have: errors, and events of rules.
use Rattle.std.proofs.Common.{◌≡◌, List, [], ◌∷◌, map, refl, sym, ap, ◌∙◌, subst}
use Rattle.sm_model.specs.EventView.{AreErrors, EventTold, events_view}
use Rattle.sm_model.specs.Graphs.{GraphMaps}
use Rattle.sm_model.specs.declared.event.ModelEvent.{ModelEvent}
use Rattle.sm_model.specs.declared.event.Severity.{Severity}
use Rattle.sm_model.specs.declared.event.Severity.TheVariants.{Error}
use Rattle.sm_compile.proofs.TabledShapes.{mapped_from}
use Rattle.sm_rules.specs.RuleList.{rule_id}
use Rattle.sm_load.specs.Events.{AreEvents, AreModelEvents}
use Rattle.sm_load.proofs.SeveritiesTold.{made_event, of_rule, severity_from}

made_view : (grave : EventTold → Severity) (es : List EventTold) → events_view (map (λ t. made_event (grave t) t) es) ≡ es
made_view grave [] = refl
made_view grave (e ∷ es) = ap (λ fs. e ∷ fs) (made_view grave es)

abbrev pub made_errors : List EventTold → List ModelEvent
made_errors es = map (λ t. made_event Error t) es

abbrev pub made_rules : List EventTold → List ModelEvent
made_rules es = map (λ t. made_event (severity_from t.event) t) es

pub same_errors : (es : List EventTold) → events_view (made_errors es) ≡ es
same_errors es = made_view (λ t. Error) es

pub errors_made : (es : List EventTold) → AreErrors (made_errors es)
errors_made [] = tt
errors_made (e ∷ es) = (refl, errors_made es)

pub rules_made : (g : GraphMaps) (es : List EventTold) → AreEvents g es → AreModelEvents g (made_rules es)
rules_made g es are = record {
  events = subst (AreEvents g) (sym (made_view (λ t. severity_from t.event) es)) are;
  severities = λ e there.
      let made = mapped_from (λ t. made_event (severity_from t.event) t) es e there in
      let told = (are.all made.0).0 made.1 in
      let fails = told.1.fails in
      let id : made.0.event ≡ rule_id told.0 = ap (λ (x : EventTold). x.event) fails.3 in (
        told.0,
        sym (ap (λ (x : ModelEvent). x.id) made.2) ∙ id,
        sym (ap (λ (x : ModelEvent). x.severity) made.2) ∙ ap severity_from id ∙ of_rule told.0,
      );
}
