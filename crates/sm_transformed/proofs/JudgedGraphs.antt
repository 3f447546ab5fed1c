-- A graph with its events is accepted, or one of them rejects it.
use Rattle.std.proofs.Common.{◌≡◌, ◌||◌, inl, inr, ℕ, Bool, true, false, List, [], ◌∷◌}
use Rattle.std.proofs.Common.{Option, Some, None, refl, sym, ap, ◌∙◌}
use Rattle.std.specs.List.{Contains}
use Rattle.std.proofs.lemmas.Bool.{true≢false}
use Rattle.sm_model.specs.EventView.{EventTold, event_view}
use Rattle.sm_model.specs.Graphs.{GraphMaps}
use Rattle.sm_model.specs.declared.event.ModelEvent.{ModelEvent}
use Rattle.sm_model.specs.declared.event.Severity.{Severity}
use Rattle.sm_model.specs.declared.event.Severity.TheVariants.{Error, Danger, Warning, Note}
use Rattle.sm_model.proofs.OneRising.{contains_behind, contains_either, contains_head, contains_none}
use Rattle.sm_compile.proofs.TabledShapes.{mapped_from, mapped_to}
use Rattle.sm_rules.specs.RuleEvents.{rule_event}
use Rattle.sm_rules.specs.RuleList.{is_error, rule_id, rule_named, severity_of}
use Rattle.sm_rules.specs.declared.rule.Rule.{Rule}
use Rattle.sm_rules.proofs.AllRules.{named}
use Rattle.sm_load.specs.Events.{AreModelEvents}
use Rattle.sm_load.specs.Loading.{HasError}
use Rattle.sm_transformed.specs.Transformed.{some_grave}

-- an event's severity is that of the rule of its id
abbrev severity_where : Option Rule → Severity
severity_where None = Error
severity_where (Some r) = severity_of r

of_rule : (r : Rule) → severity_where (rule_named (rule_id r)) ≡ severity_of r
of_rule r = ap severity_where (named r)

severity_same : (a b : Rule) → rule_id a ≡ rule_id b → severity_of a ≡ severity_of b
severity_same a b same = sym (of_rule a) ∙ ap (λ (id : List ℕ). severity_where (rule_named id)) same ∙ of_rule b

error_from : (s : Severity) → is_error s ≡ true → s ≡ Error
error_from Error h = refl
error_from Danger h = absurd (true≢false (sym h))
error_from Warning h = absurd (true≢false (sym h))
error_from Note h = absurd (true≢false (sym h))

-- an event that rejects
grave_there : (es : List ModelEvent) → some_grave es ≡ true → (e : ModelEvent) × Contains es e × (is_error e.severity ≡ true)
grave_there [] h = absurd (true≢false (sym h))
grave_there (e ∷ es) h = by (λ rest. grave_there es rest) (is_error e.severity) refl h
  where
    by : (some_grave es ≡ true → (x : ModelEvent) × Contains es x × (is_error x.severity ≡ true)) → (b : Bool)
        → is_error e.severity ≡ b → (b || some_grave es) ≡ true → (x : ModelEvent) × Contains (e ∷ es) x × (is_error x.severity ≡ true)
    by later true is h = (e, contains_head e es, is)
    by later false is h = let r = later h in (r.0, contains_behind e r.0 es r.1, r.2)

grave_from : (es : List ModelEvent) (e : ModelEvent) → Contains es e → is_error e.severity ≡ true → some_grave es ≡ true
grave_from [] e there is = absurd (contains_none e there)
grave_from (x ∷ es) e there is = elim (contains_either x e es there) [
  | inl same ↦ ap (λ (y : ModelEvent). is_error y.severity || some_grave es) same ∙ ap (λ b. b || some_grave es) is
  | inr later ↦ behind (is_error x.severity) (grave_from es e later is)
]
  where
    behind : (b : Bool) → some_grave es ≡ true → (b || some_grave es) ≡ true
    behind true h = refl
    behind false h = h

module _ (g : GraphMaps) (es : List ModelEvent) (are : AreModelEvents g es) where
  pub rejected_by : some_grave es ≡ true → HasError g
  rejected_by h =
      let e = grave_there es h in
      let told = (are.events.all (event_view e.0)).0 (mapped_to event_view es e.0 e.1) in
      let its = are.severities e.0 e.1 in
      let fails = told.1.fails in
      let same : rule_id told.0 ≡ rule_id its.0 = sym (ap (λ (x : EventTold). x.event) fails.3) ∙ its.1 in
      record {
        rule = told.0;
        id = fails.0;
        detail = fails.1;
        rejects = severity_same told.0 its.0 same ∙ sym its.2 ∙ error_from e.0.severity e.2;
        fails = fails.2;
      }

  pub rejects_none : some_grave es ≡ false → HasError g → ⊥
  rejects_none h error =
      let said : EventTold = rule_event error.rule error.id error.detail in
      let told = (are.events.all said).1
      (error.rule, record { fails = (error.id, error.detail, error.fails, refl); told = inl error.rejects }) in
      let e = mapped_from event_view es said told in
      let its = are.severities e.0 e.1 in
      let same : rule_id its.0 ≡ rule_id error.rule = sym its.1 ∙ ap (λ (x : EventTold). x.event) e.2 in
      true≢false (sym (grave_from es e.0 e.1
      (ap is_error (its.2 ∙ severity_same its.0 error.rule same ∙ error.rejects))) ∙ h)
