-- What is told of the `uri` and of the method of an operation.
use Rattle.std.proofs.Common.{◌≡◌, ℕ, List, [], Option, Some, None, refl, sym, ap, ◌∙◌, subst}
use Rattle.std.specs.Prelude.{codes, not}
use Rattle.std.proofs.lemmas.Option.{none-some, same_Some}
use Rattle.sm_tree.specs.Node.{Node}
use Rattle.sm_model.specs.EventView.{EventTold}
use Rattle.sm_model.specs.Graphs.{GraphMaps}
use Rattle.sm_model.specs.declared.event.ModelEvent.{ModelEvent}
use Rattle.sm_compile.specs.TraitNodes.{text_of}
use Rattle.sm_uri.specs.UriPattern.{IsUriText}
use Rattle.sm_rules.specs.Http.{HasNoUri, HasOtherMethod, is_routed}
use Rattle.sm_rules.specs.Words.{field_in}
use Rattle.sm_rules.specs.RuleEvents.{IsEventAt, Puts, rule_event}
use Rattle.sm_rules.specs.declared.rule.Rule.TheVariants.{HttpMethod, HttpUri}
use Rattle.sm_http_traits.specs.Http.{method_seen, uri_seen}
use Rattle.sm_http_traits.proofs.HttpSaid.{said_seen, seen_said}
use Rattle.sm_passes.specs.Putting.{IsUnless, IsWhere}
use Rattle.sm_passes.proofs.OwnShapes.{not_so}
use Rattle.sm_passes.proofs.EventsPut.{puts_none, puts_same}

-- the text of a field
abbrev pub field_text : List ℕ → Option Node → Option (List ℕ)
field_text name o = text_of (field_in name o)

module _ (g : GraphMaps) (id : List ℕ) where
  pub uri_put : (t : List ℕ) → Some t ≡ uri_seen g id → (a b : List ModelEvent)
      → Puts (IsUnless (IsUriText t) (rule_event HttpUri id [])) a b → Puts (IsEventAt HttpUri (HasNoUri g) id) a b
  uri_put t is a b h =
      puts_same (IsUnless (IsUriText t) (rule_event HttpUri id [])) (IsEventAt HttpUri (HasNoUri g) id) a b
      (λ e. (forth e, λ x. back e x.0 x.1 x.2)) h
    where
      forth : (e : EventTold) → IsUnless (IsUriText t) (rule_event HttpUri id []) e → IsEventAt HttpUri (HasNoUri g) id e
      forth e h =
          let said = seen_said g id (field_text (codes "uri")) refl t (sym is) in
          ([], record { is_operation = said.0; t = t; said = said.1; none = h.0; detail_is = refl }, h.1)

      back : (e : EventTold) (detail : List ℕ) → HasNoUri g id detail → e ≡ rule_event HttpUri id detail
          → IsUnless (IsUriText t) (rule_event HttpUri id []) e
      back e detail h told =
          let seen = said_seen g id (field_text (codes "uri")) refl h.t h.is_operation h.said in
          let same : t ≡ h.t = same_Some t h.t (is ∙ seen) in
          (subst (λ x. IsUriText x → ⊥) (sym same) h.none, told ∙ ap (rule_event HttpUri id) h.detail_is)

  pub no_uri : None ≡ uri_seen g id → (es : List ModelEvent) → Puts (IsEventAt HttpUri (HasNoUri g) id) es es
  no_uri is es =
      puts_none (IsEventAt HttpUri (HasNoUri g) id) es
      (λ e h. none-some h.1.t (is ∙ said_seen g id (field_text (codes "uri")) refl h.1.t h.1.is_operation h.1.said))

  pub method_put : (m : List ℕ) → Some m ≡ method_seen g id → (a b : List ModelEvent)
      → Puts (IsWhere (not (is_routed m)) (rule_event HttpMethod id m)) a b → Puts (IsEventAt HttpMethod (HasOtherMethod g) id) a b
  method_put m is a b h =
      puts_same (IsWhere (not (is_routed m)) (rule_event HttpMethod id m)) (IsEventAt HttpMethod (HasOtherMethod g) id) a b
      (λ e. (forth e, λ x. back e x.0 x.1 x.2)) h
    where
      forth : (e : EventTold) → IsWhere (not (is_routed m)) (rule_event HttpMethod id m) e → IsEventAt HttpMethod (HasOtherMethod g) id e
      forth e h =
          let said = seen_said g id (field_text (codes "method")) refl m (sym is) in
          (m, record { is_operation = said.0; said = said.1; other = not_so (is_routed m) h.0 }, h.1)

      back : (e : EventTold) (detail : List ℕ) → HasOtherMethod g id detail → e ≡ rule_event HttpMethod id detail
          → IsWhere (not (is_routed m)) (rule_event HttpMethod id m) e
      back e detail h told =
          let seen = said_seen g id (field_text (codes "method")) refl detail h.is_operation h.said in
          let same : m ≡ detail = same_Some m detail (is ∙ seen) in
          (ap (λ x. not (is_routed x)) same ∙ ap not h.other, told ∙ ap (rule_event HttpMethod id) (sym same))

  pub no_method : None ≡ method_seen g id → (es : List ModelEvent) → Puts (IsEventAt HttpMethod (HasOtherMethod g) id) es es
  no_method is es =
      puts_none (IsEventAt HttpMethod (HasOtherMethod g) id) es
      (λ e h. none-some h.0 (is ∙ said_seen g id (field_text (codes "method")) refl h.0 h.1.is_operation h.1.said))

pub unless_held : (holds : Type 0) (told : EventTold) (es : List ModelEvent) → holds → Puts (IsUnless holds told) es es
unless_held holds told es h = puts_none (IsUnless holds told) es (λ e u. u.0 h)

pub unless_put : (holds : Type 0) (told : EventTold) (a b : List ModelEvent) → (holds → ⊥) → Puts (λ e. e ≡ told) a b
    → Puts (IsUnless holds told) a b
unless_put holds told a b none h = puts_same (λ e. e ≡ told) (IsUnless holds told) a b (λ e. (λ is. (none, is), λ u. u.1)) h
