-- It can't be that a graph has no list of events: few events are told, and those that are told are put into order.
use Rattle.std.proofs.Common.{◌≡◌, inl, inr, ℕ, List, [], Some}
use Rattle.std.specs.List.{Contains}
use Rattle.sm_tree.specs.Node.{Node}
use Rattle.sm_model.specs.EventView.{EventTold}
use Rattle.sm_model.specs.Graphs.{GraphMaps, member_entry, shape_entry}
use Rattle.sm_merge.proofs.OneList.{each_has, has_each}
use Rattle.sm_merge.proofs.SomeEvents.{AreSome, some_of}
use Rattle.sm_compile.specs.Sound.{trait_of}
use Rattle.sm_rules.specs.Constraints.{HasWrongBounds, HasWrongEnum}
use Rattle.sm_rules.specs.Http.{HasNoUri, HasSameRoute, HasWrongLabel, HasWrongStatusCode, IsBoundWrongly, HasOtherMethod}
use Rattle.sm_rules.specs.Names.{RepeatsName, HasCaseTwin}
use Rattle.sm_rules.specs.Services.{HasWrongNames}
use Rattle.sm_rules.specs.Targets.{RefersToNothing, RefersToOther}
use Rattle.sm_rules.specs.Traits.{CarriesTwice, HasUnknownTrait}
use Rattle.sm_rules.specs.WireNames.{HasWireNameAgain}
use Rattle.sm_rules.specs.RuleEvents.{IsEventOf, RuleFails, rule_event}
use Rattle.sm_rules.specs.Shapes.{IsUnused, HasNoFinite}
use Rattle.sm_rules.specs.RuleList.{all_rules}
use Rattle.sm_rules.specs.declared.rule.Rule.{Rule}
use Rattle.sm_rules.specs.declared.rule.Rule.TheVariants as rule
use Rattle.sm_rules.proofs.AllRules.{each_listed}
use Rattle.sm_http_rules.proofs.HttpCodes.{code_there}
use Rattle.sm_trait_rules.proofs.UnknownTraits.{unknown_there}
use Rattle.sm_value_rules.proofs.WrongBounds.{bounds_there}
use Rattle.sm_name_rules.proofs.NamesTold.{names_there}
use Rattle.sm_rules.specs.TraitShapes.{HasWrongPlace, HasWrongValue, HasConflict}
use Rattle.sm_rules.specs.Defaults.{HasWrongDefault}
use Rattle.sm_load.specs.Events.{AreEvents, IsTold}
use Rattle.sm_load.specs.Laws.{SomeRuleEvents}
use Rattle.sm_rules.specs.Rules.{Fails}
use Rattle.sm_load.proofs.Few.{AreFew, few_among, few_by, few_is, few_same}
use Rattle.sm_load.proofs.FewDetails.{few_again, few_bounds, few_carried, few_codes, few_empty, few_labels, few_methods, few_missing}
use Rattle.sm_load.proofs.FewDetails.{few_others, few_repeats, few_routes, few_single, few_twins, few_wrong_names, listed, operation_there}
use Rattle.sm_load.proofs.FewIds.{IsSubject, carrier_there, few_subjects, trait_there}
use Rattle.sm_load.proofs.FewWords.{few_bound, few_fault_words}

-- the events of a rule that speaks of few ids, and tells few details of each
few_told : (r : Rule) (F : RuleFails) (S : List ℕ → Type 0) → AreFew S → ((id detail : List ℕ) → F id detail → S id)
    → ((id : List ℕ) → AreFew (F id)) → AreFew (IsEventOf r F)
few_told r F S some speaks few =
    few_same (λ e. (id : List ℕ) × S id × ((detail : List ℕ) × F id detail × (e ≡ rule_event r id detail))) (IsEventOf r F)
    (λ e (id, detail, fails, is). (id, speaks id detail fails, (detail, fails, is)))
    (few_by S (λ id e. (detail : List ℕ) × F id detail × (e ≡ rule_event r id detail)) some
    (λ id. few_by (F id) (λ detail e. e ≡ rule_event r id detail) (few id) (λ detail. few_is (rule_event r id detail))))

module _ (g : GraphMaps) where
  few_of : (r : Rule) (F : RuleFails) → ((id detail : List ℕ) → F id detail → IsSubject g id) → ((id : List ℕ) → AreFew (F id))
      → AreFew (IsEventOf r F)
  few_of r F speaks few = few_told r F (IsSubject g) (few_subjects g) speaks few

  -- what the rules of several cases speak of
  of_other : (id to : List ℕ) → RefersToOther g id to → IsSubject g id
  of_other id to (RefersToOther.by_member h) = inl (member_entry h.m, h.member.there)
  of_other id to (RefersToOther.by_body h) = inl (shape_entry h.s, h.own.0)

  of_enum : (id detail : List ℕ) → HasWrongEnum g id detail → IsSubject g id
  of_enum id detail (HasWrongEnum.has_none h is) = inl (shape_entry h.0, h.1.0)
  of_enum id detail (HasWrongEnum.wrong_value h is) = inr (listed g h.shape h.s h.before id h.behind)

  of_labels : (operation name : List ℕ) → HasWrongLabel g operation name → IsSubject g operation
  of_labels operation name (HasWrongLabel.no_member u input takes among none) = inl (operation_there g operation takes.uri.is_operation)
  of_labels operation name (HasWrongLabel.no_label u input takes has none) = inl (operation_there g operation takes.uri.is_operation)
  of_labels operation name (HasWrongLabel.not_required u input takes m has not) =
      inl (operation_there g operation takes.uri.is_operation)
  of_labels operation name (HasWrongLabel.greedy_target u input takes m has among wrong) =
      inl (operation_there g operation takes.uri.is_operation)

  of_wire : (id detail : List ℕ) → HasWireNameAgain g id detail → IsSubject g id
  of_wire id detail (HasWireNameAgain.header_again side shape s on h) = inr (listed g shape s h.before id h.behind)
  of_wire id detail (HasWireNameAgain.query_again shape s on h) = inr (listed g shape s h.before id h.behind)
  of_wire id detail (HasWireNameAgain.json_again shape s kind h) = inr (listed g shape s h.before id h.behind)
  of_wire id detail (HasWireNameAgain.has_prefix side shape s on h) =
      inr (shape, (shape_entry s, h.home.0), (s, h.home.0, h.among))

  -- and of a trait, the value that stands there
  placed : (id trait : List ℕ) → HasWrongPlace g id trait → (n : Node) × (trait_of g id trait ≡ Some n)
  placed id trait (HasWrongPlace.by_row h) = (h.n, h.carries.1)
  placed id trait (HasWrongPlace.by_shape h) = (h.n, h.carries.1)

  of_carrier : (id trait : List ℕ) → (n : Node) × (trait_of g id trait ≡ Some n) → IsSubject g id
  of_carrier id trait h = inl (carrier_there g id trait h.0 h.1)

  no_detail : (id detail : List ℕ) → HasWrongEnum g id detail → detail ≡ []
  no_detail id detail (HasWrongEnum.has_none h is) = is
  no_detail id detail (HasWrongEnum.wrong_value h is) = is

  valued : (id trait : List ℕ) → HasWrongValue g id trait → (n : Node) × (trait_of g id trait ≡ Some n)
  valued id trait (HasWrongValue.by_row h) = (h.n, h.carries.1)
  valued id trait (HasWrongValue.by_shape h) = (h.n, h.carries.1)

  excluded : (id trait : List ℕ) → HasConflict g id trait → (n : Node) × (trait_of g id trait ≡ Some n)
  excluded id trait (HasConflict.by_table h) = trait_there g id trait h.e h.own.0 h.greater_there
  excluded id trait (HasConflict.by_shape h) = trait_there g id trait h.e h.own.0 h.greater_there

  of_bound : (id detail : List ℕ) → IsBoundWrongly g id detail → IsSubject g id
  of_bound id detail (IsBoundWrongly.wrong_target binding h is) = inl (member_entry h.m, h.stands.member.there)
  of_bound id detail (IsBoundWrongly.beside_payload h is) = inl (member_entry h.m, h.stands.member.there)

  few_of_rule : (r : Rule) → AreFew (IsEventOf r (Fails r g))
  few_of_rule rule.IdCase = few_of rule.IdCase (HasCaseTwin g) (λ id detail h. inl (shape_entry h.s, h.own.0)) (few_twins g)
  few_of_rule rule.MemberCase =
      few_of rule.MemberCase (RepeatsName g) (λ id detail h. inr (listed g h.shape h.s h.before id h.behind)) (few_repeats g)
  few_of_rule rule.TargetMissing =
      few_of rule.TargetMissing (RefersToNothing g) (λ id detail h. inl (h.refers.e, h.refers.own.0)) (few_missing g)
  few_of_rule rule.TargetKind = few_of rule.TargetKind (RefersToOther g) of_other (few_others g)
  few_of_rule rule.TraitUnknown =
      few_of rule.TraitUnknown (HasUnknownTrait g) (λ id trait h. inl (unknown_there g id trait h))
      (λ id. few_carried g (HasUnknownTrait g id) id (λ trait h. (h.n, h.carries.1)))
  few_of_rule rule.TraitPlace =
      few_of rule.TraitPlace (HasWrongPlace g) (λ id trait h. of_carrier id trait (placed id trait h))
      (λ id. few_carried g (HasWrongPlace g id) id (placed id))
  few_of_rule rule.TraitSingle =
      few_of rule.TraitSingle (CarriesTwice g) (λ id detail h. inl (shape_entry h.s, h.behind.home.0)) (few_single g)
  few_of_rule rule.ShapeInfinite =
      few_of rule.ShapeInfinite (HasNoFinite g) (λ id detail h. inl (shape_entry h.s, h.own.0))
      (λ id. few_empty g (HasNoFinite g id) (λ detail h. h.detail_is))
  few_of_rule rule.EnumValues =
      few_of rule.EnumValues (HasWrongEnum g) of_enum (λ id. few_empty g (HasWrongEnum g id) (no_detail id))
  few_of_rule rule.ConstraintBounds =
      few_of rule.ConstraintBounds (HasWrongBounds g) (λ id detail h. inl (bounds_there g id detail h)) (few_bounds g)
  few_of_rule rule.ServiceNames =
      few_of rule.ServiceNames (HasWrongNames g) (λ id detail h. inl (names_there g id detail h)) (few_wrong_names g)
  few_of_rule rule.HttpUri =
      few_of rule.HttpUri (HasNoUri g) (λ id detail h. inl (operation_there g id h.is_operation))
      (λ id. few_empty g (HasNoUri g id) (λ detail h. h.detail_is))
  few_of_rule rule.HttpLabels = few_of rule.HttpLabels (HasWrongLabel g) of_labels (few_labels g)
  few_of_rule rule.WireNames = few_of rule.WireNames (HasWireNameAgain g) of_wire (few_again g)
  few_of_rule rule.HttpRoutes =
      few_of rule.HttpRoutes (HasSameRoute g) (λ id other h. inl (operation_there g id h.uri.is_operation)) (few_routes g)
  few_of_rule rule.HttpCode = few_of rule.HttpCode (HasWrongStatusCode g) (λ id detail h. inl (code_there g id detail h)) (few_codes g)
  few_of_rule rule.HttpMethod =
      few_of rule.HttpMethod (HasOtherMethod g) (λ id detail h. inl (operation_there g id h.is_operation)) (few_methods g)
  few_of_rule rule.ShapeUnused =
      few_of rule.ShapeUnused (IsUnused g) (λ id detail h. inl (shape_entry h.s, h.own.0))
      (λ id. few_empty g (IsUnused g id) (λ detail h. h.detail_is))
  few_of_rule rule.TraitValue =
      few_of rule.TraitValue (HasWrongValue g) (λ id trait h. of_carrier id trait (valued id trait h))
      (λ id. few_carried g (HasWrongValue g id) id (valued id))
  few_of_rule rule.TraitConflict =
      few_of rule.TraitConflict (HasConflict g) (λ id trait h. of_carrier id trait (excluded id trait h))
      (λ id. few_carried g (HasConflict g id) id (excluded id))
  few_of_rule rule.DefaultValue =
      few_of rule.DefaultValue (HasWrongDefault g) (λ id detail h. inl (member_entry h.m, h.member.there))
      (λ id. few_fault_words (HasWrongDefault g id) (λ detail h. (h.kind_of_first, h.detail_is)))
  few_of_rule rule.HttpTarget = few_of rule.HttpTarget (IsBoundWrongly g) of_bound (few_bound g)

  -- of all of them
  few_events : AreFew (IsTold g)
  few_events =
      few_same (λ e. (r : Rule) × Contains all_rules r × IsEventOf r (Fails r g) e) (IsTold g) (λ e told. (
        told.0,
        each_listed told.0,
        told.1.fails,
      ))
      (few_by (Contains all_rules) (λ r e. IsEventOf r (Fails r g) e) (few_among all_rules) few_of_rule)

  in_order : (cs : List EventTold) → AreSome (IsTold g) cs → ((e : EventTold) → IsTold g e → Contains cs e)
      → (es : List EventTold) × AreEvents g es
  in_order cs some all = (
    some.es,
    record {
      in_order = some.in_order;
      all = λ e. (
        λ among. some.holds e (has_each e some.es among),
        λ told. each_has e some.es (some.all e (has_each e cs (all e told)) told),
      );
    },
  )

  pub events_there : ((es : List EventTold) → AreEvents g es → ⊥) → ⊥
  events_there none =
      few_events (λ l. some_of (IsTold g) l.xs (λ some. let it = in_order l.xs some l.all in none it.0 it.1))

pub some_rule_events : SomeRuleEvents
some_rule_events g none = events_there g none
