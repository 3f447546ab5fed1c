-- Traits of which one at most may stand, from the tests of each group of the table.
use Rattle.std.proofs.Common.{◌≡◌, ◌⊎◌, inl, inr, ℕ, Bool, true, false, List, [], ◌∷◌, refl, sym, ap, ◌∙◌, subst}
use Rattle.std.specs.Prelude.{◌&&◌, ◌||◌, is_some}
use denote.Ref.{Bor}
use Rattle.std.specs.List.{Contains, list_any}
use Rattle.std.specs.Ordering.{is_lt}
use Rattle.std.proofs.lemmas.List.Elements.{Contains-append_right}
use Rattle.sm_model.specs.EventView.{EventTold}
use Rattle.sm_model.specs.Graphs.{text_cmp, Entry, GraphMaps, traits_in}
use Rattle.sm_model.specs.declared.event.ModelEvent.{ModelEvent}
use Rattle.sm_model.proofs.OneRising.{contains_behind, contains_either, contains_head, contains_none}
use Rattle.sm_model.proofs.Searching.{and_left, and_right, less_from}
use Rattle.sm_compile.specs.Sound.{trait_in}
use Rattle.sm_compile.specs.TraitIds.{binding_ids}
use Rattle.sm_rules.specs.Traits.{HasExclusiveTraits, exclusive_traits}
use Rattle.sm_rules.specs.Words.{IsOwn, has_trait}
use Rattle.sm_compile.specs.steps.Naming.{texts_of_all}
use Rattle.sm_compile.proofs.TabledShapes.{mapped_from, mapped_to}
use Rattle.sm_rules.specs.RuleEvents.{IsEventAt, Puts, rule_event}
use Rattle.sm_rules.specs.declared.rule.Rule.TheVariants.{TraitConflict}
use Rattle.sm_passes.specs.Carrying.{carries}
use Rattle.sm_trait_rules.specs.steps.Excluding.{ToldGreater, is_greater, is_smaller, of_methods, of_sides}
use Rattle.sm_passes.specs.Putting.{ToldOf}
use Rattle.sm_passes.proofs.EventsPut.{puts_both, puts_same}
use Rattle.sm_trait_rules.proofs.Singles.{any_split}

-- one of these passes
any_of : (p : List ℕ → Bool) (xs : List (List ℕ)) (y : List ℕ) → Contains xs y → p y ≡ true → list_any p xs ≡ true
any_of p [] y c h = absurd (contains_none y c)
any_of p (x ∷ xs) y c h = elim (contains_either x y xs c) [
  | inl same ↦ ap (λ b. b || list_any p xs) (ap p same ∙ h)
  | inr later ↦ either (p x) (any_of p xs y later h)
]
  where
    either : (b : Bool) → list_any p xs ≡ true → (b || list_any p xs) ≡ true
    either true k = refl
    either false k = k

module _ (g : GraphMaps) (id : List ℕ) where
  carried_there : (e : Entry) → IsOwn g id e → (trait : List ℕ) → carries g trait id ≡ has_trait trait (traits_in e)
  carried_there e own trait = ap (λ o. is_some (trait_in trait o)) own.0

  module _ (group : List (List ℕ)) (names : List (Bor (List ℕ))) (same : texts_of_all names ≡ group) where
    group_forth : (e : Entry) → IsOwn g id e → Contains exclusive_traits group → (t : EventTold) → ToldOf (ToldGreater g id group) names t
        → IsEventAt TraitConflict (HasExclusiveTraits g) id t
    group_forth e own is_group t (x, c, w) =
        let p = is_smaller g id x.now in
        let some = any_split p group (and_right (carries g x.now id) (list_any p group) w.0) in
        let other = some.1 in
        let among : Contains group other = subst (λ xs. Contains xs other) (sym some.3)
        (Contains-append_right some.0 (other ∷ some.2) other (contains_head other some.2)) in (
          x.now,
          record {
            e = e;
            own = own;
            group = group;
            is_group = is_group;
            smaller = other;
            both = (among, subst (λ xs. Contains xs x.now) same (mapped_to (λ (y : Bor (List ℕ)). y.now) names x c));
            smaller_there = sym (carried_there e own other) ∙ and_right (is_lt (text_cmp other x.now)) (carries g other id) some.4;
            greater_there = sym (carried_there e own x.now) ∙ and_left (carries g x.now id) (list_any p group) w.0;
            order = less_from (text_cmp other x.now) (and_left (is_lt (text_cmp other x.now)) (carries g other id) some.4);
          },
          w.1,
        )

    group_back : (t : EventTold) (detail : List ℕ) (h : HasExclusiveTraits g id detail) → h.group ≡ group
        → t ≡ rule_event TraitConflict id detail
        → ToldOf (ToldGreater g id group) names t
    group_back t detail h here is =
        let greater : Contains group detail = subst (λ xs. Contains xs detail) here h.both.1 in
        let smaller : Contains group h.smaller = subst (λ xs. Contains xs h.smaller) here h.both.0 in
        let x = mapped_from (λ (y : Bor (List ℕ)). y.now) names detail (subst (λ xs. Contains xs detail) (sym same) greater) in
        let a : carries g detail id ≡ true = carried_there h.e h.own detail ∙ h.greater_there in
        let b : carries g h.smaller id ≡ true = carried_there h.e h.own h.smaller ∙ h.smaller_there in
        let c : is_smaller g id detail h.smaller ≡ true = λ i. is_lt (h.order i) && b i in
        let d : list_any (is_smaller g id detail) group ≡ true = any_of (is_smaller g id detail) group h.smaller smaller c in
        let e : is_greater g id group detail ≡ true = λ i. a i && d i in
        (x.0, x.1, (ap (is_greater g id group) x.2 ∙ e, is ∙ ap (rule_event TraitConflict id) (sym x.2)))

  -- what is told of the three groups is what the rule says
  pub exclusive_put : (e : Entry) → IsOwn g id e → (methods sides bindings : List (Bor (List ℕ))) → texts_of_all methods ≡ of_methods
      → texts_of_all sides ≡ of_sides → texts_of_all bindings ≡ binding_ids → (a b c d : List ModelEvent)
      → Puts (ToldOf (ToldGreater g id of_methods) methods) a b → Puts (ToldOf (ToldGreater g id of_sides) sides) b c
      → Puts (ToldOf (ToldGreater g id binding_ids) bindings) c d → Puts (IsEventAt TraitConflict (HasExclusiveTraits g) id) a d
  exclusive_put e own methods sides bindings m s b p q r t k1 k2 k3 =
      puts_same
      (λ x. ToldOf (ToldGreater g id of_methods) methods x ⊎ (ToldOf (ToldGreater g id of_sides) sides x
      ⊎ ToldOf (ToldGreater g id binding_ids) bindings x))
      (IsEventAt TraitConflict (HasExclusiveTraits g) id) p t (λ x. (forth x, back x)) (puts_both _ _ p q t k1 (puts_both _ _ q r t k2 k3))
    where
      first : Contains exclusive_traits of_methods
      first = contains_head of_methods (of_sides ∷ binding_ids ∷ [])

      second : Contains exclusive_traits of_sides
      second = contains_behind of_methods of_sides (of_sides ∷ binding_ids ∷ []) (contains_head of_sides (binding_ids ∷ []))

      third : Contains exclusive_traits binding_ids
      third =
          contains_behind of_methods binding_ids (of_sides ∷ binding_ids ∷ [])
          (contains_behind of_sides binding_ids (binding_ids ∷ []) (contains_head binding_ids []))

      forth : (x : EventTold)
          → (ToldOf (ToldGreater g id of_methods) methods x ⊎ (ToldOf (ToldGreater g id of_sides) sides x
          ⊎ ToldOf (ToldGreater g id binding_ids) bindings x))
          → IsEventAt TraitConflict (HasExclusiveTraits g) id x
      forth x (inl h) = group_forth of_methods methods m e own first x h
      forth x (inr (inl h)) = group_forth of_sides sides s e own second x h
      forth x (inr (inr h)) = group_forth binding_ids bindings b e own third x h

      back : (x : EventTold) → IsEventAt TraitConflict (HasExclusiveTraits g) id x
          → (ToldOf (ToldGreater g id of_methods) methods x ⊎ (ToldOf (ToldGreater g id of_sides) sides x
          ⊎ ToldOf (ToldGreater g id binding_ids) bindings x))
      back x (detail, h, is) = elim (contains_either of_methods h.group (of_sides ∷ binding_ids ∷ []) h.is_group) [
        | inl here ↦ inl (group_back of_methods methods m x detail h (sym here) is)
        | inr more ↦ elim (contains_either of_sides h.group (binding_ids ∷ []) more) [
          | inl here ↦ inr (inl (group_back of_sides sides s x detail h (sym here) is))
          | inr last ↦ elim (contains_either binding_ids h.group [] last) [
            | inl here ↦ inr (inr (group_back binding_ids bindings b x detail h (sym here) is))
            | inr none ↦ absurd (contains_none h.group none)
          ]
        ]
      ]
