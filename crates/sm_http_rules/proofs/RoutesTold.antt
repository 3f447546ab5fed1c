-- What is told of operations with one route in a closure is what the rule says.
use Rattle.std.proofs.Common.{◌≡◌, ◌<◌, ℕ, Bool, true, List, Option, None, Some, get_or, refl, sym, ◌∙◌, subst}
use Rattle.std.specs.Prelude.{◌↔◌}
use Rattle.std.proofs.lemmas.Option.{none-some}
use Rattle.std.specs.List.{Contains}
use Rattle.sm_model.specs.EventView.{EventTold}
use Rattle.sm_model.specs.Graphs.{text_cmp, shape_entry, GraphMaps}
use Rattle.sm_model.specs.GraphView.{IsShapeNumber, maps_of}
use Rattle.sm_model.specs.Reaching.{IsMarked, id_of_number}
use Rattle.sm_model.specs.declared.event.ModelEvent.{ModelEvent}
use Rattle.sm_model.specs.declared.graph.Graph.{Graph}
use Rattle.sm_model.proofs.NumberedIds.{number_of}
use Rattle.sm_rules.specs.Http.{HasSameRoute, method_of}
use Rattle.sm_rules.specs.Words.{IsInClosure, IsService}
use Rattle.sm_rules.specs.RuleEvents.{IsEventIn, IsEventOf, Puts, rule_event}
use Rattle.sm_rules.specs.declared.rule.Rule.TheVariants.{HttpRoutes}
use Rattle.sm_passes.specs.Closures.{AreInsideOf, AreOwnServices, ToldOfServices}
use Rattle.sm_passes.specs.Putting.{ToldOf}
use Rattle.sm_passes.specs.Owned.{is_own_service}
use Rattle.sm_passes.proofs.EventsPut.{puts_none, puts_same}
use Rattle.sm_passes.proofs.IdsRise.{falling, rising}
use Rattle.sm_passes.proofs.OwnServices.{own_service, service_own}
use Rattle.sm_http_rules.specs.steps.Routes.{IsRouteKey, closure_of_route, key_of}
use Rattle.sm_http_rules.specs.steps.SameRoutes.{AreSameRoutes, HasRoute, ToldOfNumbers}
use Rattle.sm_http_rules.proofs.RouteKeys.{keys_same, one_key, same_keys}

-- two that have one route have one key
same_key : (g : GraphMaps) (operation smaller : List ℕ) (h : HasSameRoute g operation smaller)
    → key_of h.u (method_of g operation) ≡ key_of h.v (method_of g smaller)
same_key g operation smaller h =
    same_keys h.u h.v h.uri.spells.is_uri h.smaller_uri.spells.is_uri (method_of g operation) (method_of g smaller) h.same h.methods

module _ (g : Graph) where
  abbrev m : GraphMaps
  m = maps_of g

  -- what is told of a service
  abbrev pub ToldAt : ℕ → EventTold → Type 0
  ToldAt k e = IsEventIn HttpRoutes (HasSameRoute m) (closure_of_route m) (id_of_number g k) e

  -- all that the rule tells is told of services
  pub services_told : (a b : List ModelEvent) → Puts (ToldOfServices g ToldAt) a b → Puts (IsEventOf HttpRoutes (HasSameRoute m)) a b
  services_told a b h =
      puts_same (ToldOfServices g ToldAt) (IsEventOf HttpRoutes (HasSameRoute m)) a b
      (λ e. (λ t. let u = t.2 in (u.0, u.1, u.2, u.4), λ t. at e t.0 t.1 t.2 t.3)) h
    where
      at : (e : EventTold) (operation smaller : List ℕ) (h : HasSameRoute m operation smaller) → e ≡ rule_event HttpRoutes operation smaller
          → ToldOfServices g ToldAt e
      at e operation smaller h is =
          let n = number_of g h.service (shape_entry h.inside.0.0, h.inside.0.1.0) in
          let own : is_own_service m (id_of_number g n.0) ≡ true =
          service_own m (id_of_number g n.0) (subst (IsService m) (sym n.2) h.inside.0) in
          (n.0, (n.1, own), (operation, smaller, h, sym n.2, is))

  module _ (operation smaller : List ℕ) (h : HasSameRoute m operation smaller) where
    abbrev first : (n : ℕ) × IsShapeNumber g n × (id_of_number g n ≡ operation)
    first = number_of g operation (shape_entry h.uri.is_operation.0, h.uri.is_operation.1.0)

    abbrev second : (n : ℕ) × IsShapeNumber g n × (id_of_number g n ≡ smaller)
    second = number_of g smaller (shape_entry h.smaller_uri.is_operation.0, h.smaller_uri.is_operation.1.0)

    abbrev key : List ℕ
    key = key_of h.u (method_of m operation)

    less : second.0 < first.0
    less = falling g second.0 first.0 second.1 first.1 ((λ i. text_cmp (second.2 i) (first.2 i)) ∙ h.order)

    first_has : HasRoute g first.0 key
    first_has = (first.1, subst (λ id. IsRouteKey m id key) (sym first.2) (h.u, h.uri, refl))

    second_has : HasRoute g second.0 key
    second_has = (second.1, subst (λ id. IsRouteKey m id key) (sym second.2) (h.v, h.smaller_uri, same_key m operation smaller h))

    told_there : (e : EventTold) → e ≡ rule_event HttpRoutes operation smaller
        → e ≡ rule_event HttpRoutes (id_of_number g first.0) (id_of_number g second.0)
    told_there e is = is ∙ (λ i. rule_event HttpRoutes (sym first.2 i) (sym second.2 i))

  module _ (firsts : List (Option ℕ)) (are : AreSameRoutes g firsts) where
    -- where no two operations have one route, no closure has two
    pub none_told : ((k : ℕ) → get_or firsts k None ≡ None) → (es : List ModelEvent)
        → Puts (IsEventOf HttpRoutes (HasSameRoute m)) es es
    none_told none es =
        puts_none (IsEventOf HttpRoutes (HasSameRoute m)) es
        (λ e t.
        let h = t.2 in
        let two = are.all (key t.0 t.1 h) (second t.0 t.1 h).0 (first t.0 t.1 h).0 (less t.0 t.1 h) (second_has t.0 t.1 h)
        (first_has t.0 t.1 h) in
        none-some two.0 (sym (none (second t.0 t.1 h).0) ∙ two.1))

    pub number_there : (k one : ℕ) → get_or firsts k None ≡ Some one → IsShapeNumber g k
    number_there k one is = (are.one k one is).1.0

    -- of services whose closure has these numbers
    module _ (ks : List ℕ) (own : AreOwnServices g ks) (marks : List Bool) (inside : AreInsideOf g ks marks) (numbers : List ℕ)
        (found : (k : ℕ) → Contains numbers k ↔ IsMarked marks k) where
      in_closure : (s n : ℕ) → Contains ks s → Contains numbers n → IsInClosure m (id_of_number g s) (id_of_number g n)
      in_closure s n at there = (
        own_service m (id_of_number g s) (own s at).1,
        (((inside.1 s at).marked n).0 ((found n).0 there)).1,
      )

      is_found : (s n : ℕ) → Contains ks s → IsShapeNumber g n → IsInClosure m (id_of_number g s) (id_of_number g n) → Contains numbers n
      is_found s n at within there = (found n).1 (((inside.1 s at).marked n).1 (within, there.1))

      forth : (s : ℕ) → Contains ks s → (e : EventTold) → ToldOfNumbers g firsts numbers e → ToldOf ToldAt ks e
      forth s at e (j, k, one, at_j, at_k, is_j, is_k, (small, is)) =
          let of_j = are.one j one is_j in
          let of_k = are.one k one is_k in
          let v = of_j.1.1 in
          let u = of_k.1.1 in
          let within = of_k.1.0 in
          let same = one_key m (id_of_number g one) of_k.0 of_j.0 of_k.2.1 of_j.2.1 in
          let route = keys_same u.0 v.0 u.1.spells.is_uri v.1.spells.is_uri (method_of m (id_of_number g k))
          (method_of m (id_of_number g j)) (sym u.2 ∙ same ∙ v.2) in (
            s,
            at,
            (
              id_of_number g k,
              id_of_number g j,
              record {
                service = id_of_number g s;
                inside = in_closure s k at at_k;
                smaller_inside = in_closure s j at at_j;
                order = rising g j k small within;
                u = u.0;
                uri = u.1;
                v = v.0;
                smaller_uri = v.1;
                same = route.0;
                methods = route.1;
              },
              refl {a = id_of_number g s},
              is,
            ),
          )

      back : (e : EventTold) → ToldOf ToldAt ks e → ToldOfNumbers g firsts numbers e
      back e (s, at, (operation, smaller, h, home, is)) =
          let k = first operation smaller h in
          let j = second operation smaller h in
          let two = are.all (key operation smaller h) j.0 k.0 (less operation smaller h) (second_has operation smaller h)
          (first_has operation smaller h) in (
            j.0,
            k.0,
            two.0,
            is_found s j.0 at j.1 (here smaller j.0 j.2 h.smaller_inside),
            is_found s k.0 at k.1 (here operation k.0 k.2 h.inside),
            two.1,
            two.2,
            (less operation smaller h, told_there operation smaller h e is),
          )
        where
          here : (id : List ℕ) (n : ℕ) → id_of_number g n ≡ id → IsInClosure m h.service id
              → IsInClosure m (id_of_number g s) (id_of_number g n)
          here id n same there =
              subst (λ i. IsInClosure m (id_of_number g s) i) (sym same) (subst (λ i. IsInClosure m i id) home there)

      pub routes_put : (s : ℕ) → Contains ks s → (a b : List ModelEvent) → Puts (ToldOfNumbers g firsts numbers) a b
          → Puts (ToldOf ToldAt ks) a b
      routes_put s at a b h =
          puts_same (ToldOfNumbers g firsts numbers) (ToldOf ToldAt ks) a b (λ e. (forth s at e, back e)) h
