-- Files and a store come to one answer before a service that is compiled, or to one service: at each decision two go the same way.
use Rattle.std.proofs.Common.{◌≡◌, ℕ, List, Some, sym, ap, subst, ◌∙◌}
use Rattle.sm_model.specs.Graphs.{GraphMaps}
use Rattle.sm_asked_shape.specs.load.Laws.{ReadyModels}
use Rattle.sm_compile.specs.Compiled.{IsFirstCarrier}
use Rattle.sm_compile.proofs.OnePatterns.{one_first}
use Rattle.sm_rules.specs.Ready.{IsOfService}
use Rattle.sm_rules.specs.Words.{IsService}
use Rattle.sm_service.specs.Answers.{IsServiceSeen}
use Rattle.sm_service.specs.Laws.{OneService}
use Rattle.sm_service.specs.ServiceData.{ServiceData}
use Rattle.sm_asked_shape.specs.asked.Answer.{Answer, pattern_refused}
use Rattle.sm_asked_shape.specs.asked.Lines.{pattern_line}
use Rattle.sm_asked_shape.specs.asked.Loading.{Loaded}
use Rattle.sm_asked_shape.specs.asked.Stages.{Told}
use Rattle.sm_asked_shape.proofs.asked.ToldAll.{IsToldWhole}
use Rattle.sm_asked_service.specs.ServiceAnswers.{ServiceAnswers}
use Rattle.sm_asked_service.specs.ServiceAnswers.ServiceAnswers.{not_loaded, no_service, pattern}
use Rattle.sm_asked_service.specs.ServiceStages.{ServiceThere, ServiceMade}
use Rattle.sm_asked_service.proofs.ServicesMade.{pattern_within}

module _ (t : Told) (whole : IsToldWhole t) (names : List (List ℕ)) (service : List ℕ) where
  -- one graph: it has the service, or not
  graphs : (k l : Loaded t.files names) → Path GraphMaps k.graph l.graph
  graphs = whole.graphs names

  not_there : (loaded : Loaded t.files names) → (IsService loaded.graph service → ⊥) → ServiceThere t names service → ⊥
  not_there loaded none h = none (subst (λ g. IsService g service) (graphs h.loaded loaded) h.is)

  -- the store refuses a pattern of the service, or it is compiled
  not_made : (there : ServiceThere t names service) (u id : List ℕ) → t.refused ≡ Some u
      → IsFirstCarrier there.loaded.graph (IsOfService there.loaded.graph service) u id → ServiceMade t names service → ⊥
  not_made there u id is first h =
      h.free u is (pattern_within h.there.loaded.graph service t.test t.store h.now h.one h.compiled u id
      (subst (λ g. IsFirstCarrier g (IsOfService g service) u id) (graphs there.loaded h.there.loaded) first))

  id_same : (h i : ServiceThere t names service) (u v id id1 : List ℕ) → t.refused ≡ Some u → t.refused ≡ Some v
      → IsFirstCarrier h.loaded.graph (IsOfService h.loaded.graph service) u id
      → IsFirstCarrier i.loaded.graph (IsOfService i.loaded.graph service) v id1 → id ≡ id1
  id_same h i u v id id1 is is1 first first1 =
      let g = i.loaded.graph in
      let texts : u ≡ v = cc in
      one_first g (IsOfService g service) v id id1 (subst (λ x. IsFirstCarrier g (IsOfService g service) x id) texts
      (subst (λ x. IsFirstCarrier x (IsOfService x service) u id) (graphs h.loaded i.loaded) first)) first1

  -- there is one service
  pub services_same : OneService → ReadyModels → (h i : ServiceMade t names service) → Path ServiceData h.one i.one
  services_same ones ready h i =
      let l = i.there.loaded in
      (ones l.graph service t.test t.store h.now i.now h.one i.one (ready l.texts.read l.graph l.accepted service)
      (subst (λ g. IsServiceSeen g service t.test t.store h.now h.one) (graphs h.there.loaded l) h.compiled)
      i.compiled).0

  -- two answers are one
  pub service_same : (a b : Answer) → ServiceAnswers t names service a → ServiceAnswers t names service b → a ≡ b
  service_same a b (not_loaded h) (not_loaded h1) = whole.answers names a b h h1
  service_same a b (not_loaded h) (no_service l1 none1 e1) = absurd (whole.apart names a h l1)
  service_same a b (not_loaded h) (pattern there1 u1 id1 is1 first1 e1) = absurd (whole.apart names a h there1.loaded)
  service_same a b (no_service l none e) (not_loaded h1) = absurd (whole.apart names b h1 l)
  service_same a b (no_service l none e) (no_service l1 none1 e1) = e ∙ sym e1
  service_same a b (no_service l none e) (pattern there1 u1 id1 is1 first1 e1) = absurd (not_there l none there1)
  service_same a b (pattern there u id is first e) (not_loaded h1) = absurd (whole.apart names b h1 there.loaded)
  service_same a b (pattern there u id is first e) (no_service l1 none1 e1) = absurd (not_there l1 none1 there)
  service_same a b (pattern there u id is first e) (pattern there1 u1 id1 is1 first1 e1) =
      e ∙ ap (λ x. pattern_refused (pattern_line x)) (id_same there there1 u u1 id id1 is is1 first first1) ∙ sym e1

  -- and none stands before a service that is compiled
  pub service_apart : (a : Answer) → ServiceAnswers t names service a → ServiceMade t names service → ⊥
  service_apart a (not_loaded h) made = whole.apart names a h made.there.loaded
  service_apart a (no_service l none e) made = not_there l none made.there
  service_apart a (pattern there u id is first e) made = not_made there u id is first made
