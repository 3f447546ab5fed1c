-- The number of a service, and all that it leads to, as marks.
use Rattle.std.proofs.Common.{◌≡◌, ◌⊎◌, inl, inr, ℕ, ◌<◌, Bool, true, false, List, Option, Some, None, length, refl, sym, ap, ◌∙◌, subst}
use Rattle.std.specs.Prelude.{◌↔◌, ◌&&◌, not, replicate, set}
use Rattle.std.specs.FinMap as fin
use Rattle.std.proofs.lemmas.Bool.{cases_eq}
use Rattle.std.proofs.lemmas.List.{get_or-set_other, get_or-set_same, length-replicate, length-set}
use Rattle.sm_model.specs.Graphs.{Entry, shape_entry, member_entry, ShapeEntry, GraphMaps}
use Rattle.sm_model.specs.GraphView.{IsShapeNumber, Stands, entries_of, maps_of}
use Rattle.sm_model.specs.PreludeShapes.{is_prelude_id}
use Rattle.sm_model.specs.Reaching.{AreMarks, IsMarked, id_of_number}
use Rattle.sm_model.specs.Relations.{Reaches}
use Rattle.sm_model.specs.declared.graph.Graph.{Graph}
use Rattle.sm_model.specs.declared.kind.Kind.{Kind}
use Rattle.sm_model.specs.declared.kind.Kind.TheVariants.{Service}
use Rattle.sm_model.proofs.Searching.{and_left, and_right}
use Rattle.sm_model.proofs.Worklist.{apart, none_marked}
use Rattle.sm_select.specs.Images.{AreImage, turned}
use Rattle.sm_compile.specs.Looked.{kind_in, kind_under}
use Rattle.sm_compile.proofs.LookedUp.{stands_is}
use Rattle.sm_compile.proofs.ReachedNumbers.{same_number}
use Rattle.sm_rules.specs.Ready.{IsOfService}
use Rattle.sm_rules.specs.Words.{IsService}
use Rattle.sm_service.specs.steps.OwnServices.{is_own_service, is_service}

not_so : (b : Bool) → not b ≡ true → b ≡ false
not_so true h = absurd (apart h)
not_so false h = refl

service_kind : (k : Kind) → is_service (Some k) ≡ true → k ≡ Service
service_kind Service h = refl
service_kind k h = absurd (apart h)

service_in : (o : Option Entry) → is_service (kind_in o) ≡ true → (s : ShapeEntry) × (o ≡ Some (shape_entry s)) × (s.kind ≡ Service)
service_in None h = absurd (apart h)
service_in (Some (shape_entry s)) h = (s, refl, service_kind s.kind h)
service_in (Some (member_entry m)) h = absurd (apart h)

-- a service outside of the prelude, as a test
pub own_service : (g : GraphMaps) (id : List ℕ) → (is_own_service g id ≡ true) ↔ IsService g id
own_service g id = (
  λ h.
      let s = service_in (fin.get g.shapes id) (and_left (is_service (kind_under g id)) (not (is_prelude_id id)) h) in
      (s.0, (s.1, not_so (is_prelude_id id) (and_right (is_service (kind_under g id)) (not (is_prelude_id id)) h)), s.2),
  λ h.
      ap (λ o. is_service (kind_in o) && not (is_prelude_id id)) h.1.0
      ∙ ap (λ k. is_service (Some k) && not (is_prelude_id id)) h.2 ∙ ap not h.1.1,
)

-- one mark more
module _ (marks : List Bool) (k : ℕ) (lt : k < length marks) where
  pub set_here : IsMarked (set marks k true) k
  set_here = get_or-set_same marks k true false lt

  pub set_kept : (i : ℕ) → IsMarked marks i → IsMarked (set marks k true) i
  set_kept i h = elim (cases_eq i k) [
    | inl same ↦ subst (IsMarked (set marks k true)) (sym same) set_here
    | inr other ↦ get_or-set_other marks k i true false other ∙ h
  ]

  pub set_either : (i : ℕ) → IsMarked (set marks k true) i → (i ≡ k) ⊎ IsMarked marks i
  set_either i h = elim (cases_eq i k) [
    | inl same ↦ inl same
    | inr other ↦ inr (sym (get_or-set_other marks k i true false other) ∙ h)
  ]

-- what a walk from the service alone leads to, and the service itself
module _ (g : Graph) (service : ℕ) (small : IsShapeNumber g service)
    (is : IsService (maps_of g) (id_of_number g service)) (none starts image : List Bool)
    (empty : none ≡ replicate (length (entries_of g)) false) (begun : starts ≡ set none service true)
    (walk : AreImage g starts (turned false (Reaches (maps_of g))) image) where
  long : length none ≡ length (entries_of g)
  long = ap length empty ∙ length-replicate (length (entries_of g)) false

  within : service < length none
  within = subst (λ n. service < n) (sym long) small

  started : (a : ℕ) → IsMarked starts a → a ≡ service
  started a h = elim (set_either none service within a (subst (λ ms. IsMarked ms a) begun h)) [
    | inl same ↦ same
    | inr marked ↦ absurd (none_marked (length (entries_of g)) a (subst (λ ms. IsMarked ms a) empty marked))
  ]

  start : IsMarked starts service
  start = subst (λ ms. IsMarked ms service) (sym begun) (set_here none service within)

  inside : service < length image
  inside = subst (λ n. service < n) (sym walk.whole) small

  abbrev pub Of : ℕ → Type 0
  Of k = IsOfService (maps_of g) (id_of_number g service) (id_of_number g k)

  forth : (k : ℕ) → IsMarked (set image service true) k → (k < length (entries_of g)) × Of k
  forth k h = elim (set_either image service inside k h) [
    | inl same ↦ (subst (λ n. n < length (entries_of g)) (sym same) small, inl (ap (id_of_number g) same))
    | inr marked ↦
        let r = (walk.marked k).0 marked in
        let from = started r.1.0 r.1.1 in
        (r.0, inr (is, subst (λ a. Reaches (maps_of g) (id_of_number g a) (id_of_number g k)) from r.1.2))
  ]

  back : (k : ℕ) → k < length (entries_of g) → Of k → IsMarked (set image service true) k
  back k lt (inl same) =
      subst (IsMarked (set image service true)) (sym (same_number g k service lt small same)) (set_here image service inside)
  back k lt (inr way) = set_kept image service inside k ((walk.marked k).1 (lt, (service, start, way.1)))

  pub closure_marks : AreMarks (length (entries_of g)) Of (set image service true)
  closure_marks = record { whole = length-set image service true ∙ walk.whole; marked = λ k. (forth k, λ h. back k h.0 h.1) }

-- the number of an id
module _ (g : Graph) (number : ℕ) (id : List ℕ) (stands : Stands g number id) where
  at : IsShapeNumber g number × (id_of_number g number ≡ id)
  at = stands_is g number number id stands

  pub number_found : is_own_service (maps_of g) (id_of_number g number) ≡ true
      → IsShapeNumber g number × (id_of_number g number ≡ id) × IsService (maps_of g) id
  number_found own = (at.0, at.1, subst (IsService (maps_of g)) at.1 ((own_service (maps_of g) (id_of_number g number)).0 own))

  pub number_other : is_own_service (maps_of g) (id_of_number g number) ≡ false → IsService (maps_of g) id → ⊥
  number_other other is =
      apart (sym other ∙ (own_service (maps_of g) (id_of_number g number)).1 (subst (IsService (maps_of g)) (sym at.1) is))
