-- Which shapes stand on each side of messages, from marks of operations with `http`.
use Rattle.std.proofs.Common.{◌≡◌, inl, inr, ℕ, Bool, true, false, List, [], ◌∷◌, length, get_or, refl, sym, ap, ◌∙◌, subst}
use Rattle.std.specs.Prelude.{◌↔◌, ◌&&◌, ◌||◌, is_some}
use Rattle.std.specs.List.{Contains}
use Rattle.sm_model.specs.Graphs.{shape_entry, GraphMaps}
use Rattle.sm_model.specs.GraphView.{IsShapeNumber, entries_of, maps_of}
use Rattle.sm_model.specs.Reaching.{AreMarks, IsMarked, id_of_number}
use Rattle.sm_model.specs.Relations.{IsRelated, Reaches}
use Rattle.sm_model.specs.declared.graph.Graph.{Graph}
use Rattle.sm_model.specs.declared.relation.Relation.{Relation}
use Rattle.sm_model.specs.declared.relation.Relation.TheVariants.{Error}
use Rattle.sm_model.proofs.NumberedIds.{number_of, related_in}
use Rattle.sm_model.proofs.OneRising.{contains_either, contains_head, contains_none}
use Rattle.sm_model.proofs.Searching.{and_left, and_right}
use Rattle.sm_select.specs.Images.{AreImage, IsImage, turned}
use Rattle.sm_select.specs.Picks.{LeadsAlong}
use Rattle.sm_select.proofs.MarkedNumbers.{marks_same}
use Rattle.sm_compile.specs.Sound.{trait_in}
use Rattle.sm_compile.specs.TraitIds.{http_id}
use Rattle.sm_rules.specs.Bindings.{IsBound, IsHttpOperation, an_error}
use Rattle.sm_http_traits.specs.Carriers.{is_own_operation}
use Rattle.sm_http_traits.proofs.HttpSaid.{is_own, own_operation}
use Rattle.sm_passes.specs.Carrying.{carries}
use Rattle.sm_passes.specs.Owned.{is_own_service}
use Rattle.sm_passes.proofs.OwnServices.{own_service, service_own}
use Rattle.sm_http_rules.specs.Sides.{AreOnSide, MayErr, is_http_operation, may_err}

-- operations with `http`
module _ (g : GraphMaps) (id : List ℕ) where
  pub operation_told : is_http_operation g id ≡ true → IsHttpOperation g id
  operation_told h =
      let o = own_operation g id (and_left (is_own_operation g id) (carries g http_id id) h) in
      record {
        s = o.0;
        own = o.1;
        kind = o.2;
        http = ap (λ e. is_some (trait_in http_id e)) (sym o.1.0) ∙ and_right (is_own_operation g id) (carries g http_id id) h;
      }

  pub told_operation : IsHttpOperation g id → is_http_operation g id ≡ true
  told_operation h =
      ap (λ b. b && carries g http_id id) (is_own g id (h.s, h.own, h.kind)) ∙ ap (λ e. is_some (trait_in http_id e)) h.own.0 ∙ h.http

-- one relation alone
pub along_one : (g : Graph) (starts marks : List Bool) (relation : Relation)
    → AreImage g starts (turned false (LeadsAlong (maps_of g) (relation ∷ []))) marks
    → AreImage g starts (IsRelated relation (maps_of g)) marks
along_one g starts marks relation h =
    marks_same (IsImage g starts (turned false (LeadsAlong (maps_of g) (relation ∷ []))))
    (IsImage g starts (IsRelated relation (maps_of g)))
    (length (entries_of g)) marks (λ k small. (
      λ x. (x.0, x.1, subst (λ r. IsRelated r (maps_of g) (id_of_number g x.0) (id_of_number g k)) (sym (only relation x.2.0 x.2.1)) x.2.2),
      λ x. (x.0, x.1, (relation, contains_head relation [], x.2)),
    )) h
  where
    only : (r other : Relation) → Contains (r ∷ []) other → r ≡ other
    only r other c = elim (contains_either r other [] c) [ inl same ↦ same | inr none ↦ absurd (contains_none other none) ]

-- where a relation leads from what the marks say
pub from_marked : (g : Graph) (P : List ℕ → Type 0) (relation : Relation) (starts marks : List Bool)
    → AreMarks (length (entries_of g)) (λ k. P (id_of_number g k)) starts → AreImage g starts (IsRelated relation (maps_of g)) marks
    → AreMarks (length (entries_of g)) (λ k. (id : List ℕ) × P id × IsRelated relation (maps_of g) id (id_of_number g k)) marks
from_marked g P relation starts marks are h =
    marks_same (IsImage g starts (IsRelated relation (maps_of g)))
    (λ k. (id : List ℕ) × P id × IsRelated relation (maps_of g) id (id_of_number g k)) (length (entries_of g)) marks
    (λ k small. (
      λ x. (id_of_number g x.0, ((are.marked x.0).0 x.1).1, x.2),
      λ x.
          let n = number_of g x.0 (related_in relation (maps_of g) x.0 (id_of_number g k) x.2).0 in (
            n.0,
            (are.marked n.0).1 (n.1, subst P (sym n.2) x.1),
            subst (λ a. IsRelated relation (maps_of g) a (id_of_number g k)) (sym n.2) x.2,
          ),
    )) h

-- errors of operations and of services
pub errors_marked : (g : Graph) (marks : List Bool)
    → AreMarks (length (entries_of g)) (λ k. (id : List ℕ) × MayErr (maps_of g) id × IsRelated Error (maps_of g) id (id_of_number g k))
    marks
    → AreOnSide g an_error marks
errors_marked g marks h =
    marks_same (λ k. (id : List ℕ) × MayErr (maps_of g) id × IsRelated Error (maps_of g) id (id_of_number g k))
    (λ k. IsBound (maps_of g) an_error (id_of_number g k)) (length (entries_of g)) marks
    (λ k small. (λ x. forth k x.0 x.1 x.2, λ x. back k x)) h
  where
    forth : (k : ℕ) (id : List ℕ) → MayErr (maps_of g) id → IsRelated Error (maps_of g) id (id_of_number g k)
        → IsBound (maps_of g) an_error (id_of_number g k)
    forth k id (inl operation) related = inl (id, operation, related)
    forth k id (inr (operation, inside, http)) related = inr (id, operation, inside, http, related)

    back : (k : ℕ) → IsBound (maps_of g) an_error (id_of_number g k)
        → (id : List ℕ) × MayErr (maps_of g) id × IsRelated Error (maps_of g) id (id_of_number g k)
    back k (inl x) = (x.0, inl x.1, x.2)
    back k (inr x) = (x.0, inr (x.1, x.2, x.3), x.4)

module _ (g : Graph) (operations reaching : List Bool)
    (are : AreMarks (length (entries_of g)) (λ k. IsHttpOperation (maps_of g) (id_of_number g k)) operations)
    (walk : AreImage g operations (turned true (Reaches (maps_of g))) reaching) where
  forth : (k : ℕ) → IsShapeNumber g k → may_err g operations reaching k ≡ true → MayErr (maps_of g) (id_of_number g k)
  forth k small h = by (get_or operations k false) refl h
    where
      by : (b : Bool) → get_or operations k false ≡ b → (b || (get_or reaching k false && is_own_service (maps_of g) (id_of_number g k)))
          ≡ true
          → MayErr (maps_of g) (id_of_number g k)
      by true is h = inl ((are.marked k).0 is).1
      by false is h =
          let way = ((walk.marked k).0 (and_left (get_or reaching k false) (is_own_service (maps_of g) (id_of_number g k)) h)).1 in
          inr (
            id_of_number g way.0,
            (
              own_service (maps_of g) (id_of_number g k) (and_right (get_or reaching k false)
                  (is_own_service (maps_of g) (id_of_number g k)) h),
              way.2,
            ),
            ((are.marked way.0).0 way.1).1,
          )

  back : (k : ℕ) → IsShapeNumber g k → MayErr (maps_of g) (id_of_number g k) → may_err g operations reaching k ≡ true
  back k small (inl operation) =
      ap (λ b. b || (get_or reaching k false && is_own_service (maps_of g) (id_of_number g k))) ((are.marked k).1 (small, operation))
  back k small (inr (operation, inside, http)) =
      let n = number_of g operation (shape_entry http.s, http.own.0) in
      let marked : IsMarked operations n.0 = (are.marked n.0).1 (n.1, subst (IsHttpOperation (maps_of g)) (sym n.2) http) in
      let way : IsMarked reaching k =
      (walk.marked k).1 (small, (n.0, marked, subst (Reaches (maps_of g) (id_of_number g k)) (sym n.2) inside.1)) in
      ap (λ b. get_or operations k false || (b && is_own_service (maps_of g) (id_of_number g k))) way
      ∙ ap (λ b. get_or operations k false || b) (service_own (maps_of g) (id_of_number g k) inside.0)
      ∙ or_true (get_or operations k false)
    where
      or_true : (b : Bool) → (b || true) ≡ true
      or_true true = refl
      or_true false = refl

  pub may_err_told : (k : ℕ) → IsShapeNumber g k → (may_err g operations reaching k ≡ true) ↔ MayErr (maps_of g) (id_of_number g k)
  may_err_told k small = (forth k small, back k small)

pub operations_marked : (g : Graph) (made marks : List Bool) → marks ≡ made
    → AreMarks (length (entries_of g)) (λ k. is_http_operation (maps_of g) (id_of_number g k) ≡ true) made
    → AreMarks (length (entries_of g)) (λ k. IsHttpOperation (maps_of g) (id_of_number g k)) marks
operations_marked g made marks same h =
    marks_same (λ k. is_http_operation (maps_of g) (id_of_number g k) ≡ true) (λ k. IsHttpOperation (maps_of g) (id_of_number g k))
    (length (entries_of g)) marks
    (λ k small. (operation_told (maps_of g) (id_of_number g k), told_operation (maps_of g) (id_of_number g k)))
    (subst (AreMarks (length (entries_of g)) (λ k. is_http_operation (maps_of g) (id_of_number g k) ≡ true)) (sym same) h)
