-- The operations of a service, by marks, in the order of their names.
use Rattle.std.proofs.Common.{◌≡◌, inl, inr, ℕ, zero, suc, ◌+◌, ◌<◌, Bool, true, false, cond, List, [], ◌∷◌, ◌++◌, length, map}
use Rattle.std.proofs.Common.{get_or, refl, sym, ap, ◌∙◌, subst, append-nil, arith}
use Rattle.std.specs.List.{Contains}
use Rattle.std.proofs.lemmas.Bool.{cases_eq, cases_lt}
use Rattle.std.proofs.lemmas.List.{map-append}
use Rattle.std.proofs.lemmas.List.Elements.{Contains-append_cases, Contains-append_left, Contains-push}
use Rattle.std.proofs.lemmas.List.Sorted.{Contains-permutation, IsPermutation-sym}
use Rattle.sm_model.specs.Graphs.{shape_entry}
use Rattle.sm_model.specs.GraphView.{AreShapeNumbers, IsShapeNumber, entries_of, maps_of}
use Rattle.sm_model.specs.Reaching.{AreMarks, id_of_number}
use Rattle.sm_model.specs.declared.graph.Graph.{Graph}
use Rattle.sm_model.proofs.NumberedIds.{number_of}
use Rattle.sm_model.proofs.OneRising.{contains_behind, contains_either, contains_head, contains_none}
use Rattle.sm_model.proofs.Searching.{and_left, and_right}
use Rattle.sm_shapes.specs.InOrder.{AreByName}
use Rattle.sm_shapes.specs.Names.{AllDiffer, NoneIs}
use Rattle.sm_compile.proofs.SoundTests.{both_of}
use Rattle.sm_compile.proofs.TabledShapes.{mapped_from, mapped_to}
use Rattle.sm_rules.specs.Ready.{IsOfService}
use Rattle.sm_rules.specs.Words.{IsOperation}
use Rattle.sm_http_traits.specs.Carriers.{is_own_operation}
use Rattle.sm_http_traits.proofs.HttpSaid.{is_own, own_operation}
use Rattle.sm_service.specs.Compiled.{IsOperationOf}
use Rattle.sm_service.specs.steps.OperationRows.{AreOperationNumbers, is_marked_operation, name_of_number}
use Rattle.sm_service.specs.steps.OperationRows.{operations_below}

-- one name more, which is none of those before
none_more : (t : List ℕ) (ts : List (List ℕ)) (u : List ℕ) → NoneIs t ts → (u ≡ t → ⊥) → NoneIs t (ts ++ u ∷ [])
none_more t [] u h other = (other, tt)
none_more t (k ∷ ks) u h other = (h.0, none_more t ks u h.1 other)

differ_more : (ts : List (List ℕ)) (u : List ℕ) → AllDiffer ts → ((t : List ℕ) → Contains ts t → u ≡ t → ⊥) → AllDiffer (ts ++ u ∷ [])
differ_more [] u h other = (tt, tt)
differ_more (t ∷ ts) u h other = (
  none_more t ts u h.0 (other t (contains_head t ts)),
  differ_more ts u h.1 (λ x there. other x (contains_behind t x ts there)),
)

abbrev put : Bool → ℕ → List ℕ
put b n = cond b (n ∷ []) []

-- operations put one after the other
pub number_put : (g : Graph) (n : ℕ) (b : Bool) → IsShapeNumber g n → AreShapeNumbers g (put b n)
number_put g n true lt = (lt, tt)
number_put g n false lt = tt

pub operations_more : (g : Graph) (marks : List Bool) (n : ℕ)
    → operations_below g marks (n + 1) ≡ operations_below g marks n ++ cond (is_marked_operation g marks n) (n ∷ []) []
operations_more g marks n = let next : n + 1 ≡ suc n = omega arith in ap (operations_below g marks) next

module _ (g : Graph) (marks : List Bool) where
  below_in : (n k : ℕ) → Contains (operations_below g marks n) k → (k < n) × (is_marked_operation g marks k ≡ true)
  below_in zero k h = absurd (contains_none k h)
  below_in (suc n) k h = elim (Contains-append_cases (operations_below g marks n) (put (is_marked_operation g marks n) n) k h) [
    | inl before ↦ let r = below_in n k before in (omega (arith, r.0), r.1)
    | inr here ↦ by (is_marked_operation g marks n) refl here
  ]
    where
      by : (b : Bool) → is_marked_operation g marks n ≡ b → Contains (put b n) k → (k < suc n) × (is_marked_operation g marks k ≡ true)
      by true is here =
          let same : n ≡ k = elim (contains_either n k [] here) [ inl e ↦ e | inr none ↦ absurd (contains_none k none) ] in
          (omega (arith, same), ap (is_marked_operation g marks) (sym same) ∙ is)
      by false is here = absurd (contains_none k here)

  in_below : (n k : ℕ) → k < n → is_marked_operation g marks k ≡ true → Contains (operations_below g marks n) k
  in_below zero k lt is = absurd (omega (arith, lt))
  in_below (suc n) k lt is = elim (cases_eq k n) [
    | inl same ↦ subst (λ b. Contains (operations_below g marks n ++ put b n) k) (sym (ap (is_marked_operation g marks) (sym same) ∙ is))
        (subst (Contains (operations_below g marks n ++ n ∷ [])) (sym same) (Contains-push (operations_below g marks n) n))
    | inr other ↦ Contains-append_left (operations_below g marks n) (put (is_marked_operation g marks n) n) k (in_below n k (under other) is)
  ]
    where
      under : (k ≡ n → ⊥) → k < n
      under other = elim (cases_lt k n) [ inl less ↦ less | inr ge ↦ absurd (other (omega (arith, ge, lt))) ]

  -- where no two have one name, names differ
  abbrev TellsApart : ℕ → Type 0
  TellsApart n =
      (a b : ℕ) → Contains (operations_below g marks n) a → Contains (operations_below g marks n) b → name_of_number g a ≡ name_of_number g b
      → a ≡ b

  pub names_below : (n : ℕ) → TellsApart n → AllDiffer (map (name_of_number g) (operations_below g marks n))
  names_below zero one = tt
  names_below (suc n) one = by (is_marked_operation g marks n) one (names_below n)
    where
      by : (b : Bool)
          → ((a c : ℕ) → Contains (operations_below g marks n ++ put b n) a → Contains (operations_below g marks n ++ put b n) c
          → name_of_number g a ≡ name_of_number g c → a ≡ c)
          → (TellsApart n → AllDiffer (map (name_of_number g) (operations_below g marks n)))
          → AllDiffer (map (name_of_number g) (operations_below g marks n ++ put b n))
      by true one rest =
          subst AllDiffer (sym (map-append (name_of_number g) (operations_below g marks n) (n ∷ [])))
          (differ_more (map (name_of_number g) (operations_below g marks n)) (name_of_number g n)
          (rest (λ a c x y. one a c (Contains-append_left (operations_below g marks n) (n ∷ []) a x)
          (Contains-append_left (operations_below g marks n) (n ∷ []) c y))) other)
        where
          other : (t : List ℕ) → Contains (map (name_of_number g) (operations_below g marks n)) t → name_of_number g n ≡ t → ⊥
          other t there same =
              let r = mapped_from (name_of_number g) (operations_below g marks n) t there in
              let is : n ≡ r.0 = one n r.0 (Contains-push (operations_below g marks n) n)
              (Contains-append_left (operations_below g marks n) (n ∷ []) r.0 r.1) (same ∙ sym r.2) in
              let less = (below_in n r.0 r.1).0 in
              omega (arith, is, less)
      by false one rest =
          subst (λ ks. AllDiffer (map (name_of_number g) ks)) (sym (append-nil (operations_below g marks n)))
          (rest (λ a c x y. one a c (subst (λ ks. Contains ks a) (sym (append-nil (operations_below g marks n))) x)
          (subst (λ ks. Contains ks c) (sym (append-nil (operations_below g marks n))) y)))

  -- and by their names they are those of the service
  module _ (service : List ℕ) (are : AreMarks (length (entries_of g)) (λ k. IsOfService (maps_of g) service (id_of_number g k)) marks) where
    pub marked_of : (k : ℕ) → Contains (operations_below g marks (length (entries_of g))) k
        → IsShapeNumber g k × IsOperationOf (maps_of g) service (id_of_number g k)
    marked_of k there =
        let r = below_in (length (entries_of g)) k there in
        let marked = and_left (get_or marks k false) (is_own_operation (maps_of g) (id_of_number g k)) r.1 in
        let own = and_right (get_or marks k false) (is_own_operation (maps_of g) (id_of_number g k)) r.1 in
        (r.0, (((are.marked k).0 marked).1, own_operation (maps_of g) (id_of_number g k) own))

    pub operations_told : (ks : List ℕ) → AreByName (name_of_number g) (operations_below g marks (length (entries_of g))) ks
        → AreOperationNumbers g service ks
    operations_told ks sorted =
        let all = operations_below g marks (length (entries_of g)) in
        let from : (k : ℕ) → Contains ks k → Contains all k = λ k there. Contains-permutation ks all k sorted.0 there in
        record {
          numbers = λ k there. (marked_of k (from k there)).0;
          each = λ k there. (marked_of k (from k there)).1;
          all = λ id h.
              let x = number_of g id (shape_entry h.1.0, h.1.1.0) in
              let marked = (are.marked x.0).1 (x.1, subst (IsOfService (maps_of g) service) (sym x.2) h.0) in
              let own = is_own (maps_of g) (id_of_number g x.0) (subst (IsOperation (maps_of g)) (sym x.2) h.1) in
              let here = in_below (length (entries_of g)) x.0 x.1
              (both_of (get_or marks x.0 false) (is_own_operation (maps_of g) (id_of_number g x.0)) marked own) in
              subst (Contains (map (id_of_number g) ks)) x.2
              (mapped_to (id_of_number g) ks x.0 (Contains-permutation all ks x.0 (IsPermutation-sym ks all sorted.0) here));
          rise = sorted.1;
        }
