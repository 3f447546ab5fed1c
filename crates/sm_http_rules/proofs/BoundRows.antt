-- Rows of members that are bound to labels.
use Rattle.std.proofs.Common.{
  ◌≡◌,
  ◌<◌,
  ◌+◌,
  inl,
  inr,
  ℕ,
  true,
  false,
  List,
  [],
  ◌∷◌,
  ◌++◌,
  get_or,
  length,
  map,
  take,
  refl,
  sym,
  ap,
  ◌∙◌,
  subst,
}
use Rattle.std.specs.List.{Contains}
use Rattle.std.proofs.lemmas.List.{take_more}
use Rattle.std.proofs.lemmas.List.Elements.{Contains-append_left, Contains-push, Contains-push_cases}
use Rattle.sm_model.specs.Graphs.{member_id}
use Rattle.sm_model.specs.GraphView.{AreShapeNumbers, IsShapeNumber, maps_of}
use Rattle.sm_model.specs.Reaching.{id_of_number}
use Rattle.sm_model.specs.declared.graph.Graph.{Graph}
use Rattle.sm_model.specs.Joins.{Joins}
use Rattle.sm_model.proofs.Linking.{joins_none, joins_one, joins_same}
use Rattle.sm_model.proofs.OneRising.{contains_either, contains_none}
use Rattle.sm_model.proofs.Worklist.{apart}
use Rattle.sm_compile.specs.Looked.{listed_under}
use Rattle.sm_compile.proofs.OneWay.{one_name}
use Rattle.sm_compile.proofs.ReachedNumbers.{same_number}
use Rattle.sm_compile.proofs.TabledShapes.{mapped_from, mapped_to}
use Rattle.sm_passes.specs.Owned.{is_own_shape}
use Rattle.sm_http_rules.specs.steps.Labels.{AreBound, AreBoundOf, BoundRow, is_bound}

-- numbers of a graph
pub number_among : (g : Graph) (ks : List ℕ) → AreShapeNumbers g ks → (k : ℕ) → Contains ks k → IsShapeNumber g k
number_among g [] all k c = absurd (contains_none k c)
number_among g (j ∷ ks) all k c = elim (contains_either j k ks c) [
  | inl same ↦ subst (IsShapeNumber g) same all.0
  | inr more ↦ number_among g ks all.1 k more
]

module _ (g : Graph) (input : ℕ) where
  pub none_bound : AreBound g input [] []
  none_bound r = (λ c. absurd (contains_none {K = List ℕ × ℕ} r c), λ h. absurd (contains_none h.0 h.1))

  bound_more : (ms : List ℕ) (m : ℕ) (old now : List (List ℕ × ℕ)) → AreBound g input ms old
      → Joins (Contains old) (BoundRow g input m) (Contains now) → AreBound g input (ms ++ m ∷ []) now
  bound_more ms m old now are joins r = (
    λ c. elim ((joins r).0 c) [
      | inl was ↦ let h = (are r).0 was in (h.0, Contains-append_left ms (m ∷ []) h.0 h.1, h.2)
      | inr row ↦ (m, Contains-push ms m, row)
    ],
    λ h. (joins r).1 (elim (Contains-push_cases ms m h.0 h.1) [
      | inl was ↦ inl ((are r).1 (h.0, was, h.2))
      | inr same ↦ inr (subst (λ k. BoundRow g input k r) (sym same) h.2)
    ]),
  )

  -- the row of the one at a place, where those before it are done
  pub bound_next : (ms : List ℕ) (i m : ℕ) → i < length ms → m ≡ get_or ms i m → (old now : List (List ℕ × ℕ))
      → AreBound g input (take i ms) old
      → Joins (Contains old) (BoundRow g input m) (Contains now) → AreBound g input (take (i + 1) ms) now
  bound_next ms i m within is old now are joins =
      let parts : take (i + 1) ms ≡ take i ms ++ m ∷ [] = take_more ms i m within ∙ ap (λ y. take i ms ++ y ∷ []) (sym is) in
      subst (λ ys. AreBound g input ys now) (sym parts) (bound_more (take i ms) m old now are joins)

  -- all of them
  pub rows_of_input : is_own_shape (maps_of g) (id_of_number g input) ≡ true → (ms : List ℕ) → AreShapeNumbers g ms
      → map (id_of_number g) ms ≡ listed_under (maps_of g) (id_of_number g input) → (rows : List (List ℕ × ℕ)) → AreBound g input ms rows
      → AreBoundOf g input rows
  rows_of_input own ms all listed rows are r = (
    λ c.
        let h = (are r).0 c in
        let is : r.1 ≡ h.0 = h.2.0 in
        let among : Contains ms r.1 = subst (Contains ms) (sym is) h.1 in (
          own,
          subst (λ ids. Contains ids (id_of_number g r.1)) listed (mapped_to (id_of_number g) ms r.1 among),
          number_among g ms all r.1 among,
          subst (λ k. BoundRow g input k r) (sym is) h.2,
        ),
    λ h.
        let from = mapped_from (id_of_number g) ms (id_of_number g r.1)
        (subst (λ ids. Contains ids (id_of_number g r.1)) (sym listed) h.1) in
        let same = same_number g from.0 r.1 (number_among g ms all from.0 from.1) h.2 from.2 in
        (are r).1 (r.1, subst (Contains ms) same from.1, h.3),
  )

  pub no_rows : is_own_shape (maps_of g) (id_of_number g input) ≡ false → AreBoundOf g input []
  no_rows other r = (λ c. absurd (contains_none {K = List ℕ × ℕ} r c), λ h. absurd (apart (sym other ∙ h.0)))

  -- the row of a member
  pub row_put : (k : ℕ) (name : List ℕ) → is_bound (maps_of g) (id_of_number g k) ≡ true
      → id_of_number g k ≡ member_id (id_of_number g input) name → (old now : List (List ℕ × ℕ)) → now ≡ old ++ (name, k) ∷ []
      → Joins (Contains old) (BoundRow g input k) (Contains now)
  row_put k name bound named old now is =
      joins_same (Contains old) (λ (r : List ℕ × ℕ). r ≡ (name, k)) (BoundRow g input k) (Contains now)
      (λ r. (λ same. subst (BoundRow g input k) (sym same) (refl, bound, named), λ row. back r row))
      (subst (λ rows. Joins (Contains old) (λ (r : List ℕ × ℕ). r ≡ (name, k)) (Contains rows)) (sym is) (joins_one (name, k) old))
    where
      back : (r : List ℕ × ℕ) → BoundRow g input k r → r ≡ (name, k)
      back r row = let same = one_name (id_of_number g input) r.0 name (sym row.2 ∙ named) in λ i. (same i, row.0 i)

  pub no_name : (k : ℕ) → ((name : List ℕ) → id_of_number g k ≡ member_id (id_of_number g input) name → ⊥) → (rows : List (List ℕ × ℕ))
      → Joins (Contains rows) (BoundRow g input k) (Contains rows)
  no_name k none rows = joins_none (Contains rows) (BoundRow g input k) (λ r row. none r.0 row.2)

  pub not_bound : (k : ℕ) → is_bound (maps_of g) (id_of_number g k) ≡ false → (rows : List (List ℕ × ℕ))
      → Joins (Contains rows) (BoundRow g input k) (Contains rows)
  not_bound k other rows = joins_none (Contains rows) (BoundRow g input k) (λ r row. apart (sym other ∙ row.1))
