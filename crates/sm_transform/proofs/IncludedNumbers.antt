-- What is included, by numbers: what is picked, and what steps lead to from there.
use Rattle.std.proofs.Common.{◌≡◌, ◌⊎◌, inl, inr, ℕ, Bool, true, List, [], ◌∷◌, ◌++◌, length, Some, sym, ◌∙◌}
use Rattle.std.proofs.Common.{subst}
use Rattle.std.specs.Prelude.{slice_get}
use Rattle.sm_model.specs.GraphView.{IsShapeNumber, entries_of, maps_of}
use Rattle.sm_model.specs.Reaching.{AreMarks, IsMarked, id_of_number}
use Rattle.sm_model.specs.Relations.{IsInGraph}
use Rattle.sm_model.specs.declared.graph.Graph.{Graph}
use Rattle.sm_model.proofs.GraphFacts.{id_at}
use Rattle.sm_model.proofs.LinkNumbers.{one_number, stands_at}
use Rattle.sm_model.proofs.NumberedIds.{number_of, related_in}
use Rattle.sm_select.specs.Neighbors.{AreReached, HasStep, StepsBy}
use Rattle.sm_select.specs.Picks.{IsPicked}
use Rattle.sm_select.specs.Selectors.{Steps}
use Rattle.sm_select.proofs.MarkedNumbers.{marks_same}
use Rattle.sm_transform.specs.Included.{IsIncluded, StaysIncluded, picked, related, trait_of}
use Rattle.sm_transform.specs.Namespaces.{is_of_api}
use Rattle.sm_transform.specs.steps.Steps.{IsNeeded, LeadBy}
use Rattle.sm_transform.proofs.PickedInGraph.{picked_in}

-- an id has one number
pub same_number : (g : Graph) (j k : ℕ) → IsShapeNumber g j → IsShapeNumber g k → id_of_number g j ≡ id_of_number g k → j ≡ k
same_number g j k lt gt same =
    let a = stands_at g j lt in
    let b = stands_at g k gt in
    let is : a.0 ≡ b.0 = sym (id_at g j a.0 a.1 a.2) ∙ same ∙ id_at g k b.0 b.1 b.2 in
    one_number g j k b.0 a.1 b.1 (subst (λ i. slice_get (entries_of g) j ≡ Some (i, a.1)) is a.2) b.2

pub one_step_more : (rows : List (List ℕ)) (a : ℕ) (between : List ℕ) (k b : ℕ) → StepsBy rows a between k → HasStep rows k b
    → StepsBy rows a (between ++ k ∷ []) b
one_step_more rows a [] k b h step = (h, step)
one_step_more rows a (n ∷ more) k b h step = (h.0, one_step_more rows n more k b h.1 step)

module _ (g : Graph) (steps : Steps) (rows : List (List ℕ)) (led : LeadBy g (IsNeeded (maps_of g)) rows) (starts marks : List Bool)
    (are : AreMarks (length (entries_of g)) (λ k. IsPicked (maps_of g) steps (id_of_number g k)) starts)
    (reached : AreReached rows starts marks) where
  abbrev Included : ℕ → Type 0
  Included k = IsIncluded (maps_of g) steps (id_of_number g k)

  abbrev Found : ℕ → Type 0
  Found k = IsMarked starts k ⊎ IsMarked marks k

  needed_too : (a b : ℕ) → Included a → IsNeeded (maps_of g) (id_of_number g a) (id_of_number g b) → Included b
  needed_too a b h (inl by) = related by.0 h by.1
  needed_too a b h (inr by) = trait_of h by.0 by.1

  walked_to : (between : List ℕ) (a b : ℕ) → Included a → StepsBy rows a between b → Included b
  walked_to [] a b h step = needed_too a b h ((led.steps a b).0 step).2
  walked_to (n ∷ more) a b h walk = walked_to more n b (needed_too a n h ((led.steps a n).0 walk.0).2) walk.1

  found_included : (k : ℕ) → Found k → Included k
  found_included k (inl start) = picked ((are.marked k).0 start).1
  found_included k (inr mark) =
      let r = (reached k).0 mark in walked_to r.2.0 r.0 k (picked ((are.marked r.0).0 r.1).1) r.2.1

  step_found : (a b : ℕ) → Found a → HasStep rows a b → Found b
  step_found a b (inl start) step = inr ((reached b).1 (a, start, ([], step)))
  step_found a b (inr mark) step =
      let r = (reached a).0 mark in
      inr ((reached b).1 (r.0, r.1, (r.2.0 ++ a ∷ [], one_step_more rows r.0 r.2.0 a b r.2.1 step)))

  abbrev IsFoundAt : List ℕ → Type 0
  IsFoundAt id = (k : ℕ) × IsShapeNumber g k × (id_of_number g k ≡ id) × Found k

  next_found : (from id : List ℕ) → IsFoundAt from → IsInGraph (maps_of g) id → IsNeeded (maps_of g) from id → IsFoundAt id
  next_found from id (a, lt, same, found) there needs =
      let n = number_of g id there in
      let needed : IsNeeded (maps_of g) (id_of_number g a) (id_of_number g n.0) =
      subst (λ i. IsNeeded (maps_of g) i (id_of_number g n.0)) (sym same) (subst (IsNeeded (maps_of g) from) (sym n.2) needs) in
      (n.0, n.1, n.2, step_found a n.0 found ((led.steps a n.0).1 (lt, n.1, needed)))

  included_found : (id : List ℕ) → IsIncluded (maps_of g) steps id → IsFoundAt id
  included_found id (picked h) =
      let n = number_of g id (picked_in (maps_of g) steps id h) in
      (n.0, n.1, n.2, inl ((are.marked n.0).1 (n.1, subst (IsPicked (maps_of g) steps) (sym n.2) h)))
  included_found id (related {from} relation h by) =
      next_found from id (included_found from h) (related_in relation (maps_of g) from id by).1 (inl (relation, by))
  included_found id (trait_of {from} h carries there) = next_found from id (included_found from h) there (inr (carries, there))

  found_here : (k : ℕ) → IsShapeNumber g k → IsFoundAt (id_of_number g k) → Found k
  found_here k lt (j, within, same, found) = subst Found (same_number g j k within lt same) found

  pub stays_marked : (now : List Bool)
      → AreMarks (length (entries_of g)) (λ k. (IsMarked starts k ⊎ IsMarked marks k) ⊎ (is_of_api (id_of_number g k) ≡ true)) now
      → AreMarks (length (entries_of g)) (λ k. StaysIncluded (maps_of g) steps (id_of_number g k)) now
  stays_marked now is =
      marks_same (λ k. (IsMarked starts k ⊎ IsMarked marks k) ⊎ (is_of_api (id_of_number g k) ≡ true))
      (λ k. StaysIncluded (maps_of g) steps (id_of_number g k)) (length (entries_of g)) now
      (λ k lt. (
        λ h. elim h [ inl found ↦ inl (found_included k found) | inr api ↦ inr api ],
        λ h. elim h [ inl in_set ↦ inl (found_here k lt (included_found (id_of_number g k) in_set)) | inr api ↦ inr api ],
      ))
      is
