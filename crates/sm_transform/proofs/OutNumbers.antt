-- What is out, by numbers: what is picked, and what is lost with it, one after the other.
use Rattle.std.proofs.Common.{◌≡◌, ◌⊎◌, inl, inr, ℕ, ◌<◌, zero, suc, Bool, true, false, List, [], ◌∷◌, ◌++◌, length, get_or, Some, None}
use Rattle.std.proofs.Common.{refl, sym, ap, subst, ◌∙◌, arith, bytes_eq}
use Rattle.std.specs.Prelude.{◌↔◌, if◌then◌else◌}
use Rattle.std.specs.FinMap as fin
use Rattle.std.proofs.lemmas.Bool.{cases_Bool}
use Rattle.std.proofs.lemmas.List.{length-map}
use Rattle.std.proofs.lemmas.Option.{none-some}
use Rattle.std.proofs.lemmas.Slice.Eq.{bytes_eq-Decides}
use Rattle.sm_model.specs.Formed.{DifferInNames, StandsAmong}
use Rattle.sm_model.specs.GraphRows.{id_of_row, row_entry}
use Rattle.sm_model.specs.Graphs.{Entry}
use Rattle.sm_model.specs.GraphView.{IsShapeNumber, Stands, entries_of, ids, maps_of}
use Rattle.sm_model.specs.Reaching.{AreMarks, IsMarked, id_of_number}
use Rattle.sm_model.specs.Relations.{IsInGraph}
use Rattle.sm_model.specs.declared.graph.Graph.{Graph}
use Rattle.sm_model.specs.declared.relation.Relation.TheVariants.{Input, Member, Output, Target}
use Rattle.sm_model.proofs.GraphFacts.{entries_are, id_at}
use Rattle.sm_model.proofs.LinkNumbers.{at_opened, within}
use Rattle.sm_model.proofs.MapFacts.{keys, keys_differ}
use Rattle.sm_model.proofs.NumberedIds.{number_of, related_in}
use Rattle.sm_model.proofs.Sorting.{map_twice}
use Rattle.sm_model.proofs.Worklist.{apart}
use Rattle.sm_select.specs.Neighbors.{AreReached, HasStep, StepsBy}
use Rattle.sm_select.specs.Picks.{IsPicked}
use Rattle.sm_select.specs.Selectors.{Steps}
use Rattle.sm_select.proofs.MarkedNumbers.{marks_same}
use Rattle.sm_transform.specs.Excluded.{IsOut, Needs, its_input, its_member, its_output, its_shape, its_target, lacks, picked}
use Rattle.sm_transform.specs.Namespaces.{is_of_api}
use Rattle.sm_transform.specs.steps.Steps.{IsLost, LeadBy, is_marked_id}
use Rattle.sm_transform.proofs.FoundEntries.{key_found}
use Rattle.sm_transform.proofs.IncludedNumbers.{one_step_more, same_number}
use Rattle.sm_transform.proofs.PickedInGraph.{picked_in}

needs_in : (g : Graph) (id gone : List ℕ) → Needs (maps_of g) id gone → IsInGraph (maps_of g) id
needs_in g id gone (its_shape h) = (related_in Member (maps_of g) gone id h).1
needs_in g id gone (its_target h) = (related_in Target (maps_of g) id gone h).0
needs_in g id gone (its_member c h) = (related_in Member (maps_of g) id gone h).0
needs_in g id gone (its_input h) = (related_in Input (maps_of g) id gone h).0
needs_in g id gone (its_output h) = (related_in Output (maps_of g) id gone h).0

module _ (g : Graph) (steps : Steps) (rows : List (List ℕ)) (led : LeadBy g (IsLost (maps_of g)) rows) (chosen starts marks : List Bool)
    (are : AreMarks (length (entries_of g)) (λ k. IsPicked (maps_of g) steps (id_of_number g k)) chosen)
    (own : AreMarks (length (entries_of g)) (λ k. IsMarked chosen k × (is_of_api (id_of_number g k) ≡ false)) starts)
    (reached : AreReached rows starts marks) where
  abbrev Out : ℕ → Type 0
  Out k = IsOut (maps_of g) steps (id_of_number g k)

  abbrev Found : ℕ → Type 0
  Found k = IsMarked starts k ⊎ IsMarked marks k

  start_out : (k : ℕ) → IsMarked starts k → Out k
  start_out k start = let h = ((own.marked k).0 start).1 in picked h.1 ((are.marked k).0 h.0).1

  lost_too : (a b : ℕ) → Out a → IsLost (maps_of g) (id_of_number g a) (id_of_number g b) → Out b
  lost_too a b h lost = lacks lost.0 h lost.1

  walked_to : (between : List ℕ) (a b : ℕ) → Out a → StepsBy rows a between b → Out b
  walked_to [] a b h step = lost_too a b h ((led.steps a b).0 step).2
  walked_to (n ∷ more) a b h walk = walked_to more n b (lost_too a n h ((led.steps a n).0 walk.0).2) walk.1

  found_out : (k : ℕ) → Found k → Out k
  found_out k (inl start) = start_out k start
  found_out k (inr mark) = let r = (reached k).0 mark in walked_to r.2.0 r.0 k (start_out r.0 r.1) r.2.1

  step_found : (a b : ℕ) → Found a → HasStep rows a b → Found b
  step_found a b (inl start) step = inr ((reached b).1 (a, start, ([], step)))
  step_found a b (inr mark) step =
      let r = (reached a).0 mark in
      inr ((reached b).1 (r.0, r.1, (r.2.0 ++ a ∷ [], one_step_more rows r.0 r.2.0 a b r.2.1 step)))

  abbrev IsFoundAt : List ℕ → Type 0
  IsFoundAt id = (k : ℕ) × IsShapeNumber g k × (id_of_number g k ≡ id) × Found k

  out_found : (id : List ℕ) → IsOut (maps_of g) steps id → IsFoundAt id
  out_found id (picked api h) =
      let n = number_of g id (picked_in (maps_of g) steps id h) in
      let chose = (are.marked n.0).1 (n.1, subst (IsPicked (maps_of g) steps) (sym n.2) h) in
      (n.0, n.1, n.2, inl ((own.marked n.0).1 (n.1, (chose, subst (λ i. is_of_api i ≡ false) (sym n.2) api))))
  out_found id (lacks {gone} api h needs) =
      let (a, lt, same, found) = out_found gone h in
      let n = number_of g id (needs_in g id gone needs) in
      let lost : IsLost (maps_of g) (id_of_number g a) (id_of_number g n.0) = (
        subst (λ i. is_of_api i ≡ false) (sym n.2) api,
        subst (Needs (maps_of g) (id_of_number g n.0)) (sym same) (subst (λ i. Needs (maps_of g) i gone) (sym n.2) needs),
      ) in
      (n.0, n.1, n.2, step_found a n.0 found ((led.steps a n.0).1 (lt, n.1, lost)))

  found_here : (k : ℕ) → IsShapeNumber g k → IsFoundAt (id_of_number g k) → Found k
  found_here k lt (j, inside, same, found) = subst Found (same_number g j k inside lt same) found

  pub out_marked : (now : List Bool) → AreMarks (length (entries_of g)) (λ k. IsMarked starts k ⊎ IsMarked marks k) now
      → AreMarks (length (entries_of g)) Out now
  out_marked now is =
      marks_same Found Out (length (entries_of g)) now
      (λ k lt. (λ h. found_out k h, λ h. found_here k lt (out_found (id_of_number g k) h))) is

-- the ids of a graph differ
pub ids_differ : (g : Graph) → DifferInNames (ids g)
ids_differ g =
    subst DifferInNames (map_twice (row_entry (ids g)) (λ (x : List ℕ × Entry). x.0) g.rows.items)
    (subst (λ es. DifferInNames (keys es)) (entries_are g) (keys_differ (maps_of g).shapes))

ids_long : (g : Graph) → length (ids g) ≡ length (entries_of g)
ids_long g = length-map g.rows.items id_of_row ∙ sym (length-map g.rows.items (row_entry (ids g)))

-- the mark at the number of an id
nth_stands : (ks : List (List ℕ)) (n : ℕ) → n < length ks → StandsAmong (get_or ks n []) ks
nth_stands [] n lt = absurd (omega (arith, lt))
nth_stands (k ∷ ks) zero lt = inl refl
nth_stands (k ∷ ks) (suc n) lt = inr (nth_stands ks n (omega (arith, lt)))

at_marked : (ks : List (List ℕ)) (ms : List Bool) (n : ℕ) (id : List ℕ) → DifferInNames ks → n < length ks → get_or ks n [] ≡ id
    → is_marked_id ks ms id ≡ get_or ms n false
at_marked [] ms n id d lt is = absurd (omega (arith, lt))
at_marked (k ∷ ks) [] n id d lt is = refl
at_marked (k ∷ ks) (m ∷ ms) zero id d lt is =
    ap (λ b. if b then m else is_marked_id ks ms id) ((bytes_eq-Decides k id).1 is)
at_marked (k ∷ ks) (m ∷ ms) (suc n) id d lt is =
    let less : n < length ks = omega (arith, lt) in
    elim (cases_Bool (bytes_eq k id)) [
      | inl same ↦
          absurd (d.0 (subst (λ i. StandsAmong i ks) (is ∙ sym ((bytes_eq-Decides k id).0 same)) (nth_stands ks n less)))
      | inr other ↦ ap (λ b. if b then m else is_marked_id ks ms id) other ∙ at_marked ks ms n id d.1 less is
    ]

none_marked : (ks : List (List ℕ)) (ms : List Bool) (id : List ℕ) → (StandsAmong id ks → ⊥) → is_marked_id ks ms id ≡ false
none_marked [] ms id none = refl
none_marked (k ∷ ks) [] id none = refl
none_marked (k ∷ ks) (m ∷ ms) id none = elim (cases_Bool (bytes_eq k id)) [
  | inl same ↦ absurd (none (inl (sym ((bytes_eq-Decides k id).0 same))))
  | inr other ↦ ap (λ b. if b then m else is_marked_id ks ms id) other ∙ none_marked ks ms id (λ h. none (inr h))
]

marked_some : (ks : List (List ℕ)) (ms : List Bool) (id : List ℕ) → is_marked_id ks ms id ≡ true
    → (n : ℕ) × (get_or ks n [] ≡ id) × IsMarked ms n
marked_some [] ms id h = absurd (apart h)
marked_some (k ∷ ks) [] id h = absurd (apart h)
marked_some (k ∷ ks) (m ∷ ms) id h = elim (cases_Bool (bytes_eq k id)) [
  | inl same ↦ (0, (bytes_eq-Decides k id).0 same, sym (ap (λ b. if b then m else is_marked_id ks ms id) same) ∙ h)
  | inr other ↦
      let later = marked_some ks ms id (sym (ap (λ b. if b then m else is_marked_id ks ms id) other) ∙ h) in
      (suc later.0, later.1, later.2)
]

module _ (g : Graph) (out : List Bool) where
  pub marked_at : (n : ℕ) (id : List ℕ) → Stands g n id → is_marked_id (ids g) out id ≡ get_or out n false
  marked_at n id stands =
      let o = at_opened g n (λ found e. (found ≡ id) × (fin.get (maps_of g).shapes id ≡ Some e)) stands in
      let lt : n < length (ids g) = subst (λ k. n < k) (sym (ids_long g)) (within g n o.id o.entry o.there) in
      at_marked (ids g) out n id (ids_differ g) lt (id_at g n o.id o.entry o.there ∙ o.is.0)

  pub marked_nowhere : (id : List ℕ) → fin.get (maps_of g).shapes id ≡ None → is_marked_id (ids g) out id ≡ false
  marked_nowhere id none = none_marked (ids g) out id (λ among. none_there (stands_in among))
    where
      stands_in : StandsAmong id (ids g) → (x : Entry) × (fin.get (maps_of g).shapes id ≡ Some x)
      stands_in among =
          key_found (maps_of g).shapes id
          (subst (λ es. StandsAmong id (keys es)) (sym (entries_are g))
          (subst (StandsAmong id) (sym (map_twice (row_entry (ids g)) (λ (x : List ℕ × Entry). x.0) g.rows.items)) among))

      none_there : (x : Entry) × (fin.get (maps_of g).shapes id ≡ Some x) → ⊥
      none_there h = none-some h.0 (sym none ∙ h.1)

  -- the test tells what the marks tell
  pub marks_told : (Holds : List ℕ → Type 0) → ((id : List ℕ) → Holds id → IsInGraph (maps_of g) id)
      → AreMarks (length (entries_of g)) (λ k. Holds (id_of_number g k)) out → (id : List ℕ)
      → (is_marked_id (ids g) out id ≡ true) ↔ Holds id
  marks_told Holds inside are id = (
    λ h.
        let s = marked_some (ids g) out id h in
        subst Holds s.1 ((are.marked s.0).0 s.2).1,
    λ h.
        let n = number_of g id (inside id h) in
        let lt : n.0 < length (ids g) = subst (λ k. n.0 < k) (sym (ids_long g)) n.1 in
        at_marked (ids g) out n.0 id (ids_differ g) lt n.2 ∙ (are.marked n.0).1 (n.1, subst Holds (sym n.2) h),
  )

pub out_in : (g : Graph) (steps : Steps) (id : List ℕ) → IsOut (maps_of g) steps id → IsInGraph (maps_of g) id
out_in g steps id (picked api h) = picked_in (maps_of g) steps id h
out_in g steps id (lacks {gone} api h needs) = needs_in g id gone needs
