-- Services with the same steps lead to the same.
use Rattle.std.proofs.Common.{◌≡◌, ◌<◌, ◌≤◌, ◌+◌, ◌-◌, inl, inr, ℕ, Bool, true, false, List, [], ◌∷◌, ◌++◌, drop, get_or, length, take, sym}
use Rattle.std.proofs.Common.{ap, subst, replicate, ◌∙◌, arith}
use Rattle.std.specs.Map.{values_of}
use Rattle.std.proofs.Math.Seq.{take-add}
use Rattle.std.specs.List.{Contains}
use Rattle.std.specs.List.Sorted.{IsPermutation}
use Rattle.std.proofs.lemmas.Bool.{cases_lt}
use Rattle.std.proofs.lemmas.List.{length-map, length-take-le, take-append-drop, map-append, take-take, take_more, take_rest}
use Rattle.std.proofs.lemmas.List.Elements.{Contains-append_left, Contains-append_right, Contains-push, Contains-push_cases}
use Rattle.std.proofs.lemmas.List.Sorted.{Contains-permutation, IsPermutation-map, IsPermutation-sym}
use Rattle.std.proofs.lemmas.Map.Made.{Contains-from_values_of}
use Rattle.sm_model.specs.EventView.{EventTold}
use Rattle.sm_model.specs.Graphs.{GraphMaps}
use Rattle.sm_model.specs.GraphView.{IsShapeNumber, entries_of, maps_of}
use Rattle.sm_model.specs.Reaching.{id_of_number}
use Rattle.sm_model.specs.Relations.{IsNeighbor, Reaches}
use Rattle.sm_model.specs.declared.event.ModelEvent.{ModelEvent}
use Rattle.sm_model.specs.declared.graph.Graph.{Graph}
use Rattle.sm_model.specs.Joins.{Joins}
use Rattle.sm_model.proofs.Linking.{joins_none, joins_one, joins_same}
use Rattle.sm_model.proofs.NumberedIds.{number_of, related_in}
use Rattle.sm_model.proofs.OneRising.{contains_none}
use Rattle.sm_model.proofs.Worklist.{apart}
use Rattle.sm_select.specs.Neighbors.{HasStep}
use Rattle.sm_select.specs.Ways.{AreSteps}
use Rattle.sm_select.proofs.MarkedNumbers.{marks_same}
use Rattle.sm_rules.specs.RuleEvents.{Puts}
use Rattle.sm_passes.specs.declared.closures.Closure.{Closure}
use Rattle.sm_passes.specs.Closures.{AreInside, AreInsideOf, AreOwnServices, IsClosureOf, IsOwnServiceNumber, ToldOfServices}
use Rattle.sm_passes.specs.steps.Groups.{AreAllServices, AreServiceRows, AreServicesBelow, HaveOneClosure, HaveSteps, IsClear, IsServiceRow}
use Rattle.sm_passes.specs.steps.Groups.{ServiceRow}
use Rattle.sm_passes.specs.Putting.{ToldOf}
use Rattle.sm_passes.specs.Owned.{is_own_service}
use Rattle.sm_passes.proofs.EventsPut.{puts_same}
use Rattle.sm_passes.proofs.ListPut.{put_joined}

module _ (g : Graph) (steps : List (List ℕ)) (are : AreSteps g false steps) where
  abbrev m : GraphMaps
  m = maps_of g

  module _ (j k : ℕ) (within : IsShapeNumber g j) (same : (n : ℕ) → HasStep steps j n → HasStep steps k n) where
    step_shared : (id : List ℕ) → IsNeighbor m (id_of_number g j) id → IsNeighbor m (id_of_number g k) id
    step_shared id h =
        let n = number_of g id (related_in h.0 m (id_of_number g j) id h.2).1 in
        let step : HasStep steps j n.0 = (are.steps j n.0).1 (within, n.1, subst (IsNeighbor m (id_of_number g j)) (sym n.2) h) in
        subst (IsNeighbor m (id_of_number g k)) n.2 ((are.steps k n.0).0 (same n.0 step)).2

    -- a walk looks at where it comes from in its first step alone
    walk_shared : (id : List ℕ) → Reaches m (id_of_number g j) id → Reaches m (id_of_number g k) id
    walk_shared id ([], h) = ([], step_shared id h)
    walk_shared id (next ∷ more, h) = (next ∷ more, (step_shared next h.0, h.1))

  pub one_closure : (numbers : List ℕ) (rows : List ServiceRow) → AreServiceRows g steps rows → HaveSteps numbers rows
      → HaveOneClosure g (values_of rows)
  one_closure numbers rows each have j k at_j at_k id h =
      let r = Contains-from_values_of rows j at_j in
      let s = Contains-from_values_of rows k at_k in
      walk_shared j k (each (r.0, j) r.1).own.0
      (λ n step. ((each (s.0, k) s.1).to n).0 (subst (λ ns. Contains ns n) (have (r.0, j) r.1 ∙ sym (have (s.0, k) s.1))
      (((each (r.0, j) r.1).to n).1 step))) id h

-- rows with these numbers, row by row
module _ (numbers : List ℕ) (rows : List ServiceRow) where
  pub steps_next : (i : ℕ) (r : ServiceRow) → i < length rows → r ≡ get_or rows i r → HaveSteps numbers (take i rows)
      → r.0.items ≡ numbers → HaveSteps numbers (take (i + 1) rows)
  steps_next i r within is before here s h =
      let parts : take (i + 1) rows ≡ take i rows ++ r ∷ [] =
      take_more rows i r within ∙ ap (λ x. take i rows ++ x ∷ []) (sym is) in
      elim (Contains-push_cases (take i rows) r s (subst (λ xs. Contains xs s) parts h)) [
        | inl old ↦ before s old
        | inr same ↦ ap (λ x. x.0.items) (sym same) ∙ here
      ]

  pub steps_begun : (r : ServiceRow) → 0 < length rows → r ≡ get_or rows 0 r → r.0.items ≡ numbers → HaveSteps numbers (take 1 rows)
  steps_begun r some is here = steps_next 0 r some is (λ s h. absurd (contains_none s h)) here

-- of a part of them
module _ {X : Type 0} (P : X → Type 0) (n : ℕ) (xs : List X) (all : (x : X) → Contains xs x → P x) where
  pub of_first : (x : X) → Contains (take n xs) x → P x
  of_first x h = all x (subst (λ ys. Contains ys x) (take-append-drop n xs) (Contains-append_left (take n xs) (drop n xs) x h))

  pub of_rest : (x : X) → Contains (take (length xs - n) (drop n xs)) x → P x
  of_rest x h =
      all x
      (subst (λ ys. Contains ys x) (take-append-drop n xs)
      (Contains-append_right (take n xs) (drop n xs) x (subst (λ ys. Contains ys x) (take_rest xs n) h)))

-- of their services
pub own_services : (g : Graph) (steps : List (List ℕ)) (rows : List ServiceRow) → AreServiceRows g steps rows
    → AreOwnServices g (values_of rows)
own_services g steps rows each k h = let r = Contains-from_values_of rows k h in (each (r.0, k) r.1).own

pub some_services : (rows : List ServiceRow) (n : ℕ) → 0 < n → n ≤ length rows → 0 < length (values_of (take n rows))
some_services rows n some within =
    let long = length-map (take n rows) (λ r. r.1) in
    let taken = length-take-le n rows within in omega (arith, long, taken, some)

-- the closure of one of some that lead to the same
module _ (g : Graph) (ks : List ℕ) (s : ℕ) (at : Contains ks s) (one : HaveOneClosure g ks) where
  inside_shared : (marks : List Bool) → AreInsideOf g (s ∷ []) marks → AreInsideOf g ks marks
  inside_shared marks are = (are.0, each)
    where
      each : (k : ℕ) → Contains ks k → AreInside g k marks
      each k there =
          marks_same _ _ (length (entries_of g)) marks
          (λ n small. (one s k at there (id_of_number g n), one k s there at (id_of_number g n))) (are.1 s (Contains-push [] s))

  pub closure_shared : (c : Closure) → IsClosureOf g (s ∷ []) c → IsClosureOf g ks c
  closure_shared c is = record { inside = inside_shared c.marks.items is.inside; found = is.found }

-- what was walked and then taken back
pub cleared : (g : Graph) (ks : List ℕ) (c now : Closure) → IsClosureOf g ks c
    → now.marks.items ≡ replicate (length c.marks.items) false → now.found.items ≡ [] → IsClear g now
cleared g ks c now is marks found = record { marks = marks ∙ ap (λ n. replicate n false) is.inside.0; found = found }

-- all services, number by number
module _ (g : Graph) where
  pub services_next : (n : ℕ) (olds news : List ℕ) → AreServicesBelow g n olds
      → Joins (Contains olds) (λ k. (k ≡ n) × IsOwnServiceNumber g k) (Contains news) → AreServicesBelow g (n + 1) news
  services_next n olds news before joins k = (forth, back)
    where
      forth : Contains news k → (k < n + 1) × IsOwnServiceNumber g k
      forth h = elim ((joins k).0 h) [
        | inl old ↦ (let b = (before k).0 old in let small = b.0 in (omega (arith, small), b.1))
        | inr last ↦ (let is = last.0 in (omega (arith, is), last.1))
      ]

      back : (k < n + 1) × IsOwnServiceNumber g k → Contains news k
      back h = elim (cases_lt k n) [
        | inl small ↦ (joins k).1 (inl ((before k).1 (small, h.1)))
        | inr more ↦ (let less = h.0 in (joins k).1 (inr (omega (arith, less, more), h.1)))
      ]

  -- one more row, where it is a service's
  pub own_joined : {X : Type 0} (olds : List (X × ℕ)) (row : X × ℕ) (news : List (X × ℕ)) → news ≡ olds ++ row ∷ []
      → IsOwnServiceNumber g row.1
      → Joins (Contains (values_of olds)) (λ k. (k ≡ row.1) × IsOwnServiceNumber g k) (Contains (values_of news))
  own_joined olds row news is own =
      let parts : values_of news ≡ values_of olds ++ row.1 ∷ [] = ap values_of is ∙ map-append (λ r. r.1) olds (row ∷ []) in
      joins_same (Contains (values_of olds)) (λ k. k ≡ row.1) (λ k. (k ≡ row.1) × IsOwnServiceNumber g k) (Contains (values_of news))
      (λ k. (λ same. (same, subst (IsOwnServiceNumber g) (sym same) own), λ h. h.0))
      (subst (λ ks. Joins (Contains (values_of olds)) (λ k. k ≡ row.1) (Contains ks)) (sym parts) (joins_one row.1 (values_of olds)))

  -- and where it is none
  pub other_joined : (ks : List ℕ) (n : ℕ) → is_own_service (maps_of g) (id_of_number g n) ≡ false
      → Joins (Contains ks) (λ k. (k ≡ n) × IsOwnServiceNumber g k) (Contains ks)
  other_joined ks n other =
      joins_none (Contains ks) (λ k. (k ≡ n) × IsOwnServiceNumber g k)
      (λ k h. apart (sym other ∙ subst (λ i. is_own_service (maps_of g) (id_of_number g i) ≡ true) h.0 h.1.1))

  pub services_all : (n : ℕ) (ks : List ℕ) → n ≡ length (entries_of g) → AreServicesBelow g n ks → AreAllServices g ks
  services_all n ks all below k = (
    λ h. ((below k).0 h).1,
    λ own. let small = own.0 in (below k).1 (omega (arith, small, all), own),
  )

  -- in another order
  pub services_moved : {X : Type 0} (xs ys : List (X × ℕ)) → IsPermutation xs ys → AreAllServices g (values_of xs)
      → AreAllServices g (values_of ys)
  services_moved xs ys moved all k =
      let numbers = IsPermutation-map (λ r. r.1) xs ys moved in (
        λ h. (all k).0 (Contains-permutation (values_of ys) (values_of xs) k (IsPermutation-sym _ _ numbers) h),
        λ own. Contains-permutation (values_of xs) (values_of ys) k numbers ((all k).1 own),
      )

  -- and their rows
  pub rows_joined : (steps : List (List ℕ)) (olds news : List ServiceRow) (row : ServiceRow) → news ≡ olds ++ row ∷ []
      → AreServiceRows g steps olds → IsServiceRow g steps row → AreServiceRows g steps news
  rows_joined steps olds news row is before here r h =
      elim (Contains-push_cases olds row r (subst (λ rs. Contains rs r) is h)) [
        | inl old ↦ before r old
        | inr same ↦ subst (IsServiceRow g steps) same here
      ]

  pub told_services : (Told : ℕ → EventTold → Type 0) (ks : List ℕ) → AreAllServices g ks → (a b : List ModelEvent)
      → Puts (ToldOf Told ks) a b → Puts (ToldOfServices g Told) a b
  told_services Told ks all a b h =
      puts_same (ToldOf Told ks) (ToldOfServices g Told) a b
      (λ e. (λ t. (t.0, (all t.0).0 t.1, t.2), λ t. (t.0, (all t.0).1 t.1, t.2))) h

-- the first of what is left of a list
pub run_told : (Told : ℕ → EventTold → Type 0) (rows : List ServiceRow) (begin count : ℕ) → count ≤ length rows - begin
    → (a b c : List ModelEvent) → Puts (ToldOf Told (values_of (take begin rows))) a b
    → Puts (ToldOf Told (values_of (take count (take (length rows - begin) (drop begin rows))))) b c
    → Puts (ToldOf Told (values_of (take (begin + count) rows))) a c
run_told Told rows begin count within a b c before run =
    let front = take begin rows in
    let next = take count (drop begin rows) in
    subst (λ ks. Puts (ToldOf Told ks) a c) (sym (ap values_of (take-add begin count rows) ∙ map-append (λ r. r.1) front next))
    (put_joined Told (values_of front) (values_of next) a b c before
    (subst (λ rs. Puts (ToldOf Told (values_of rs)) b c) (take-take count (length rows - begin) (drop begin rows) within) run))
