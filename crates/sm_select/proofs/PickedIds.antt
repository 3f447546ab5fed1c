-- The ids of marked numbers are in order, and are those of what is picked.
use Rattle.std.proofs.Common.{◌≡◌, inl, inr, ℕ, ◌<◌, zero, suc, Bool, true, false, List, [], ◌∷◌, ◌++◌, length, map, get_or, drop, refl}
use Rattle.std.proofs.Common.{sym, ap, ◌∙◌, subst, arith, append_assoc, append-nil, Less}
use Rattle.std.specs.List.{AllByRecursion, Contains}
use Rattle.std.specs.List.Sorted.{IsStrictlySortedBy}
use Rattle.std.specs.FinMap.Entries.{below_all, is_sorted}
use Rattle.std.specs.Ordering.{is_lt}
use Rattle.std.proofs.lemmas.List.{length-map}
use Rattle.std.proofs.lemmas.List.Elements.{Contains-append_left, Contains-append_right, Contains-push}
use Rattle.sm_model.specs.Graphs.{text_cmp, Entry}
use Rattle.sm_model.specs.GraphRows.{id_of_row, row_entry}
use Rattle.sm_model.specs.GraphView.{entries_of, ids, maps_of}
use Rattle.sm_model.specs.PreludeShapes.{is_prelude_id}
use Rattle.sm_model.specs.declared.graph.Graph.{Graph}
use Rattle.sm_model.specs.declared.graph.rows.GraphRow.{GraphRow}
use Rattle.sm_model.proofs.Searching.{and_left, and_right, less_from}
use Rattle.sm_model.specs.Reaching.{AreMarks, id_of_number, IsMarked}
use Rattle.sm_model.proofs.NumberedIds.{number_of}
use Rattle.sm_model.proofs.Worklist.{apart}
use Rattle.sm_select.specs.Answers.{ArePicked}
use Rattle.sm_select.specs.Images.{AreImage}
use Rattle.sm_select.specs.Picks.{IsPicked, Picks}
use Rattle.sm_select.specs.Selectors.{Steps}
use Rattle.sm_select.specs.steps.Imaging.{marked_ids}
use Rattle.sm_select.proofs.ImageNumbers.{in_graph}
use Rattle.sm_select.proofs.LedInGraph.{picks_in}
use Rattle.sm_select.proofs.StepLists.{cons_cases}

-- ids of marked numbers rise as all do
kept_above : (P : List ℕ → Type 0) (ms : List Bool) (xs : List (List ℕ)) → AllByRecursion P xs → AllByRecursion P (marked_ids ms xs)
kept_above P [] xs all = tt
kept_above P (m ∷ ms) [] all = tt
kept_above P (true ∷ ms) (x ∷ xs) all = (all.0, kept_above P ms xs all.1)
kept_above P (false ∷ ms) (x ∷ xs) all = kept_above P ms xs all.1

kept_sorted : (ms : List Bool) (xs : List (List ℕ)) → IsStrictlySortedBy text_cmp xs → IsStrictlySortedBy text_cmp (marked_ids ms xs)
unfolding IsStrictlySortedBy
kept_sorted [] xs s = tt
kept_sorted (m ∷ ms) [] s = tt
kept_sorted (true ∷ ms) (x ∷ xs) s = (kept_above (λ y. text_cmp x y ≡ Less) ms xs s.0, kept_sorted ms xs s.1)
kept_sorted (false ∷ ms) (x ∷ xs) s = kept_sorted ms xs s.1

all_above : (k : List ℕ) (es : List (List ℕ × Entry)) → below_all text_cmp k es ≡ true
    → AllByRecursion (λ y. text_cmp k y ≡ Less) (map (λ (e : List ℕ × Entry). e.0) es)
all_above k [] h = tt
all_above k (e ∷ es) h = (less_from (text_cmp k e.0) (and_left _ _ h), all_above k es (and_right (is_lt (text_cmp k e.0)) _ h))

pub keys_sorted : (es : List (List ℕ × Entry)) → is_sorted text_cmp es ≡ true
    → IsStrictlySortedBy text_cmp (map (λ (e : List ℕ × Entry). e.0) es)
unfolding IsStrictlySortedBy
keys_sorted [] h = tt
keys_sorted (e ∷ es) h = (all_above e.0 es (and_left _ _ h), keys_sorted es (and_right (below_all text_cmp e.0 es) _ h))

row_keys : (names : List (List ℕ)) (rows : List GraphRow)
    → map (λ (e : List ℕ × Entry). e.0) (map (row_entry names) rows) ≡ map id_of_row rows
row_keys names [] = refl
row_keys names (r ∷ rs) = ap (λ ks. r.id ∷ ks) (row_keys names rs)

ids_keys : (g : Graph) → map (λ (e : List ℕ × Entry). e.0) (entries_of g) ≡ ids g
ids_keys g = row_keys (ids g) g.rows.items

pub ids_long : (g : Graph) → length (ids g) ≡ length (entries_of g)
ids_long g = ap length (sym (ids_keys g)) ∙ length-map (entries_of g) (λ (e : List ℕ × Entry). e.0)

ids_sorted : (g : Graph) → IsStrictlySortedBy text_cmp (ids g)
ids_sorted g = subst (IsStrictlySortedBy text_cmp) (ids_keys g) (keys_sorted (entries_of g)
    (and_left (is_sorted text_cmp (entries_of g)) _ g.sound))

-- the marked ids are those at marked numbers
contains_first : (x : List ℕ) (xs : List (List ℕ)) → Contains (x ∷ xs) x
contains_first x xs = Contains-append_left (x ∷ []) xs x (Contains-push [] x)

contains_later : (x y : List ℕ) (xs : List (List ℕ)) → Contains xs y → Contains (x ∷ xs) y
contains_later x y xs h = Contains-append_right (x ∷ []) xs y h

marked_at : (ms : List Bool) (xs : List (List ℕ)) (x : List ℕ) → Contains (marked_ids ms xs) x
    → (k : ℕ) × IsMarked ms k × (k < length xs) × (get_or xs k [] ≡ x)
marked_at [] xs x h = absurd (omega (arith, h.1))
marked_at (m ∷ ms) [] x h = absurd (omega (arith, h.1))
marked_at (true ∷ ms) (y ∷ xs) x h = elim (cons_cases y (marked_ids ms xs) x h) [
  | inl is ↦ (0, refl, omega arith, is)
  | inr later ↦ let r = marked_at ms xs x later in (suc r.0, r.1, omega (arith, r.2), r.3)
]
marked_at (false ∷ ms) (y ∷ xs) x h = let r = marked_at ms xs x h in (suc r.0, r.1, omega (arith, r.2), r.3)

at_marked : (ms : List Bool) (xs : List (List ℕ)) (k : ℕ) → IsMarked ms k → k < length xs → Contains (marked_ids ms xs) (get_or xs k [])
at_marked [] xs k h lt = absurd (apart h)
at_marked (m ∷ ms) [] k h lt = absurd (omega (arith, lt))
at_marked (true ∷ ms) (y ∷ xs) zero h lt = contains_first y (marked_ids ms xs)
at_marked (true ∷ ms) (y ∷ xs) (suc k) h lt = contains_later y (get_or xs k []) (marked_ids ms xs) (at_marked ms xs k h (omega (arith, lt)))
at_marked (false ∷ ms) (y ∷ xs) zero h lt = absurd (apart h)
at_marked (false ∷ ms) (y ∷ xs) (suc k) h lt = at_marked ms xs k h (omega (arith, lt))

-- what is marked where steps lead from all starts is picked
pub marks_picked : (g : Graph) (steps : Steps) (starts marks : List Bool)
    → AreMarks (length (entries_of g)) (λ k. is_prelude_id (id_of_number g k) ≡ false) starts
    → AreImage g starts (Picks (maps_of g) steps) marks
    → AreMarks (length (entries_of g)) (λ k. IsPicked (maps_of g) steps (id_of_number g k)) marks
marks_picked g steps starts marks begun are = record {
  whole = are.whole;
  marked = λ b. (
    λ h.
        let i = (are.marked b).0 h in
        let s = (begun.marked i.1.0).0 i.1.1 in
        (i.0, (id_of_number g i.1.0, (in_graph g i.1.0 s.0, s.1), i.1.2)),
    λ h.
        let p = h.1 in
        let a = number_of g p.0 p.1.0 in
        (are.marked b).1 (
          h.0,
          (
            a.0,
            (begun.marked a.0).1 (a.1, subst (λ i. is_prelude_id i ≡ false) (sym a.2) p.1.1),
            subst (λ i. Picks (maps_of g) steps i (id_of_number g b)) (sym a.2) p.2,
          ),
        ),
  );
}

-- so the ids of what is marked are those that are picked
pub are_picked : (g : Graph) (steps : Steps) (marks : List Bool)
    → AreMarks (length (entries_of g)) (λ k. IsPicked (maps_of g) steps (id_of_number g k)) marks
    → ArePicked (maps_of g) steps (marked_ids marks (ids g))
are_picked g steps marks are = record {
  in_order = kept_sorted marks (ids g) (ids_sorted g);
  picked = λ id. (
    λ h.
        let k = marked_at marks (ids g) id h in
        subst (IsPicked (maps_of g) steps) k.3 ((are.marked k.0).0 k.1).1,
    λ h.
        let b = number_of g id (picks_in (maps_of g) steps h.0 id h.1.0 h.2) in
        let marked = (are.marked b.0).1 (b.1, subst (IsPicked (maps_of g) steps) (sym b.2) h) in
        subst (Contains (marked_ids marks (ids g))) b.2
        (at_marked marks (ids g) b.0 marked (subst (λ n. b.0 < n) (sym (ids_long g)) b.1)),
  );
}

-- one number after the other
pub marked_more : (ms : List Bool) (xs found now : List (List ℕ)) (k : ℕ) (m : Bool) (x : List ℕ) (rest : List Bool)
    (others : List (List ℕ))
    → drop k ms ≡ m ∷ rest → drop k xs ≡ x ∷ others → now ≡ found ++ marked_ids (m ∷ []) (x ∷ [])
    → found ++ marked_ids (drop k ms) (drop k xs) ≡ marked_ids ms xs
    → now ++ marked_ids rest others ≡ marked_ids ms xs
marked_more ms xs found now k true x rest others here there is so =
    ap (λ ys. ys ++ marked_ids rest others) is ∙ append_assoc found (x ∷ []) (marked_ids rest others)
    ∙ sym (ap (λ ys. found ++ marked_ids ys (drop k xs)) here ∙ ap (λ ys. found ++ marked_ids (true ∷ rest) ys) there) ∙ so
marked_more ms xs found now k false x rest others here there is so =
    ap (λ ys. ys ++ marked_ids rest others) (is ∙ append-nil found)
    ∙ sym (ap (λ ys. found ++ marked_ids ys (drop k xs)) here ∙ ap (λ ys. found ++ marked_ids (false ∷ rest) ys) there) ∙ so
