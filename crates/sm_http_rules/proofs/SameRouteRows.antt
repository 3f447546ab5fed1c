-- Rows in the order of their texts: those with one text stand next to each other, and are put together.
use Rattle.std.proofs.Common.{◌≡◌, ◌⊎◌, ◌<◌, ◌≤◌, ◌+◌, ◌-◌, inl, inr, ℕ, Bool, false, List, [], ◌∷◌, ◌++◌, Option, None, Some, refl, sym}
use Rattle.std.proofs.Common.{ap, subst, ◌∙◌, arith, drop, get_or, length, replicate, take}
use Rattle.std.specs.Prelude.{set}
use Rattle.std.proofs.Math.Seq.{take-add}
use Rattle.std.specs.Cmp.Lexicographic.{nat_list_cmp_total}
use Rattle.std.specs.List.{All, Contains}
use Rattle.std.specs.List.Sorted.{IsPermutation}
use Rattle.std.specs.Map.{values_of}
use Rattle.std.specs.Ordering.{is_lt}
use Rattle.std.specs.declared.cmp.Ordering.{Ordering}
use Rattle.std.specs.declared.cmp.Ordering.TheVariants.{Equal, Greater, Less}
use Rattle.std.proofs.lemmas.Bool.{cases_eq, cases_lt}
use Rattle.std.proofs.lemmas.List.{drop-drop, drop_all, get_or-drop, get_or-replicate, get_or-set_other, get_or-set_same, get_or-take}
use Rattle.std.proofs.lemmas.List.{get_or_default, get_or_past, length-drop, length-replicate, length-take, map-append, take-append-drop}
use Rattle.std.proofs.lemmas.List.{take_more}
use Rattle.std.proofs.lemmas.List.Elements.{All-contains, Contains-append_cases, Contains-append_left, Contains-append_right}
use Rattle.std.proofs.lemmas.List.Elements.{Contains-get_or, Contains-push, Contains-push_cases}
use Rattle.std.proofs.lemmas.Option.{none-some, same_Some}
use Rattle.std.proofs.lemmas.Map.Made.{Contains-from_values_of, Contains-values_of}
use Rattle.std.proofs.lemmas.List.Sorted.{Contains-permutation, IsPermutation-sym, ranks_by, sorted_far}
use Rattle.sm_model.specs.Graphs.{text_cmp}
use Rattle.sm_model.specs.GraphView.{IsShapeNumber, maps_of}
use Rattle.sm_model.specs.Reaching.{id_of_number}
use Rattle.sm_model.specs.declared.graph.Graph.{Graph}
use Rattle.sm_model.specs.Joins.{Joins}
use Rattle.sm_model.proofs.Linking.{joins_none, joins_one, joins_same}
use Rattle.sm_model.proofs.OneRising.{contains_none}
use Rattle.sm_model.proofs.Worklist.{apart}
use Rattle.sm_passes.proofs.SharedClosures.{of_first, of_rest}
use Rattle.sm_http_rules.specs.steps.Routes.{AreRoutes, AreRoutesBelow, IsRouteKey}
use Rattle.sm_http_rules.specs.steps.SameRoutes.{AreGathered, AreInOrder, AreSameRoutes, AreTogether, HasRoute, HasRow, HaveOneText}
use Rattle.sm_http_rules.specs.steps.SameRoutes.{IsFirstPut, IsPutUnder, IsRun}
use Rattle.sm_http_rules.proofs.RouteKeys.{one_key}
use Rattle.sm_http_rules.proofs.ShortestKept.{same_text, turned_less}

-- one more row, where a number has one thing at most
module _ {X : Type 0} (Is : ℕ → X → Type 0) (n : ℕ) where
  abbrev IsRowAt : X × ℕ → Type 0
  IsRowAt r = (r.1 ≡ n) × Is r.1 r.0

  pub row_joined : (key : X) (olds news : List (X × ℕ)) → ((a b : X) → Is n a → Is n b → a ≡ b) → Is n key
      → news ≡ olds ++ (key, n) ∷ [] → Joins (Contains olds) IsRowAt (Contains news)
  row_joined key olds news one here is =
      joins_same (Contains olds) (λ r. r ≡ (key, n)) IsRowAt (Contains news) (λ r. (forth r, back r))
      (subst (λ rs. Joins (Contains olds) (λ r. r ≡ (key, n)) (Contains rs)) (sym is) (joins_one (key, n) olds))
    where
      forth : (r : X × ℕ) → r ≡ (key, n) → IsRowAt r
      forth r same = subst IsRowAt (sym same) (refl, here)

      back : (r : X × ℕ) → IsRowAt r → r ≡ (key, n)
      back r h = let keys = one r.0 key (subst (λ k. Is k r.0) h.0 h.1) here in λ i. (keys i, h.0 i)

  pub none_joined : (rows : List (X × ℕ)) → ((key : X) → Is n key → ⊥) → Joins (Contains rows) IsRowAt (Contains rows)
  none_joined rows none =
      joins_none (Contains rows) IsRowAt (λ r h. none r.0 (subst (λ k. Is k r.0) h.0 h.1))

-- the rows of a graph, number by number
module _ (g : Graph) where
  abbrev IsRouteOf : ℕ → List ℕ → Type 0
  IsRouteOf k key = IsRouteKey (maps_of g) (id_of_number g k) key

  pub routes_next : (n : ℕ) (olds news : List (List ℕ × ℕ)) → AreRoutesBelow g n olds
      → Joins (Contains olds) (IsRowAt IsRouteOf n) (Contains news) → AreRoutesBelow g (n + 1) news
  routes_next n olds news before joins r = (forth, back)
    where
      forth : Contains news r → (r.1 < n + 1) × IsRouteKey (maps_of g) (id_of_number g r.1) r.0
      forth h = elim ((joins r).0 h) [
        | inl old ↦ (let b = (before r).0 old in let small = b.0 in (omega (arith, small), b.1))
        | inr last ↦ (let is = last.0 in (omega (arith, is), last.1))
      ]

      back : (r.1 < n + 1) × IsRouteKey (maps_of g) (id_of_number g r.1) r.0 → Contains news r
      back h = elim (cases_lt r.1 n) [
        | inl small ↦ (joins r).1 (inl ((before r).1 (small, h.1)))
        | inr more ↦ (let less = h.0 in (joins r).1 (inr (omega (arith, less, more), h.1)))
      ]

between : (a b : List ℕ) → is_lt (text_cmp a b) ≡ false → is_lt (text_cmp b a) ≡ false → a ≡ b
between a b first second = by (text_cmp a b) refl
  where
    by : (o : Ordering) → text_cmp a b ≡ o → a ≡ b
    by Less is = absurd (apart (sym first ∙ ap is_lt is))
    by Equal is = same_text a b is
    by Greater is = absurd (apart (sym second ∙ ap is_lt (turned_less a b is)))

module _ (rows : List (List ℕ × ℕ)) (order : AreInOrder rows) where
  -- what stands between two rows with one text has it too
  one_text : (i j p : ℕ) (d : List ℕ × ℕ) → i ≤ j → j ≤ p → p < length rows → (get_or rows i d).0 ≡ (get_or rows p d).0
      → (get_or rows j d).0 ≡ (get_or rows p d).0
  one_text i j p d low high within same =
      let lt : List ℕ × ℕ → List ℕ × ℕ → Bool = λ a b. is_lt (text_cmp a.0 b.0) in
      between (get_or rows j d).0 (get_or rows p d).0
      (subst (λ k. is_lt (text_cmp (get_or rows j d).0 k) ≡ false) same
      (sorted_far lt (ranks_by nat_list_cmp_total (λ r. r.0)) rows order i j d low (omega (arith, high, within))))
      (sorted_far lt (ranks_by nat_list_cmp_total (λ r. r.0)) rows order j p d high within)

  module _ (first : List ℕ × ℕ) (is : first ≡ get_or rows 0 first) where
    pub run_ended : (count : ℕ) (row : List ℕ × ℕ) → count < length rows → row ≡ get_or rows count row
        → All (λ r. r.0 ≡ first.0) (take count rows) → (row.0 ≡ first.0 → ⊥) → IsRun rows count
    run_ended count row within at all other = record {
      key = first.0;
      one = λ r there. All-contains (λ s. s.0 ≡ first.0) (take count rows) r all there;
      alone = λ r there same. none r there.0 there.1 there.2 same;
    }
      where
        none : (r : List ℕ × ℕ) (m : ℕ) → m < length (drop count rows) → get_or (drop count rows) m r ≡ r → r.0 ≡ first.0 → ⊥
        none r m small found same =
            let long = length-drop count rows in
            let inside : count + m < length rows = omega (arith, small, long, within) in
            let here : get_or rows (count + m) first ≡ r =
            get_or_default rows (count + m) first r inside ∙ sym (get_or-drop count rows m r) ∙ found in
            let there : get_or rows count first ≡ row = get_or_default rows count first row within ∙ sym at in
            let ends : (get_or rows 0 first).0 ≡ (get_or rows (count + m) first).0 =
            (λ i. (sym is i).0) ∙ sym same ∙ (λ i. (sym here i).0) in
            other
            ((λ i. (sym there i).0) ∙ one_text 0 count (count + m) first (omega arith) (omega arith) inside ends ∙ (λ i. (here i).0) ∙ same)

    pub run_whole : All (λ r. r.0 ≡ first.0) (take (length rows) rows) → IsRun rows (length rows)
    run_whole all = record {
      key = first.0;
      one = λ r there. All-contains (λ s. s.0 ≡ first.0) (take (length rows) rows) r all there;
      alone = λ r there same. contains_none r (subst (λ rs. Contains rs r) (drop_all (length rows) rows (omega arith)) there);
    }

  pub order_of_rest : (n : ℕ) → AreInOrder (drop n rows)
  order_of_rest n k d low within =
      let long = length-drop n rows in
      let inside : (n + k) + 1 < length rows = omega (arith, within, long) in
      let next : (n + k) + 1 ≡ n + (k + 1) = omega arith in
      let one = get_or-drop n rows k d in
      let other : get_or (drop n rows) (k + 1) d ≡ get_or rows ((n + k) + 1) d =
      get_or-drop n rows (k + 1) d ∙ ap (λ i. get_or rows i d) (sym next) in
      (λ i. is_lt (text_cmp (other i).0 (one i).0)) ∙ order (n + k) d (omega arith) inside

-- two that differ don't stand in one row alone
two_rows : (rows : List (List ℕ × ℕ)) (count : ℕ) (r s : List ℕ × ℕ) → count ≤ 1 → Contains (take count rows) r
    → Contains (take count rows) s → r ≡ s
two_rows rows count r s few (i, small, is) (j, less, at) = sym is ∙ first ∙ at
  where
    long : length (take count rows) ≤ 1
    long = let m = length-take count rows in omega (arith, m, few)

    first : get_or (take count rows) i r ≡ get_or (take count rows) j s
    first =
        let same : i ≡ j = omega (arith, small, less, long) in
        ap (λ n. get_or (take count rows) n r) same ∙ get_or_default (take count rows) j r s less

-- nothing stands under any number
module _ (firsts : List (Option ℕ)) (none : (k : ℕ) → get_or firsts k None ≡ None) where
  none_under : (k first : ℕ) → get_or firsts k None ≡ Some first → ⊥
  none_under k first is = none-some first (sym (none k) ∙ is)

  pub gathered_none : (rows : List (List ℕ × ℕ)) → AreGathered rows 0 firsts
  gathered_none rows = record {
    together = record {
      one = λ k first is. absurd (none_under k first is);
      all = λ key j k less there. absurd (contains_none (key, j) there);
    };
    differ = λ r s there. absurd (contains_none r there);
  }

-- one thing so many times
pub all_one : {X : Type 0} (x : X) (n k : ℕ) → get_or (replicate n x) k x ≡ x
all_one x n k = elim (cases_lt k n) [
  | inl less ↦ get_or-replicate n k x x less
  | inr more ↦ get_or_past (replicate n x) k x (let long = length-replicate n x in omega (arith, more, long))
]

-- the numbers of some rows are numbers of all
pub values_within : (xs ys : List (List ℕ × ℕ)) → ((r : List ℕ × ℕ) → Contains xs r → Contains ys r) → (k : ℕ)
    → Contains (values_of xs) k → Contains (values_of ys) k
values_within xs ys within k h =
    let found = Contains-from_values_of xs k h in Contains-values_of ys found.0 k (within (found.0, k) found.1)

pub values_of_first : (n : ℕ) (rows : List (List ℕ × ℕ)) (k : ℕ) → Contains (values_of (take n rows)) k → Contains (values_of rows) k
values_of_first n rows = values_within (take n rows) rows (of_first (Contains rows) n rows (λ r h. h))

pub values_of_rest : (n : ℕ) (rows : List (List ℕ × ℕ)) (k : ℕ) → Contains (values_of (take (length rows - n) (drop n rows))) k
    → Contains (values_of rows) k
values_of_rest n rows = values_within (take (length rows - n) (drop n rows)) rows (of_rest (Contains rows) n rows (λ r h. h))

-- the first row is one of the first so many
pub first_value : (rows : List (List ℕ × ℕ)) (count : ℕ) (d : List ℕ × ℕ) → 0 < count → count ≤ length rows
    → Contains (values_of (take count rows)) (get_or rows 0 d).1
first_value rows count d some within =
    let long = length-take count rows in
    let r = get_or rows 0 d in
    let same : get_or (take count rows) 0 r ≡ r =
    get_or-take count rows 0 r some ∙ get_or_default rows 0 r d (omega (arith, some, within)) in
    Contains-values_of (take count rows) r.0 r.1 (0, omega (arith, some, within, long), same)

-- a number is put under one more
module _ (first x : ℕ) (ks : List ℕ) (olds mids : List (Option ℕ)) (before : IsPutUnder first ks olds mids) (within : x < length mids)
  where
    pub under_next : IsPutUnder first (ks ++ x ∷ []) olds (set mids x (Some first))
    under_next k = by (cases_eq k x) (before k)
      where
        by : (k ≡ x) ⊎ (k ≡ x → ⊥)
            → (Contains ks k × (get_or mids k None ≡ Some first)) ⊎ ((Contains ks k → ⊥) × (get_or mids k None ≡ get_or olds k None))
            → (Contains (ks ++ x ∷ []) k × (get_or (set mids x (Some first)) k None ≡ Some first))
            ⊎ ((Contains (ks ++ x ∷ []) k → ⊥) × (get_or (set mids x (Some first)) k None ≡ get_or olds k None))
        by (inl same) h = inl (
          subst (Contains (ks ++ x ∷ [])) (sym same) (Contains-push ks x),
          ap (λ n. get_or (set mids x (Some first)) n None) same ∙ get_or-set_same mids x (Some first) None within,
        )
        by (inr other) (inl h) = inl (Contains-append_left ks (x ∷ []) k h.0, get_or-set_other mids x k (Some first) None other ∙ h.1)
        by (inr other) (inr h) = inr (
          λ there. elim (Contains-push_cases ks x k there) [ inl old ↦ h.0 old | inr is ↦ other (sym is) ],
          get_or-set_other mids x k (Some first) None other ∙ h.1,
        )

-- a row's number is one of a list as long
pub row_within : (rows : List (List ℕ × ℕ)) (n : ℕ) → ((k : ℕ) → Contains (values_of rows) k → k < n) → (i : ℕ) (r : List ℕ × ℕ)
    → i < length rows → r ≡ get_or rows i r → (m : ℕ) → m ≡ n → r.1 < m
row_within rows n all i r small is m same =
    subst (λ x. r.1 < x) (sym same)
    (all r.1 (Contains-values_of rows r.0 r.1 (subst (Contains rows) (sym is) (Contains-get_or rows i r small))))

-- row by row
pub under_row : (first : ℕ) (rows : List (List ℕ × ℕ)) (i : ℕ) (r : List ℕ × ℕ) → i < length rows → r ≡ get_or rows i r
    → (olds mids : List (Option ℕ)) → IsPutUnder first (values_of (take i rows)) olds mids → r.1 < length mids
    → IsPutUnder first (values_of (take (i + 1) rows)) olds (set mids r.1 (Some first))
under_row first rows i r small is olds mids before within =
    let parts : values_of (take (i + 1) rows) ≡ values_of (take i rows) ++ r.1 ∷ [] =
    ap values_of (take_more rows i r small) ∙ map-append (λ x. x.1) (take i rows) (get_or rows i r ∷ [])
    ∙ ap (λ x. values_of (take i rows) ++ x.1 ∷ []) (sym is) in
    subst (λ ks. IsPutUnder first ks olds (set mids r.1 (Some first))) (sym parts)
    (under_next first r.1 (values_of (take i rows)) olds mids before within)

-- one more run
module _ (rows : List (List ℕ × ℕ)) (texts : HaveOneText rows) (begin count : ℕ) (olds news : List (Option ℕ))
    (before : AreGathered rows begin olds)
    (run : IsRun (drop begin rows) count)
    (put : IsFirstPut (drop begin rows) count olds news) where
  abbrev old : List (List ℕ × ℕ)
  old = take begin rows

  abbrev new : List (List ℕ × ℕ)
  new = take count (drop begin rows)

  abbrev set_of : List ℕ
  set_of = values_of new

  parts : take (begin + count) rows ≡ old ++ new
  parts = take-add begin count rows

  from_old : (k : ℕ) (key : List ℕ) → HasRow old k key → HasRow (take (begin + count) rows) k key
  from_old k key h = subst (λ rs. Contains rs (key, k)) (sym parts) (Contains-append_left old new (key, k) h)

  in_set : (k : ℕ) → Contains set_of k → HasRow new k run.key
  in_set k h =
      let found = Contains-from_values_of new k h in
      subst (λ key. Contains new (key, k)) (run.one (found.0, k) found.1) found.1

  from_set : (k : ℕ) → Contains set_of k → HasRow (take (begin + count) rows) k run.key
  from_set k h = subst (λ rs. Contains rs (run.key, k)) (sym parts) (Contains-append_right old new (run.key, k) (in_set k h))

  in_rest : (r : List ℕ × ℕ) → Contains new r → Contains (drop begin rows) r
  in_rest r h =
      subst (λ rs. Contains rs r) (take-append-drop count (drop begin rows)) (Contains-append_left new (drop count (drop begin rows)) r h)

  all_old : (r : List ℕ × ℕ) → Contains old r → Contains rows r
  all_old r h = subst (λ rs. Contains rs r) (take-append-drop begin rows) (Contains-append_left old (drop begin rows) r h)

  all_new : (r : List ℕ × ℕ) → Contains new r → Contains rows r
  all_new r h = subst (λ rs. Contains rs r) (take-append-drop begin rows) (Contains-append_right old (drop begin rows) r (in_rest r h))

  -- no number stands in both
  apart_from_old : (k : ℕ) (key : List ℕ) → HasRow old k key → Contains set_of k → ⊥
  apart_from_old k key h there =
      let here = in_set k there in
      before.differ (key, k) (run.key, k) h (in_rest (run.key, k) here)
      (texts k key run.key (all_old (key, k) h) (all_new (run.key, k) here))

  abbrev HasOne : ℕ → ℕ → Type 0
  HasOne k first = (key : List ℕ) × HasRow (take (begin + count) rows) k key × HasRow (take (begin + count) rows) first key

  one_before : (k first : ℕ) → get_or olds k None ≡ Some first → HasOne k first
  one_before k first is = let t = before.together.one k first is in (t.0, from_old k t.0 t.1, from_old first t.0 t.2)

  one_under : (k first : ℕ) → get_or news k None ≡ Some first → HasOne k first
  one_under k first is = elim (cases_lt 1 count) [
    | inl more ↦ (
        let p = put.several more in
        elim (p.2 k) [
          | inl here ↦ (
              let same : first ≡ p.0 = same_Some first p.0 (sym is ∙ here.1) in
              (run.key, from_set k here.0, from_set first (subst (Contains set_of) (sym same) p.1)))
          | inr other ↦ one_before k first (sym other.1 ∙ is)
        ])
    | inr few ↦ one_before k first (ap (λ fs. get_or fs k None) (sym (put.alone few)) ∙ is)
  ]

  abbrev IsTogether : ℕ → ℕ → Type 0
  IsTogether j k = (first : ℕ) × (get_or news j None ≡ Some first) × (get_or news k None ≡ Some first)

  both_new : (key : List ℕ) (j k : ℕ) → j < k → Contains new (key, j) → Contains new (key, k) → IsTogether j k
  both_new key j k less at_j at_k = elim (cases_lt 1 count) [
    | inl more ↦ (let p = put.several more in (p.0, here p.0 p.2 j at_j, here p.0 p.2 k at_k))
    | inr few ↦ (
        let same : j ≡ k = ap (λ r. r.1) (two_rows (drop begin rows) count (key, j) (key, k) few at_j at_k) in
        absurd (omega (arith, same, less)))
  ]
    where
      here : (first : ℕ) → IsPutUnder first set_of olds news → (n : ℕ) → Contains new (key, n) → get_or news n None ≡ Some first
      here first puts n there = elim (puts n) [
        | inl h ↦ h.1
        | inr h ↦ absurd (h.0 (Contains-values_of new key n there))
      ]

  -- what stood under a number stands there still
  kept : (k : ℕ) (key : List ℕ) (first : ℕ) → HasRow old k key → get_or olds k None ≡ Some first → get_or news k None ≡ Some first
  kept k key first h is = elim (cases_lt 1 count) [
    | inl more ↦ elim ((put.several more).2 k) [
      | inl here ↦ absurd (apart_from_old k key h here.0)
      | inr other ↦ other.1 ∙ is
    ]
    | inr few ↦ ap (λ fs. get_or fs k None) (put.alone few) ∙ is
  ]

  any_two : (key : List ℕ) (j k : ℕ) → j < k → Contains (old ++ new) (key, j) → Contains (old ++ new) (key, k) → IsTogether j k
  any_two key j k less at_j at_k =
      by (Contains-append_cases old new (key, j) at_j) (Contains-append_cases old new (key, k) at_k)
    where
      by : Contains old (key, j) ⊎ Contains new (key, j) → Contains old (key, k) ⊎ Contains new (key, k) → IsTogether j k
      by (inl a) (inl b) = let t = before.together.all key j k less a b in (t.0, kept j key t.0 a t.1, kept k key t.0 b t.2)
      by (inl a) (inr b) = absurd (before.differ (key, j) (key, k) a (in_rest (key, k) b) refl)
      by (inr a) (inl b) = absurd (before.differ (key, k) (key, j) b (in_rest (key, j) a) refl)
      by (inr a) (inr b) = both_new key j k less a b

  none_behind : (r s : List ℕ × ℕ) → Contains (old ++ new) r → Contains (drop count (drop begin rows)) s → r.0 ≡ s.0 → ⊥
  none_behind r s there behind same = elim (Contains-append_cases old new r there) [
    | inl a ↦ before.differ r s a
        (subst (λ rs. Contains rs s) (take-append-drop count (drop begin rows))
        (Contains-append_right new (drop count (drop begin rows)) s behind)) same
    | inr b ↦ run.alone s behind (sym same ∙ run.one r b)
  ]

  pub gathered_next : AreGathered rows (begin + count) news
  gathered_next = record {
    together = record {
      one = one_under;
      all = λ key j k less at_j at_k. any_two key j k less (subst (λ rs. Contains rs (key, j)) parts at_j)
          (subst (λ rs. Contains rs (key, k)) parts at_k);
    };
    differ = λ r s there behind same. none_behind r s (subst (λ rs. Contains rs r) parts there)
        (subst (λ rs. Contains rs s) (sym (drop-drop count begin rows)) behind) same;
  }

-- rows of a graph in another order
module _ (g : Graph) (xs ys : List (List ℕ × ℕ)) (moved : IsPermutation xs ys) (are : AreRoutes g xs) where
  route : (k : ℕ) (key : List ℕ) → HasRow ys k key → HasRoute g k key
  route k key h = (are (key, k)).0 (Contains-permutation ys xs (key, k) (IsPermutation-sym xs ys moved) h)

  row : (k : ℕ) (key : List ℕ) → HasRoute g k key → HasRow ys k key
  row k key h = Contains-permutation xs ys (key, k) moved ((are (key, k)).1 h)

  pub routes_together : (firsts : List (Option ℕ)) → AreTogether (HasRow ys) firsts → AreSameRoutes g firsts
  routes_together firsts together = record {
    one = λ k first is. (let t = together.one k first is in (t.0, route k t.0 t.1, route first t.0 t.2));
    all = λ key j k less at_j at_k. together.all key j k less (row j key at_j) (row k key at_k);
  }

  pub routes_of_one : HaveOneText ys
  routes_of_one k one other h i = one_key (maps_of g) (id_of_number g k) one other (route k one h).1 (route k other i).1

  pub routes_within : (k : ℕ) → Contains (values_of ys) k → IsShapeNumber g k
  routes_within k h = let found = Contains-from_values_of ys k h in (route k found.0 found.1).0
