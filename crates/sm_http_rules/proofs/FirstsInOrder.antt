-- Rows of numbers and what stands under them: those of a list of numbers, and those with one first, which follow each other.
use Rattle.std.proofs.Common.{◌≡◌, ◌<◌, ◌≤◌, ◌+◌, inl, inr, ℕ, Bool, List, [], ◌∷◌, ◌++◌, drop, get_or, length, take, Option, None, Some}
use Rattle.std.proofs.Common.{sym, ap, subst, ◌∙◌, arith}
use Rattle.std.specs.Prelude.{◌↔◌}
use Rattle.std.specs.List.{Contains}
use Rattle.std.specs.List.Sorted.{IsPermutation}
use Rattle.std.specs.Ordering.{is_lt, nat_cmp}
use Rattle.std.proofs.lemmas.Bool.{cases_lt}
use Rattle.std.proofs.lemmas.Cmp.{nat_cmp_total}
use Rattle.std.proofs.lemmas.List.{get_or-drop, get_or-take, get_or_default, length-drop, length-take, take-append-drop}
use Rattle.std.proofs.lemmas.List.Elements.{Contains-append_cases, Contains-append_left, Contains-append_right, Contains-push}
use Rattle.std.proofs.lemmas.List.Elements.{Contains-push_cases}
use Rattle.std.proofs.lemmas.List.Sorted.{Contains-permutation, IsPermutation-sym, ranks_by, sorted_far}
use Rattle.std.proofs.lemmas.Map.Keys.{ge_from_not_lt}
use Rattle.sm_model.specs.Joins.{Joins}
use Rattle.sm_model.proofs.OneRising.{contains_none}
use Rattle.sm_http_rules.specs.steps.SameRoutes.{AreByFirsts, AreUnder, IsRunFrom, first_at}

module _ (firsts : List (Option ℕ)) where
  pub none_of_none : AreUnder firsts [] []
  none_of_none r = (λ h. absurd (contains_none r h), λ h. absurd (contains_none r.1 h.0))

  -- with one more number
  pub rows_next : (ks : List ℕ) (x : ℕ) (olds news : List (ℕ × ℕ)) → AreUnder firsts ks olds
      → Joins (Contains olds) (λ r. (r.1 ≡ x) × (get_or firsts r.1 None ≡ Some r.0)) (Contains news)
      → AreUnder firsts (ks ++ x ∷ []) news
  rows_next ks x olds news before joins r = (forth, back)
    where
      forth : Contains news r → Contains (ks ++ x ∷ []) r.1 × (get_or firsts r.1 None ≡ Some r.0)
      forth h = elim ((joins r).0 h) [
        | inl old ↦ (let b = (before r).0 old in (Contains-append_left ks (x ∷ []) r.1 b.0, b.1))
        | inr last ↦ (subst (Contains (ks ++ x ∷ [])) (sym last.0) (Contains-push ks x), last.1)
      ]

      back : Contains (ks ++ x ∷ []) r.1 × (get_or firsts r.1 None ≡ Some r.0) → Contains news r
      back h = elim (Contains-push_cases ks x r.1 h.0) [
        | inl old ↦ (joins r).1 (inl ((before r).1 (old, h.1)))
        | inr is ↦ (joins r).1 (inr (sym is, h.1))
      ]

  -- in another order
  pub rows_moved : (ks : List ℕ) (xs ys : List (ℕ × ℕ)) → IsPermutation xs ys → AreUnder firsts ks xs → AreUnder firsts ks ys
  rows_moved ks xs ys moved are r = (
    λ h. (are r).0 (Contains-permutation ys xs r (IsPermutation-sym xs ys moved) h),
    λ h. Contains-permutation xs ys r moved ((are r).1 h),
  )

module _ (rows : List (ℕ × ℕ)) where
  pub run_begun : IsRunFrom rows 0 0
  run_begun = record {
    within = omega arith;
    smaller = λ i less. absurd (omega (arith, less));
    same = λ i low less. absurd (omega (arith, less));
  }

  module _ (begin place : ℕ) (before : IsRunFrom rows begin place) where
    pub run_kept : first_at rows begin ≡ first_at rows place → IsRunFrom rows begin (place + 1)
    run_kept is = record {
      within = let low = before.within in omega (arith, low);
      smaller = before.smaller;
      same = λ i low less. elim (cases_lt i place) [
        | inl small ↦ before.same i low small
        | inr more ↦ (let last : i ≡ place = omega (arith, less, more) in ap (first_at rows) last ∙ sym is)
      ];
    }

    module _ (order : AreByFirsts rows) (within : place < length rows) (other : first_at rows begin ≡ first_at rows place → ⊥) where
      up : first_at rows begin < first_at rows place
      up =
          let lt : ℕ × ℕ → ℕ × ℕ → Bool = λ a b. is_lt (nat_cmp a.0 b.0) in
          let rises = ge_from_not_lt (first_at rows place) (first_at rows begin)
          (sorted_far lt (ranks_by nat_cmp_total (λ r. r.0)) rows order begin place (0, 0) before.within within) in
          elim (cases_lt (first_at rows begin) (first_at rows place)) [
            | inl less ↦ less
            | inr more ↦ absurd (other (omega (arith, rises, more)))
          ]

      all_smaller : (i : ℕ) → i < place → first_at rows i < first_at rows place
      all_smaller i less = elim (cases_lt i begin) [
        | inl small ↦ (let h = before.smaller i small in let u = up in omega (arith, h, u))
        | inr more ↦ (let h = before.same i more less in let u = up in omega (arith, h, u))
      ]

      pub run_new : IsRunFrom rows place (place + 1)
      run_new = record {
        within = omega arith;
        smaller = all_smaller;
        same = λ i low less. (let last : i ≡ place = omega (arith, low, less) in ap (first_at rows) last);
      }

  -- the rows of a run before a place
  module _ (begin place : ℕ) (run : IsRunFrom rows begin (place + 1)) (low : begin ≤ place) (within : place < length rows) where
    abbrev front : List (ℕ × ℕ)
    front = take place rows

    here : (i : ℕ) (r : ℕ × ℕ) → i < place → get_or front i r ≡ r → first_at rows i ≡ r.0
    here i r less is =
        let small : i < length rows = omega (arith, less, within) in
        let read : get_or rows i (0, 0) ≡ r = get_or_default rows i (0, 0) r small ∙ sym (get_or-take place rows i r less) ∙ is in
        λ n. (read n).0

    last : first_at rows begin ≡ first_at rows place
    last = sym (run.same place low (omega arith))

    forth : (r : ℕ × ℕ) → Contains (drop begin front) r → Contains front r × (r.0 ≡ first_at rows place)
    forth r (i, less, is) =
        let long = length-drop begin front in
        let all = length-take place rows in
        let inside : begin + i < place = omega (arith, less, long, all, within) in
        let first = here (begin + i) r inside (sym (get_or-drop begin front i r) ∙ is) in (
          subst (λ rs. Contains rs r) (take-append-drop begin front)
              (Contains-append_right (take begin front) (drop begin front) r (i, less, is)),
          sym first ∙ run.same (begin + i) (omega arith) (omega (arith, inside)) ∙ last,
        )

    none_before : (r : ℕ × ℕ) → Contains (take begin front) r → r.0 ≡ first_at rows place → ⊥
    none_before r (i, less, is) same =
        let few = length-take begin front in
        let small : i < begin = omega (arith, less, few) in
        let inside : i < place = omega (arith, small, low) in
        let first = here i r inside (sym (get_or-take begin front i r small) ∙ is) in
        let less = run.smaller i small in
        let end = last in
        omega (arith, less, first, same, end)

    pub run_rows : (r : ℕ × ℕ) → Contains (drop begin front) r ↔ (Contains front r × (r.0 ≡ first_at rows place))
    run_rows r = (
      forth r,
      λ h. elim (Contains-append_cases (take begin front) (drop begin front) r
          (subst (λ rs. Contains rs r) (sym (take-append-drop begin front)) h.0)) [
            | inl a ↦ absurd (none_before r a h.1)
            | inr b ↦ b
          ],
    )
