-- The entries of a map are those that it was made from, in another order, where keys differ; and so are those that pass a test.
use Rattle.std.proofs.Common.{◌≡◌, inl, inr, ℕ, Bool, true, false, cond, List, [], ◌∷◌, filter, length, IsPermutation, refl}
use Rattle.std.proofs.Common.{sym, subst, ◌∙◌, arith}
use Rattle.std.specs.FinMap as fin
use Rattle.std.specs.FinMap.{entries-insert, len-empty, len-entries, slice_cmp-IsAntisymmetric, nat_cmp-IsAntisymmetric}
use Rattle.std.specs.FinMap.Entries.{by_order, put}
use Rattle.std.specs.Cmp.Lexicographic.{nat_list_cmp_total}
use Rattle.std.specs.List.{Any}
use Rattle.std.specs.declared.cmp.Ordering.{Ordering}
use Rattle.std.specs.declared.cmp.Ordering.TheVariants.{Less, Equal, Greater}
use Rattle.std.proofs.lemmas.List.Sorted.{IsPermutation-refl, IsPermutation-trans, IsPermutation-cons, IsPermutation-append_left}
use Rattle.std.proofs.lemmas.List.Sorted.{IsPermutation-append_comm, Contains-permutation}
use Rattle.sm_model.specs.Formed.{StandsAmong, DifferInNames}
use Rattle.sm_model.specs.Graphs.{text_cmp}
use Rattle.sm_model.proofs.MapFacts.{keys}
use Rattle.sm_model.proofs.Moved.{along_permutation, keeps_names}

module _ {X : Type 0} where
  exchanged : (x y : X) (xs : List X) → IsPermutation (x ∷ y ∷ xs) (y ∷ x ∷ xs)
  exchanged x y xs = IsPermutation-append_left xs (x ∷ y ∷ []) (y ∷ x ∷ []) (IsPermutation-append_comm (x ∷ []) (y ∷ []))

  -- what passes a test moves with the list
  module _ (test : X → Bool) where
    kept_one : (x : X) (xs ys : List X) → IsPermutation (filter test xs) (filter test ys) → (b : Bool)
        → IsPermutation (cond b (x ∷ filter test xs) (filter test xs)) (cond b (x ∷ filter test ys) (filter test ys))
    kept_one x xs ys h true = IsPermutation-cons x _ _ h
    kept_one x xs ys h false = h

    kept_two : (x y : X) (xs : List X) (b c : Bool)
        → IsPermutation (cond b (x ∷ cond c (y ∷ xs) xs) (cond c (y ∷ xs) xs)) (cond c (y ∷ cond b (x ∷ xs) xs) (cond b (x ∷ xs) xs))
    kept_two x y xs true true = exchanged x y xs
    kept_two x y xs true false = IsPermutation-refl _
    kept_two x y xs false true = IsPermutation-refl _
    kept_two x y xs false false = IsPermutation-refl _

    pub filter_moved : (xs ys : List X) → IsPermutation xs ys → IsPermutation (filter test xs) (filter test ys)
    filter_moved = along_permutation (λ xs ys. IsPermutation (filter test xs) (filter test ys))
        (λ xs. IsPermutation-refl _)
        (λ x xs ys h. kept_one x xs ys h (test x))
        (λ x y xs. kept_two x y (filter test xs) (test x) (test y))
        (λ xs ys zs. IsPermutation-trans _ _ _)

  pub any_moved : (P : X → Type 0) (xs ys : List X) → IsPermutation xs ys → Any P xs → Any P ys
  any_moved P xs ys moved (k, x, inside, at, holds) =
      let c = Contains-permutation xs ys x moved (k, inside, at) in (c.0, x, c.1, c.2, holds)

module _ {X : Type 0} where
  put_moves : (k : List ℕ) (v : X) (es : List (List ℕ × X)) → (StandsAmong k (keys es) → ⊥)
      → IsPermutation ((k, v) ∷ es) (put text_cmp k v es)
  put_moves k v [] apart = IsPermutation-refl _
  put_moves k v (e ∷ es) apart = by_test (put_moves k v es (λ s. apart (inr s))) (text_cmp k e.0) refl
    where
      by_test : IsPermutation ((k, v) ∷ es) (put text_cmp k v es) → (r : Ordering) → text_cmp k e.0 ≡ r
          → IsPermutation ((k, v) ∷ e ∷ es) (by_order r ((k, v) ∷ e ∷ es) ((e.0, v) ∷ es) (e ∷ put text_cmp k v es))
      by_test rest Less is = IsPermutation-refl _
      by_test rest Equal is = absurd (apart (inl (slice_cmp-IsAntisymmetric nat_cmp-IsAntisymmetric k e.0 is)))
      by_test rest Greater is = IsPermutation-trans _ _ _ (exchanged (k, v) e es) (IsPermutation-cons e _ _ rest)

  -- one more entry
  pub insert_moves : (m : fin.FinMap text_cmp X) (k : List ℕ) (v : X) → (StandsAmong k (keys (fin.entries m)) → ⊥)
      → IsPermutation ((k, v) ∷ fin.entries m) (fin.entries (fin.insert m k v))
  insert_moves m k v apart =
      subst (IsPermutation ((k, v) ∷ fin.entries m)) (sym (entries-insert nat_list_cmp_total m k v)) (put_moves k v (fin.entries m) apart)

  none_left : (es : List (List ℕ × X)) → length es ≡ 0 → es ≡ []
  none_left [] h = refl
  none_left (e ∷ es) h = absurd (omega (arith, h))

  no_entries : fin.entries (fin.empty {X = X} {R = text_cmp}) ≡ []
  no_entries = none_left _ (sym (len-entries {R = text_cmp} fin.empty) ∙ len-empty text_cmp X)

  -- all entries
  pub entries_moved : (es : List (List ℕ × X)) → DifferInNames (keys es)
      → IsPermutation es (fin.entries (fin.from_entries {R = text_cmp} es))
  entries_moved [] d = subst (IsPermutation []) (sym no_entries) (IsPermutation-refl _)
  entries_moved (e ∷ es) d =
      let rest = entries_moved es d.1 in
      IsPermutation-trans _ _ _ (IsPermutation-cons e _ _ rest)
      (insert_moves (fin.from_entries es) e.0 e.1 (λ s. d.0 ((keeps_names (λ (f : List ℕ × X). f.0) es _ rest).stand e.0 s)))
