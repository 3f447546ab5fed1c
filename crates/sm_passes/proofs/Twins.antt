-- The number that stands first under an id in small letters is that of the least id that is equal but for case.
use Rattle.std.proofs.Common.{◌≡◌, ◌⊎◌, ◌<◌, inl, inr, ℕ, zero, suc, Bool, true, false, cond, List, [], ◌∷◌, ◌++◌, Option, Some, None, refl}
use Rattle.std.proofs.Common.{sym, ap, ◌∙◌, subst, arith}
use Rattle.std.specs.FinMap.{slice_cmp-IsAntisymmetric, nat_cmp-IsAntisymmetric}
use Rattle.std.specs.FinMap.Entries.{find}
use Rattle.std.specs.Ordering.{is_eq}
use Rattle.std.specs.Option.{option_or}
use Rattle.std.specs.declared.cmp.Ordering.{Ordering}
use Rattle.std.specs.declared.cmp.Ordering.TheVariants.{Less, Equal, Greater}
use Rattle.std.specs.Cmp.{tied_itself}
use Rattle.std.specs.Cmp.Lexicographic.{nat_list_cmp_total}
use Rattle.std.specs.List.{Contains}
use Rattle.std.proofs.lemmas.Bool.{cases_lt}
use Rattle.std.proofs.lemmas.List.Elements.{Contains-append_cases, Contains-append_left, Contains-append_right}
use Rattle.sm_model.specs.Graphs.{text_cmp}
use Rattle.sm_model.specs.GraphView.{maps_of}
use Rattle.sm_model.specs.Reaching.{id_of_number}
use Rattle.sm_model.specs.declared.graph.Graph.{Graph}
use Rattle.sm_model.proofs.OneRising.{contains_either, contains_head, contains_none}
use Rattle.sm_model.proofs.Worklist.{apart}
use Rattle.sm_passes.specs.Folded.{folded, folded_at, folded_below}
use Rattle.sm_passes.specs.Owned.{is_own_shape}

-- found behind others
pub find_joined : (key : List ℕ) (xs ys : List (List ℕ × ℕ))
    → find text_cmp key (xs ++ ys) ≡ option_or (find text_cmp key xs) (find text_cmp key ys)
find_joined key [] ys = refl
find_joined key (x ∷ xs) ys = by (is_eq (text_cmp key x.0)) (find_joined key xs ys)
  where
    by : (b : Bool) → find text_cmp key (xs ++ ys) ≡ option_or (find text_cmp key xs) (find text_cmp key ys)
        → cond b (Some x.1) (find text_cmp key (xs ++ ys)) ≡ option_or (cond b (Some x.1) (find text_cmp key xs)) (find text_cmp key ys)
    by true h = refl
    by false h = h

tied : (r : Ordering) → is_eq r ≡ true → r ≡ Equal
tied Less h = absurd (apart h)
tied Equal h = refl
tied Greater h = absurd (apart h)

one_text : (a b : List ℕ) → is_eq (text_cmp a b) ≡ true → a ≡ b
one_text a b h = slice_cmp-IsAntisymmetric nat_cmp-IsAntisymmetric a b (tied (text_cmp a b) h)

itself : (t : List ℕ) → is_eq (text_cmp t t) ≡ true
itself t = ap is_eq (tied_itself nat_list_cmp_total t)

below_or : (n i : ℕ) → i < suc n → (i < n) ⊎ (i ≡ n)
below_or n i small = elim (cases_lt i n) [ inl less ↦ inl less | inr more ↦ inr (omega (arith, small, more)) ]

module _ (g : Graph) where
  abbrev pub own : ℕ → Bool
  own k = is_own_shape (maps_of g) (id_of_number g k)

  -- no shape below this number has the key
  abbrev pub NoneBelow : ℕ → List ℕ → Type 0
  NoneBelow n key = (i : ℕ) → i < n → own i ≡ true → folded (id_of_number g i) ≡ key → ⊥

  abbrev pub TellsFirst : ℕ → List ℕ → Option ℕ → Type 0
  TellsFirst n key None = NoneBelow n key
  TellsFirst n key (Some j) = (j < n) × (own j ≡ true) × (folded (id_of_number g j) ≡ key) × NoneBelow j key

  pub first_told : (n : ℕ) (key : List ℕ) → TellsFirst n key (find text_cmp key (folded_below g n))
  first_told zero key = λ i small. absurd (omega (arith, small))
  first_told (suc n) key =
      subst (TellsFirst (suc n) key) (sym (find_joined key (folded_below g n) (folded_at g n)))
      (step (find text_cmp key (folded_below g n)) (first_told n key) (own n) refl)
    where
      last : (b : Bool) → is_eq (text_cmp key (folded (id_of_number g n))) ≡ b → NoneBelow n key → own n ≡ true
          → TellsFirst (suc n) key (cond b (Some n) None)
      last true is none mine = (omega arith, mine, sym (one_text key (folded (id_of_number g n)) is), none)
      last false is none mine = λ i small its same. elim (below_or n i small) [
        | inl less ↦ none i less its same
        | inr at ↦ absurd (apart (sym is
            ∙ ap (λ k. is_eq (text_cmp k (folded (id_of_number g n)))) (sym same ∙ ap (λ j. folded (id_of_number g j)) at)
            ∙ itself (folded (id_of_number g n))))
      ]

      step : (o : Option ℕ) → TellsFirst n key o → (b : Bool) → own n ≡ b
          → TellsFirst (suc n) key (option_or o (find text_cmp key (cond b ((folded (id_of_number g n), n) ∷ []) [])))
      step (Some j) h b is = let less : j < n = h.0 in (omega (arith, less), h.1, h.2, h.3)
      step None h true is = last (is_eq (text_cmp key (folded (id_of_number g n)))) refl h is
      step None h false is = λ i small its same. elim (below_or n i small) [
        | inl less ↦ h i less its same
        | inr at ↦ absurd (apart (sym is ∙ subst (λ j. own j ≡ true) at its))
      ]

  -- the rows are those of shapes outside of the prelude
  abbrev pub IsRowBelow : ℕ → List ℕ × ℕ → Type 0
  IsRowBelow n r = (k : ℕ) × (k < n) × (own k ≡ true) × (r ≡ (folded (id_of_number g k), k))

  pub row_is : (n : ℕ) (r : List ℕ × ℕ) → Contains (folded_below g n) r → IsRowBelow n r
  row_is zero r c = absurd (contains_none r c)
  row_is (suc n) r c = elim (Contains-append_cases (folded_below g n) (folded_at g n) r c) [
    | inl before ↦ let h = row_is n r before in let small = h.1 in (h.0, omega (arith, small), h.2, h.3)
    | inr here ↦ last (own n) refl here
  ]
    where
      last : (b : Bool) → own n ≡ b → Contains (cond b ((folded (id_of_number g n), n) ∷ []) []) r → IsRowBelow (suc n) r
      last true is h = elim (contains_either (folded (id_of_number g n), n) r [] h) [
        | inl same ↦ (n, omega arith, is, sym same)
        | inr none ↦ absurd (contains_none r none)
      ]
      last false is h = absurd (contains_none r h)

  pub is_row : (n k : ℕ) → k < n → own k ≡ true → Contains (folded_below g n) (folded (id_of_number g k), k)
  is_row zero k small mine = absurd (omega (arith, small))
  is_row (suc n) k small mine = elim (below_or n k small) [
    | inl less ↦ Contains-append_left (folded_below g n) (folded_at g n) (folded (id_of_number g k), k) (is_row n k less mine)
    | inr at ↦ Contains-append_right (folded_below g n) (folded_at g n) (folded (id_of_number g k), k)
        (subst (λ j. Contains {X = List ℕ × ℕ} (folded_at g j) (folded (id_of_number g k), k)) at
        (subst (λ b. Contains {X = List ℕ × ℕ} (cond b ((folded (id_of_number g k), k) ∷ []) []) (folded (id_of_number g k), k)) (sym mine)
        (contains_head {K = List ℕ × ℕ} (folded (id_of_number g k), k) [])))
  ]
