-- Lists in strict order: a key put into one keeps the order, and two of them that hold the same are one.
use Rattle.std.proofs.Common.{◌≡◌, ◌⊎◌, inl, inr, ℕ, nat_eq, false, true≢false, List, [], ◌∷◌, refl, sym, ap, subst, ◌∙◌}
use Rattle.std.specs.declared.cmp.Ordering.{Ordering}
use Rattle.std.specs.declared.cmp.Ordering.TheVariants.{Less, Equal, Greater}
use Rattle.std.specs.Ordering.{match_ordering, ordering_reverse, ordering_index, ordering_then}
use Rattle.std.specs.Cmp.{IsTotalOrder, unsigned_Decides}
use Rattle.std.specs.Cmp.Lexicographic.{slice_cmp}
use Rattle.std.specs.BTreeSet.{insert_key}
use Rattle.std.proofs.lemmas.Cmp.{tied_itself}
use Rattle.std.proofs.lemmas.Map.Lookups.{CmpEqualImpliesEq}

-- numbers that are told apart differ
pub clash : (i j : ℕ) → nat_eq i j ≡ false → i ≡ j → ⊥
clash i j other same = true≢false (sym ((unsigned_Decides i j).1 same) ∙ other)

-- the list holds the key
abbrev pub Has : {K : Type 0} → K → List K → Type 0
Has x [] = ⊥
Has x (y ∷ ys) = (x ≡ y) ⊎ Has x ys

-- below each of the list
abbrev pub IsBelow : {K : Type 0} → (K → K → Ordering) → K → List K → Type 0
IsBelow R x [] = Unit {0}
IsBelow R x (y ∷ ys) = (R x y ≡ Less) × IsBelow R x ys

abbrev pub Ascends : {K : Type 0} → (K → K → Ordering) → List K → Type 0
Ascends R [] = Unit {0}
Ascends R (x ∷ xs) = IsBelow R x xs × Ascends R xs

module _ {K : Type 0} {R : K → K → Ordering} (o : IsTotalOrder R) (exact : CmpEqualImpliesEq R) where
  below_through : (x y : K) (ys : List K) → R x y ≡ Less → IsBelow R y ys → IsBelow R x ys
  below_through x y [] h b = tt
  below_through x y (z ∷ zs) h b = (o.trans x y z h b.0, below_through x y zs h b.1)

  below_in : (x k : K) (ys : List K) → R x k ≡ Less → IsBelow R x ys → IsBelow R x (insert_key R ys k)
  below_in x k [] h b = (h, tt)
  below_in x k (y ∷ ys) h b = by (R k y) (below_in x k ys h b.1)
    where
      by : (r : Ordering) → IsBelow R x (insert_key R ys k) → IsBelow R x (match_ordering r (k ∷ y ∷ ys) (y ∷ ys) (y ∷ insert_key R ys k))
      by Less more = (h, b)
      by Equal more = b
      by Greater more = (b.0, more)

  pub ascends_in : (ys : List K) (k : K) → Ascends R ys → Ascends R (insert_key R ys k)
  ascends_in [] k s = (tt, tt)
  ascends_in (y ∷ ys) k s = by (R k y) refl (ascends_in ys k s.1)
    where
      by : (r : Ordering) → R k y ≡ r → Ascends R (insert_key R ys k)
          → Ascends R (match_ordering r (k ∷ y ∷ ys) (y ∷ ys) (y ∷ insert_key R ys k))
      by Less e more = ((e, below_through k y ys e s.0), s)
      by Equal e more = s
      by Greater e more = (below_in y k ys (o.antisymm y k ∙ ap ordering_reverse e) s.0, more)

  -- what the list holds after the key was put in
  pub has_new : (ys : List K) (k : K) → Has k (insert_key R ys k)
  has_new [] k = inl refl
  has_new (y ∷ ys) k = by (R k y) refl (has_new ys k)
    where
      by : (r : Ordering) → R k y ≡ r → Has k (insert_key R ys k) → Has k (match_ordering r (k ∷ y ∷ ys) (y ∷ ys) (y ∷ insert_key R ys k))
      by Less e more = inl refl
      by Equal e more = inl (exact k y e)
      by Greater e more = inr more

  pub has_kept : (ys : List K) (k x : K) → Has x ys → Has x (insert_key R ys k)
  has_kept [] k x h = absurd h
  has_kept (y ∷ ys) k x h = by (R k y) (λ later. has_kept ys k x later) h
    where
      by : (r : Ordering) → (Has x ys → Has x (insert_key R ys k)) → Has x (y ∷ ys)
          → Has x (match_ordering r (k ∷ y ∷ ys) (y ∷ ys) (y ∷ insert_key R ys k))
      by Less more i = inr i
      by Equal more i = i
      by Greater more (inl here) = inl here
      by Greater more (inr later) = inr (more later)

  pub has_from : (ys : List K) (k x : K) → Has x (insert_key R ys k) → (x ≡ k) ⊎ Has x ys
  has_from [] k x h = h
  has_from (y ∷ ys) k x h = by (R k y) (λ later. has_from ys k x later) h
    where
      by : (r : Ordering) → (Has x (insert_key R ys k) → (x ≡ k) ⊎ Has x ys)
          → Has x (match_ordering r (k ∷ y ∷ ys) (y ∷ ys) (y ∷ insert_key R ys k)) → (x ≡ k) ⊎ Has x (y ∷ ys)
      by Less more i = i
      by Equal more i = inr i
      by Greater more (inl here) = inr (inl here)
      by Greater more (inr later) = elim (more later) [ inl new ↦ inl new | inr old ↦ inr (inr old) ]

  not_below_itself : (x : K) → R x x ≡ Less → ⊥
  not_below_itself x h =
      clash 0 1 refl (ap ordering_index (sym h ∙ tied_itself o x))

  is_below : (x z : K) (ys : List K) → IsBelow R x ys → Has z ys → R x z ≡ Less
  is_below x z [] b h = absurd h
  is_below x z (y ∷ ys) b (inl here) = subst (λ w. R x w ≡ Less) (sym here) b.0
  is_below x z (y ∷ ys) b (inr later) = is_below x z ys b.1 later

  one_head : (x y : K) (xs ys : List K) → IsBelow R x xs → IsBelow R y ys → Has x (y ∷ ys) → Has y (x ∷ xs) → x ≡ y
  one_head x y xs ys a b (inl here) j = here
  one_head x y xs ys a b (inr i) (inl here) = sym here
  one_head x y xs ys a b (inr i) (inr j) = absurd (not_below_itself x (o.trans x y x (is_below x y xs a j) (is_below y x ys b i)))

  in_tail : (x : K) (xs ys : List K) → IsBelow R x xs → ((z : K) → Has z (x ∷ xs) → Has z (x ∷ ys)) → (z : K) → Has z xs → Has z ys
  in_tail x xs ys a h z i = elim (h z (inr i)) [
    | inl here ↦ absurd (not_below_itself x (subst (λ w. R x w ≡ Less) here (is_below x z xs a i)))
    | inr later ↦ later
  ]

  pub one_list : (xs ys : List K) → Ascends R xs → Ascends R ys → ((z : K) → Has z xs → Has z ys) → ((z : K) → Has z ys → Has z xs)
      → xs ≡ ys
  one_list [] [] s t h g = refl
  one_list [] (y ∷ ys) s t h g = absurd (g y (inl refl))
  one_list (x ∷ xs) [] s t h g = absurd (h x (inl refl))
  one_list (x ∷ xs) (y ∷ ys) s t h g =
      let e = one_head x y xs ys s.0 t.0 (h x (inl refl)) (g y (inl refl)) in
      let forth = in_tail x xs ys s.0 (λ z i. subst (λ w. Has z (w ∷ ys)) (sym e) (h z i)) in
      let back = in_tail y ys xs t.0 (λ z i. subst (λ w. Has z (w ∷ xs)) e (g z i)) in
      ap (λ w. w ∷ xs) e ∙ ap (λ ws. y ∷ ws) (one_list xs ys s.1 t.1 forth back)

-- lists of what an order tells apart are told apart
both_tie : (a b : Ordering) → ordering_then a b ≡ Equal → (a ≡ Equal) × (b ≡ Equal)
both_tie Less b e = absurd (clash 0 1 refl (ap ordering_index e))
both_tie Equal b e = (refl, e)
both_tie Greater b e = absurd (clash 2 1 refl (ap ordering_index e))

pub exact_lists : {K : Type 0} (R : K → K → Ordering) → CmpEqualImpliesEq R → CmpEqualImpliesEq (slice_cmp R)
exact_lists R h [] [] e = refl
exact_lists R h [] (y ∷ ys) e = absurd (clash 0 1 refl (ap ordering_index e))
exact_lists R h (x ∷ xs) [] e = absurd (clash 2 1 refl (ap ordering_index e))
exact_lists R h (x ∷ xs) (y ∷ ys) e =
    let both = both_tie (R x y) (slice_cmp R xs ys) e in
    ap (λ w. w ∷ xs) (h x y both.0) ∙ ap (λ ws. y ∷ ws) (exact_lists R h xs ys both.1)
