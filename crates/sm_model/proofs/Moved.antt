-- What stays of a list whose elements change places: which names stand in it, that they differ, what is found under a name,
-- and the entries of shapes.
use Rattle.std.proofs.Common.{◌≡◌, inl, inr, ⊎_elim, ℕ, ◌<◌, zero, suc, Bool, true, false, cond, List, [], ◌∷◌, map, length, get_or, set}
use Rattle.std.proofs.Common.{swap, Some, IsPermutation, refl, sym, ap, subst, ◌∙◌, arith, append_assoc}
use Rattle.std.proofs.lemmas.List.Sorted.{IsPermutation-keeps, IsPermutation-refl, IsPermutation-trans, IsPermutation-append_left}
use Rattle.std.proofs.lemmas.List.Sorted.{IsPermutation-append_right, IsPermutation-append_comm}
use Rattle.std.specs.FinMap.Entries.{find}
use Rattle.std.specs.FinMap.{slice_cmp-IsAntisymmetric, nat_cmp-IsAntisymmetric}
use Rattle.std.specs.Ordering.{is_eq}
use Rattle.std.specs.declared.cmp.Ordering.{Ordering}
use Rattle.std.specs.declared.cmp.Ordering.TheVariants.{Less, Equal, Greater}
use Rattle.sm_model.specs.Formed.{StandsAmong, DifferInNames}
use Rattle.sm_model.specs.Given.{AreGivenShapes}
use Rattle.sm_model.specs.Graphs.{ShapeGiven, given_shape, given_entries, text_cmp}

-- a relation that is reflexive and transitive, and goes under a head and over an exchange of two heads, holds along each permutation
module _ {X : Type 0} (R : List X → List X → Type 0) (same : (xs : List X) → R xs xs)
    (skip : (x : X) (xs ys : List X) → R xs ys → R (x ∷ xs) (x ∷ ys))
    (turn : (x y : X) (xs : List X) → R (x ∷ y ∷ xs) (y ∷ x ∷ xs))
    (chain : (xs ys zs : List X) → R xs ys → R ys zs → R xs zs) where
  to_head : (l : List X) (j : ℕ) (x d : X) → j < length l → R (x ∷ l) (get_or l j d ∷ set l j x)
  to_head [] j x d h = absurd (omega (arith, h))
  to_head (y ∷ l) zero x d h = turn x y l
  to_head (y ∷ l) (suc j) x d h =
      chain _ _ _ (turn x y l) (chain _ _ _ (skip y _ _ (to_head l j x d (omega (arith, h)))) (turn y (get_or l j d) (set l j x)))

  exchanged : (l : List X) (i j : ℕ) (d : X) → i < length l → j < length l → R l (set (set l i (get_or l j d)) j (get_or l i d))
  exchanged [] i j d p q = absurd (omega (arith, p))
  exchanged (x ∷ l) zero zero d p q = same (x ∷ l)
  exchanged (x ∷ l) zero (suc j) d p q = to_head l j x d (omega (arith, q))
  exchanged (x ∷ l) (suc i) zero d p q = to_head l i x d (omega (arith, p))
  exchanged (x ∷ l) (suc i) (suc j) d p q = skip x _ _ (exchanged l i j d (omega (arith, p)) (omega (arith, q)))

  swapped : (l : List X) (i j : ℕ) → i < length l → j < length l → R l (swap l i j)
  swapped [] i j p q = same []
  swapped (x ∷ l) i j p q = exchanged (x ∷ l) i j x p q

  pub along_permutation : (xs ys : List X) → IsPermutation xs ys → R xs ys
  along_permutation xs = IsPermutation-keeps xs (R xs) (same xs) (λ l i j p q h. chain xs l _ h (swapped l i j p q))

-- the names of a list
module _ {X : Type 0} (name : X → List ℕ) where
  abbrev names : List X → List (List ℕ)
  names xs = map name xs

  -- the names of the one stand in the other, and differ there where they differ here
  pub record KeepsNames (xs ys : List X) : Type 0 where
    pub stand : (k : List ℕ) → StandsAmong k (names ys) → StandsAmong k (names xs)
    pub differ : DifferInNames (names xs) → DifferInNames (names ys)

  turned_names : (x y : X) (xs : List X) → KeepsNames (x ∷ y ∷ xs) (y ∷ x ∷ xs)
  turned_names x y xs = record {
    stand = λ k. ⊎_elim (λ e. inr (inl e)) (λ s. ⊎_elim (λ e. inl e) (λ t. inr (inr t)) s);
    differ = λ d. ((λ s. ⊎_elim (λ e. d.0 (inl (sym e))) (λ t. d.1.0 t) s), ((λ t. d.0 (inr t)), d.1.1));
  }

  pub keeps_names : (xs ys : List X) → IsPermutation xs ys → KeepsNames xs ys
  keeps_names = along_permutation KeepsNames
      (λ xs. record { stand = λ k s. s; differ = λ d. d })
      (λ x xs ys h. record {
        stand = λ k. ⊎_elim (λ e. inl e) (λ s. inr (h.stand k s));
        differ = λ d. ((λ s. d.0 (h.stand (name x) s)), h.differ d.1);
      })
      turned_names
      (λ xs ys zs h k. record { stand = λ j s. h.stand j (k.stand j s); differ = λ d. k.differ (h.differ d) })

-- two tests that don't both hold may change places
two_tests : {X : Type 0} (a b : Bool) (x y z : X) → (a ≡ true → b ≡ true → ⊥) → cond a x (cond b y z) ≡ cond b y (cond a x z)
two_tests true true x y z apart = absurd (apart refl refl)
two_tests true false x y z apart = refl
two_tests false b x y z apart = refl

equal_from : (r : Ordering) → is_eq r ≡ true → r ≡ Equal
equal_from Less h = absurd (subst (λ c. cond c ⊥ (Unit {0})) h tt)
equal_from Equal h = refl
equal_from Greater h = absurd (subst (λ c. cond c ⊥ (Unit {0})) h tt)

tied : (q k : List ℕ) → is_eq (text_cmp q k) ≡ true → q ≡ k
tied q k h = slice_cmp-IsAntisymmetric nat_cmp-IsAntisymmetric q k (equal_from (text_cmp q k) h)

module _ {V : Type 0} where
  abbrev keys : List (List ℕ × V) → List (List ℕ)
  keys es = map (λ e. e.0) es

  -- what is found under each name
  pub record FindsAlike (xs ys : List (List ℕ × V)) : Type 0 where
    pub stand : (k : List ℕ) → StandsAmong k (keys ys) → StandsAmong k (keys xs)
    pub differ : DifferInNames (keys xs) → DifferInNames (keys ys)
    pub alike : DifferInNames (keys xs) → (q : List ℕ) → find text_cmp q xs ≡ find text_cmp q ys

  found_alike : (xs ys : List (List ℕ × V)) → IsPermutation xs ys → FindsAlike xs ys
  found_alike = along_permutation FindsAlike
      (λ xs. record { stand = λ k s. s; differ = λ d. d; alike = λ d q. refl })
      (λ x xs ys h. record {
        stand = λ k. ⊎_elim (λ e. inl e) (λ s. inr (h.stand k s));
        differ = λ d. ((λ s. d.0 (h.stand x.0 s)), h.differ d.1);
        alike = λ d q. ap (cond (is_eq (text_cmp q x.0)) (Some x.1)) (h.alike d.1 q);
      })
      (λ x y xs. let t = turned_names (λ e. e.0) x y xs in record {
        stand = t.stand;
        differ = t.differ;
        alike = λ d q. two_tests (is_eq (text_cmp q x.0)) (is_eq (text_cmp q y.0)) (Some x.1) (Some y.1) (find text_cmp q xs)
            (λ a b. d.0 (inl (sym (tied q x.0 a) ∙ tied q y.0 b)));
      })
      (λ xs ys zs h k. record {
        stand = λ j s. h.stand j (k.stand j s);
        differ = λ d. k.differ (h.differ d);
        alike = λ d q. h.alike d q ∙ k.alike (h.differ d) q;
      })

  pub same_found : (xs ys : List (List ℕ × V)) → IsPermutation xs ys → DifferInNames (keys xs) → (q : List ℕ)
      → find text_cmp q xs ≡ find text_cmp q ys
  same_found xs ys moved differ q = (found_alike xs ys moved).alike differ q

-- shapes in another order have the same entries, and are what a graph may be made from as before
pub moved_entries : (xs ys : List ShapeGiven) → IsPermutation xs ys → IsPermutation (given_entries xs) (given_entries ys)
moved_entries = along_permutation (λ xs ys. IsPermutation (given_entries xs) (given_entries ys))
    (λ xs. IsPermutation-refl _)
    (λ x xs ys h. IsPermutation-append_right (given_shape x) _ _ h)
    (λ x y xs. rw (← append_assoc (given_shape x), ← append_assoc (given_shape y))
    (IsPermutation-append_left (given_entries xs) _ _ (IsPermutation-append_comm (given_shape x) (given_shape y))))
    (λ xs ys zs. IsPermutation-trans _ _ _)

pub moved_given : (xs ys : List ShapeGiven) → IsPermutation xs ys → AreGivenShapes xs → AreGivenShapes ys
moved_given = along_permutation (λ xs ys. AreGivenShapes xs → AreGivenShapes ys)
    (λ xs h. h)
    (λ x xs ys f h. (h.0, f h.1))
    (λ x y xs h. (h.1.0, (h.0, h.1.1)))
    (λ xs ys zs f g h. g (f h))
