-- Names that a sort has put into order rise where they differ, and entries under names that rise are in order.
use Rattle.std.proofs.Common.{◌≡◌, inl, inr, ℕ, ◌<◌, ◌≤◌, suc, true, false, cond, List, [], ◌∷◌, map, length, get_or, IsSortedBy, refl}
use Rattle.std.proofs.Common.{sym, ap, subst, ◌∙◌, arith}
use Rattle.std.specs.Prelude.{◌&&◌}
use Rattle.std.proofs.lemmas.List.Sorted.{ranks_by, sorted_far}
use Rattle.std.specs.FinMap.{slice_cmp-IsAntisymmetric, nat_cmp-IsAntisymmetric}
use Rattle.std.specs.FinMap.Entries.{is_sorted, below_all}
use Rattle.std.specs.Cmp.Lexicographic.{nat_list_cmp_total}
use Rattle.std.specs.Ordering.{is_lt, ordering_reverse}
use Rattle.std.specs.declared.cmp.Ordering.{Ordering}
use Rattle.std.specs.declared.cmp.Ordering.TheVariants.{Less, Equal, Greater}
use Rattle.sm_model.specs.Formed.{StandsAmong, DifferInNames}
use Rattle.sm_model.specs.Graphs.{text_cmp}
use Rattle.sm_model.specs.steps.Rising.{IsBelow, Rise}

-- a text that another is not less than, and that isn't the other, is less
less : (a b : List ℕ) (r : Ordering) → text_cmp a b ≡ r → is_lt (text_cmp b a) ≡ false → (a ≡ b → ⊥) → r ≡ Less
less a b Less e h apart = refl
less a b Equal e h apart = absurd (apart (slice_cmp-IsAntisymmetric nat_cmp-IsAntisymmetric a b e))
less a b Greater e h apart =
    let turned : text_cmp b a ≡ Less = nat_list_cmp_total.antisymm b a ∙ ap ordering_reverse e in
    let bad : true ≡ false = sym (ap is_lt turned) ∙ h in
    absurd (subst (λ c. cond c (Unit {0}) ⊥) bad tt)

module _ {X : Type 0} (name : X → List ℕ) where
  is_below : (x : X) (xs : List X) → ((k : ℕ) → k < length xs → is_lt (text_cmp (name (get_or xs k x)) (name x)) ≡ false)
      → (StandsAmong (name x) (map name xs) → ⊥) → IsBelow (name x) (map name xs)
  is_below x [] h apart = tt
  is_below x (y ∷ ys) h apart = (
    less (name x) (name y) _ refl (h 0 (omega arith)) (λ e. apart (inl e)),
    is_below x ys (λ k p. h (suc k) (omega (arith, p))) (λ s. apart (inr s)),
  )

  rise : (xs : List X)
      → ((i j : ℕ) (d : X) → i ≤ j → j < length xs → is_lt (text_cmp (name (get_or xs j d)) (name (get_or xs i d))) ≡ false)
      → DifferInNames (map name xs) → Rise (map name xs)
  rise [] h differ = tt
  rise (x ∷ xs) h differ = (
    is_below x xs (λ k p. h 0 (suc k) x (omega arith) (omega (arith, p))) differ.0,
    rise xs (λ i j d p q. h (suc i) (suc j) d (omega (arith, p)) (omega (arith, q))) differ.1,
  )

  -- names that differ rise, once they are sorted
  pub rise_sorted : (xs : List X) → IsSortedBy (λ a b. is_lt (text_cmp (name a) (name b))) xs → DifferInNames (map name xs)
      → Rise (map name xs)
  rise_sorted xs up differ =
      rise xs (sorted_far (λ a b. is_lt (text_cmp (name a) (name b))) (ranks_by nat_list_cmp_total name) xs up) differ

module _ {V : Type 0} where
  all_below : (k : List ℕ) (es : List (List ℕ × V)) → IsBelow k (map (λ e. e.0) es) → below_all text_cmp k es ≡ true
  all_below k [] h = refl
  all_below k (e ∷ es) h = ap (λ r. is_lt r && below_all text_cmp k es) h.0 ∙ all_below k es h.1

  -- entries under names that rise are in order
  pub sorted_from_rise : (es : List (List ℕ × V)) → Rise (map (λ e. e.0) es) → is_sorted text_cmp es ≡ true
  sorted_from_rise [] h = refl
  sorted_from_rise (e ∷ es) h = ap (λ b. b && is_sorted text_cmp es) (all_below e.0 es h.0) ∙ sorted_from_rise es h.1

-- names that rise differ
pub apart_from_below : (k : List ℕ) (ks : List (List ℕ)) → IsBelow k ks → StandsAmong k ks → ⊥
apart_from_below k [] h s = s
apart_from_below k (j ∷ js) h (inl e) =
    let itself : text_cmp k k ≡ Less = subst (λ x. text_cmp k x ≡ Less) (sym e) h.0 in
    let twice : Less ≡ Greater = sym itself ∙ nat_list_cmp_total.antisymm k k ∙ ap ordering_reverse itself in
    absurd (subst (λ r. cond (is_lt r) (Unit {0}) ⊥) twice tt)
apart_from_below k (j ∷ js) h (inr s) = apart_from_below k js h.1 s

pub differ_from_rise : (ks : List (List ℕ)) → Rise ks → DifferInNames ks
differ_from_rise [] h = tt
differ_from_rise (k ∷ ks) h = (apart_from_below k ks h.0, differ_from_rise ks h.1)
