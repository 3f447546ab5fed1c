-- Numbers by names that differ.
use Rattle.std.proofs.Common.{◌≡◌, inl, inr, ℕ, List, [], ◌∷◌, map, IsPermutation, IsSortedBy, sym}
use Rattle.std.specs.Cmp.Lexicographic.{slice_cmp}
use Rattle.std.specs.List.{AllByRecursion}
use Rattle.std.specs.List.Sorted.{IsStrictlySortedBy}
use Rattle.std.specs.Ordering.{is_lt, nat_cmp}
use Rattle.std.specs.declared.cmp.Ordering.TheVariants.{Less}
use Rattle.std.proofs.lemmas.List.Sorted.{IsPermutation-sym}
use Rattle.sm_model.specs.Formed.{DifferInNames, StandsAmong}
use Rattle.sm_model.specs.Graphs.{text_cmp}
use Rattle.sm_model.specs.steps.Rising.{IsBelow, Rise}
use Rattle.sm_model.proofs.Sorting.{rise_moved}
use Rattle.sm_shapes.specs.InOrder.{AreByName}
use Rattle.sm_shapes.specs.Names.{AllDiffer, NoneIs}

below_all : (k : List ℕ) (ks : List (List ℕ)) → IsBelow k ks → AllByRecursion (λ y. slice_cmp nat_cmp k y ≡ Less) ks
below_all k [] h = tt
below_all k (j ∷ ks) h = (h.0, below_all k ks h.1)

strictly : (ks : List (List ℕ)) → Rise ks → IsStrictlySortedBy (slice_cmp nat_cmp) ks
unfolding IsStrictlySortedBy
strictly [] h = tt
strictly (k ∷ ks) h = (below_all k ks h.0, strictly ks h.1)

none_among : (t : List ℕ) (ts : List (List ℕ)) → NoneIs t ts → StandsAmong t ts → ⊥
none_among t [] h s = s
none_among t (u ∷ ts) h s = elim s [ inl e ↦ h.0 (sym e) | inr later ↦ none_among t ts h.1 later ]

differ_in_names : (ts : List (List ℕ)) → AllDiffer ts → DifferInNames ts
differ_in_names [] h = tt
differ_in_names (t ∷ ts) h = (none_among t ts h.0, differ_in_names ts h.1)

pub by_names : (name : ℕ → List ℕ) (xs ys : List ℕ) → IsPermutation xs ys → IsSortedBy (λ a b. is_lt (text_cmp (name a) (name b))) ys
    → AllDiffer (map name xs) → AreByName name xs ys
by_names name xs ys moved up differ =
    (IsPermutation-sym xs ys moved, strictly (map name ys) (rise_moved name xs ys moved up (differ_in_names (map name xs) differ)))
