-- What a sort by names leaves of entries: they are in order, and the map that they were.
use Rattle.std.proofs.Common.{◌≡◌, ℕ, true, List, [], ◌∷◌, map, IsPermutation, IsSortedBy, refl, sym, ap, subst, ◌∙◌}
use Rattle.std.proofs.lemmas.List.Sorted.{IsPermutation-map}
use Rattle.std.specs.Bool.{passes}
use Rattle.std.specs.FinMap as fin
use Rattle.std.specs.FinMap.{get-from_entries, get-from_sorted, same_map, slice_cmp-IsAntisymmetric, nat_cmp-IsAntisymmetric, is_sorted}
use Rattle.std.specs.Cmp.Lexicographic.{nat_list_cmp_total}
use Rattle.std.specs.Ordering.{is_lt}
use Rattle.sm_model.specs.Formed.{DifferInNames}
use Rattle.sm_model.specs.Graphs.{text_cmp}
use Rattle.sm_model.specs.steps.Rising.{Rise}
use Rattle.sm_model.proofs.Moved.{keeps_names, same_found}
use Rattle.sm_model.proofs.Rises.{rise_sorted, sorted_from_rise}

pub map_twice : {X Y Z : Type 0} (f : X → Y) (g : Y → Z) (xs : List X) → map g (map f xs) ≡ map (λ x. g (f x)) xs
map_twice f g [] = refl
map_twice f g (x ∷ xs) = ap (λ ys. g (f x) ∷ ys) (map_twice f g xs)

-- what a sort leaves of names that differ
pub rise_moved : {X : Type 0} (name : X → List ℕ) (xs ys : List X) → IsPermutation xs ys
    → IsSortedBy (λ a b. is_lt (text_cmp (name a) (name b))) ys → DifferInNames (map name xs) → Rise (map name ys)
rise_moved name xs ys moved up differ = rise_sorted name ys up ((keeps_names name xs ys moved).differ differ)

-- entries that are the map of others, in another order
pub map_moved : {V : Type 0} (es fs : List (List ℕ × V)) → IsPermutation es fs → DifferInNames (map (λ e. e.0) es)
    → is_sorted text_cmp fs ≡ true → Path (fin.FinMap text_cmp V) (fin.from_entries es) (fin.from_sorted fs)
map_moved es fs moved differ sorted =
    same_map nat_list_cmp_total (slice_cmp-IsAntisymmetric nat_cmp-IsAntisymmetric) _ _
    (λ q. get-from_entries nat_list_cmp_total es q ∙ same_found es fs moved differ q
    ∙ sym (get-from_sorted text_cmp fs q (passes _ sorted)))

module _ {T V : Type 0} (node : T → V) where
  abbrev view : List (List ℕ × T) → List (List ℕ × V)
  view ts = map (λ t. (t.0, node t.1)) ts

  module _ (xs ys : List (List ℕ × T)) (moved : IsPermutation xs ys) (up : IsSortedBy (λ a b. is_lt (text_cmp a.0 b.0)) ys)
      (differ : DifferInNames (map (λ e. e.0) (view xs))) where
    pub trees_sorted : is_sorted text_cmp (view ys) ≡ true
    trees_sorted = sorted_from_rise (view ys) (subst Rise (sym (map_twice (λ t. (t.0, node t.1)) (λ e. e.0) ys))
        (rise_moved (λ t. t.0) xs ys moved up (subst DifferInNames (map_twice (λ t. (t.0, node t.1)) (λ e. e.0) xs) differ)))

    pub trees_kept : Path (fin.FinMap text_cmp V) (fin.from_entries (view xs)) (fin.from_sorted (view ys))
    trees_kept = map_moved (view xs) (view ys) (IsPermutation-map (λ t. (t.0, node t.1)) xs ys moved) differ trees_sorted
