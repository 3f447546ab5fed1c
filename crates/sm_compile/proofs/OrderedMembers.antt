-- The orders of a shape's members: numbers by names that differ, and those that pass a test.
use Rattle.std.proofs.Common.{◌≡◌, ℕ, ◌+◌, Bool, cond, List, [], ◌∷◌, ◌++◌, map, IsPermutation, IsSortedBy, sym, ap, ◌∙◌}
use Rattle.std.specs.Cmp.Lexicographic.{slice_cmp}
use Rattle.std.specs.List.{AllByRecursion, filter}
use Rattle.std.specs.List.Sorted.{IsStrictlySortedBy}
use Rattle.std.specs.Ordering.{is_lt, nat_cmp}
use Rattle.std.specs.declared.cmp.Ordering.TheVariants.{Less}
use Rattle.std.proofs.lemmas.List.Elements.{filter-append}
use Rattle.std.proofs.lemmas.List.Sorted.{IsPermutation-sym}
use Rattle.sm_model.specs.Graphs.{text_cmp}
use Rattle.sm_model.specs.steps.Rising.{IsBelow, Rise}
use Rattle.sm_model.proofs.Sorting.{rise_moved}
use Rattle.sm_shapes.specs.InOrder.{AreByName}
use Rattle.sm_shapes.specs.Names.{AllDiffer}
use Rattle.sm_compile.specs.steps.Numbered.{run}
use Rattle.sm_compile.proofs.Blocks.{run_more}
use Rattle.sm_compile.proofs.Differing.{differ_in_names}

below_all : (k : List ℕ) (ks : List (List ℕ)) → IsBelow k ks → AllByRecursion (λ y. slice_cmp nat_cmp k y ≡ Less) ks
below_all k [] h = tt
below_all k (j ∷ ks) h = (h.0, below_all k ks h.1)

pub strictly : (ks : List (List ℕ)) → Rise ks → IsStrictlySortedBy (slice_cmp nat_cmp) ks
unfolding IsStrictlySortedBy
strictly [] h = tt
strictly (k ∷ ks) h = (below_all k ks h.0, strictly ks h.1)

pub by_names : (name : ℕ → List ℕ) (xs ys : List ℕ) → IsPermutation xs ys → IsSortedBy (λ a b. is_lt (text_cmp (name a) (name b))) ys
    → AllDiffer (map name xs) → AreByName name xs ys
by_names name xs ys moved up differ = (
  IsPermutation-sym xs ys moved,
  strictly (map name ys) (rise_moved name xs ys moved up ((differ_in_names (map name xs)).0 differ)),
)

-- one number more
pub kept_more : (p : ℕ → Bool) (first n : ℕ) (b : Bool) (old : List ℕ) → b ≡ p (first + n) → old ≡ filter p (run first n)
    → old ++ cond b ((first + n) ∷ []) [] ≡ filter p (run first (n + 1))
kept_more p first n b old is before =
    ap (λ xs. xs ++ cond b ((first + n) ∷ []) []) before
    ∙ ap (λ c. filter p (run first n) ++ cond c ((first + n) ∷ []) []) is
    ∙ sym (filter-append p (run first n) ((first + n) ∷ [])) ∙ ap (filter p) (sym (run_more first n))
