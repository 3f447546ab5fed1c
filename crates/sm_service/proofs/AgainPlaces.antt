-- The places among shared errors of those that have the name of an own one.
use Rattle.std.proofs.Common.{◌≡◌, inl, inr, ℕ, suc, ◌<◌, ◌≤◌, List, [], ◌∷◌, length, map}
use Rattle.std.proofs.Common.{Option, Some, None, refl, sym, ap, ◌∙◌, subst, arith}
use Rattle.std.specs.Prelude.{◌↔◌, filter_map, slice_index_or}
use Rattle.std.specs.List.{AllPairs, Contains, cons_option}
use Rattle.std.specs.List.Sorted.{IsStrictlyIncreasing}
use Rattle.std.proofs.lemmas.List.Kept.{AllPairs-from_increasing}
use Rattle.sm_model.proofs.OneRising.{contains_behind, contains_either, contains_head, contains_none}
use Rattle.sm_shapes.proofs.NamedMembers.{found}
use Rattle.sm_compile.proofs.TabledShapes.{mapped_from, mapped_to}
use Rattle.sm_service.specs.ErrorOrder.{NamesDiffer, name_at_place, place_named, places_of}
use Rattle.sm_service.specs.ErrorsView.{RiseBetween}
use Rattle.sm_service.specs.ServiceData.{name_of_error}
use Rattle.sm_service.specs.declared.error.ErrorShape.{ErrorShape}
use Rattle.sm_service.specs.steps.OperationRows.{AreAgain, places_among}
use Rattle.sm_service.proofs.ErrorsNamed.{among_below, below_among, with_some}

-- what a look-up by a name finds
named_told : (es : List ErrorShape) (name : List ℕ) (k : ℕ) → place_named es name ≡ Some k → (k < length es) × (name_at_place es k ≡ name)
named_told es name k h =
    let r = with_some (name_at_place es) name (places_of es) k h in
    let lt = among_below 0 (length es) k r.1 in
    (omega (arith, lt), r.0)

named_there : (es : List ErrorShape) (k : ℕ) → NamesDiffer es → k < length es → place_named es (name_at_place es k) ≡ Some k
named_there es k differ lt =
    found (name_at_place es) k (places_of es) differ (below_among 0 (length es) k (omega arith) (omega (arith, lt)))

-- what a test gives of some
module _ {X : Type 0} (f : X → Option ℕ) where
  given_in : (xs : List X) (k : ℕ) → Contains (filter_map f xs) k → (x : X) × Contains xs x × (f x ≡ Some k)
  given_in [] k h = absurd (contains_none k h)
  given_in (x ∷ xs) k h = by (f x) refl h (λ later. given_in xs k later)
    where
      by : (o : Option ℕ) → f x ≡ o → Contains (cons_option o (filter_map f xs)) k
          → (Contains (filter_map f xs) k → (y : X) × Contains xs y × (f y ≡ Some k)) → (y : X) × Contains (x ∷ xs) y × (f y ≡ Some k)
      by None is there rest = let r = rest there in (r.0, contains_behind x r.0 xs r.1, r.2)
      by (Some j) is there rest = elim (contains_either j k (filter_map f xs) there) [
        | inl same ↦ (x, contains_head x xs, is ∙ ap Some same)
        | inr later ↦ let r = rest later in (r.0, contains_behind x r.0 xs r.1, r.2)
      ]

  in_given : (xs : List X) (x : X) (k : ℕ) → Contains xs x → f x ≡ Some k → Contains (filter_map f xs) k
  in_given [] x k h e = absurd (contains_none x h)
  in_given (y ∷ ys) x k h e = elim (contains_either y x ys h) [
    | inl same ↦ subst (λ o. Contains (cons_option o (filter_map f ys)) k) (sym (ap f same ∙ e)) (contains_head k (filter_map f ys))
    | inr later ↦ behind (f y) (in_given ys x k later e)
  ]
    where
      behind : (o : Option ℕ) → Contains (filter_map f ys) k → Contains (cons_option o (filter_map f ys)) k
      behind None there = there
      behind (Some j) there = contains_behind j k (filter_map f ys) there

-- numbers that rise, between bounds
rises : (low high : ℕ) (ks : List ℕ) → ((k : ℕ) → Contains ks k → (low ≤ k) × (k < high)) → AllPairs (λ (x y : ℕ). x < y) ks
    → RiseBetween low high ks
rises low high [] within up = tt
rises low high (k ∷ ks) within up = (
  (within k (contains_head k ks)).0,
  (within k (contains_head k ks)).1,
  rises (suc k) high ks above (λ i j d less lt. up (suc i) (suc j) d (omega (arith, less)) (omega (arith, lt))),
)
  where
    above : (j : ℕ) → Contains ks j → (suc k ≤ j) × (j < high)
    above j there =
        let less : k < slice_index_or ks there.0 j = up 0 (suc there.0) j (omega arith) (let lt = there.1 in omega (arith, lt)) in
        let is = there.2 in
        (omega (arith, less, is), (within j (contains_behind k j ks there)).1)

pub again_told : (own shared : List ErrorShape) (places ks : List ℕ) → NamesDiffer shared → places ≡ places_among own shared
    → IsStrictlyIncreasing ks → ((k : ℕ) → Contains places k ↔ Contains ks k) → AreAgain own shared ks
again_told own shared places ks differ are up same = record {
  rise = rises 0 (length shared) ks (λ k there. (omega arith, (told k there).1)) (AllPairs-from_increasing ks up);
  named = λ k there. (told k there).0;
  all = λ k lt among.
      let r = mapped_from name_of_error own (name_at_place shared k) among in
      let at : place_named shared (name_of_error r.0) ≡ Some k = ap (place_named shared) r.2 ∙ named_there shared k differ lt in
      (same k).0 (subst (λ ps. Contains ps k) (sym are) (in_given (λ e. place_named shared (name_of_error e)) own r.0 k r.1 at));
}
  where
    told : (k : ℕ) → Contains ks k → Contains (map name_of_error own) (name_at_place shared k) × (k < length shared)
    told k there =
        let r = given_in (λ e. place_named shared (name_of_error e)) own k (subst (λ ps. Contains ps k) are ((same k).1 there)) in
        let s = named_told shared (name_of_error r.0) k r.2 in
        (subst (Contains (map name_of_error own)) (sym s.1) (mapped_to name_of_error own r.0 r.1), s.0)
