-- Lists of names and of numbers that are determined by what they name, and rows beside them.
use Rattle.std.proofs.Common.{◌≡◌, ◌⊎◌, inl, inr, ℕ, ◌<◌, ◌≤◌, zero, suc, List, [], ◌∷◌, ◌++◌, map, length, get_or, Some, None, refl, sym}
use Rattle.std.proofs.Common.{ap}
use Rattle.std.proofs.Common.{◌∙◌, subst, arith}
use Rattle.std.specs.Prelude.{slice_get}
use Rattle.std.specs.Cmp.Lexicographic.{nat_list_cmp_total, slice_cmp}
use Rattle.std.specs.List.{AllByRecursion, Contains, flat_map}
use Rattle.std.specs.List.Sorted.{IsPermutation, IsStrictlySortedBy}
use Rattle.std.specs.Ordering.{nat_cmp}
use Rattle.std.proofs.lemmas.List.Elements.{Contains-append_left, Contains-append_right}
use Rattle.std.proofs.lemmas.List.Sorted.{Contains-permutation, IsPermutation-map, IsPermutation-sym}
use Rattle.std.proofs.lemmas.Option.{get_or_from_slice_get, none-some, slice_get_cases}
use Rattle.sm_model.proofs.OneRising.{contains_behind, contains_either, contains_head, contains_none, one_rising}
use Rattle.sm_shapes.specs.Names.{AllDiffer, NoneIs}
use Rattle.sm_compile.specs.Compiled.{EachSays}

-- rows that say something of names, one each
module _ {D : Type 0} (Says : List ℕ → D → Type 0) where
  pub each_length : (ids : List (List ℕ)) (ds : List D) → EachSays Says ids ds → length ids ≡ length ds
  each_length [] [] h = refl
  each_length [] (d ∷ ds) h = absurd h
  each_length (id ∷ ids) [] h = absurd h
  each_length (id ∷ ids) (d ∷ ds) h = ap suc (each_length ids ds h.1)

  pub each_at : (ids : List (List ℕ)) (ds : List D) → EachSays Says ids ds → (k : ℕ) (d : D) → k < length ds
      → Says (get_or ids k []) (get_or ds k d)
  each_at [] [] h k d less = absurd (omega (arith, less))
  each_at [] (e ∷ ds) h k d less = absurd h
  each_at (id ∷ ids) [] h k d less = absurd h
  each_at (id ∷ ids) (e ∷ ds) h zero d less = h.0
  each_at (id ∷ ids) (e ∷ ds) h (suc k) d less = let small : k < length ds = omega (arith, less) in each_at ids ds h.1 k d small

-- what stands at a place of a list
pub place_of : (xs : List (List ℕ)) (i : ℕ) (x : List ℕ) → slice_get xs i ≡ Some x → (i < length xs) × (get_or xs i [] ≡ x)
place_of xs i x h = by_case (slice_get_cases xs i).1
  where
    by_case : ((y : List ℕ) × (i < length xs) × (slice_get xs i ≡ Some y) × (get_or xs i y ≡ y))
        ⊎ ((length xs ≤ i) × (slice_get xs i ≡ None))
        → (i < length xs) × (get_or xs i [] ≡ x)
    by_case (inl (y, inside, at, is)) = (inside, get_or_from_slice_get xs i x [] h)
    by_case (inr (past, none)) = absurd (none-some x (sym none ∙ h))

-- names that differ stand at one place each
none_at : (x : List ℕ) (xs : List (List ℕ)) → NoneIs x xs → (j : ℕ) → j < length xs → get_or xs j [] ≡ x → ⊥
none_at x [] h j less same = omega (arith, less)
none_at x (y ∷ xs) h zero less same = h.0 same
none_at x (y ∷ xs) h (suc j) less same = let small : j < length xs = omega (arith, less) in none_at x xs h.1 j small same

pub differ_at : (xs : List (List ℕ)) → AllDiffer xs → (i j : ℕ) → i < length xs → j < length xs → get_or xs i [] ≡ get_or xs j [] → i ≡ j
differ_at [] d i j small less same = absurd (omega (arith, small))
differ_at (x ∷ xs) d zero zero small less same = refl
differ_at (x ∷ xs) d zero (suc j) small less same =
    let inside : j < length xs = omega (arith, less) in absurd (none_at x xs d.0 j inside (sym same))
differ_at (x ∷ xs) d (suc i) zero small less same =
    let inside : i < length xs = omega (arith, small) in absurd (none_at x xs d.0 i inside same)
differ_at (x ∷ xs) d (suc i) (suc j) small less same =
    let a : i < length xs = omega (arith, small) in
    let b : j < length xs = omega (arith, less) in ap suc (differ_at xs d.1 i j a b same)

pub same_place : (xs : List (List ℕ)) → AllDiffer xs → (i j : ℕ) (x : List ℕ) → slice_get xs i ≡ Some x → slice_get xs j ≡ Some x → i ≡ j
same_place xs d i j x h k =
    let a = place_of xs i x h in let b = place_of xs j x k in differ_at xs d i j a.0 b.0 (a.1 ∙ sym b.1)

-- numbers are determined by the names at them
abbrev first_name : List (List ℕ) → List ℕ
first_name [] = []
first_name (x ∷ xs) = x

abbrev other_names : List (List ℕ) → List (List ℕ)
other_names [] = []
other_names (x ∷ xs) = xs

abbrev is_some_list : List (List ℕ) → Type 0
is_some_list [] = ⊥
is_some_list (x ∷ xs) = Unit {0}

abbrev pub AreWithin : ℕ → List ℕ → Type 0
AreWithin n ks = AllByRecursion (λ k. k < n) ks

pub same_numbers : (ns : List (List ℕ)) → AllDiffer ns → (xs ys : List ℕ) → AreWithin (length ns) xs → AreWithin (length ns) ys
    → map (λ k. get_or ns k []) xs ≡ map (λ k. get_or ns k []) ys → xs ≡ ys
same_numbers ns d [] [] a b e = refl
same_numbers ns d [] (y ∷ ys) a b e = absurd (subst is_some_list (sym e) tt)
same_numbers ns d (x ∷ xs) [] a b e = absurd (subst is_some_list e tt)
same_numbers ns d (x ∷ xs) (y ∷ ys) a b e =
    let head = differ_at ns d x y a.0 b.0 (ap first_name e) in
    let rest = same_numbers ns d xs ys a.1 b.1 (ap other_names e) in λ i. head i ∷ rest i

-- in lists put behind one another in which all names differ, a name stands in one of them
differ_behind : (xs ys : List (List ℕ)) → AllDiffer (xs ++ ys) → AllDiffer ys
differ_behind [] ys d = d
differ_behind (x ∷ xs) ys d = differ_behind xs ys d.1

pub none_among : (x : List ℕ) (xs : List (List ℕ)) → NoneIs x xs → Contains xs x → ⊥
none_among x [] h there = contains_none x there
none_among x (y ∷ xs) h there = elim (contains_either y x xs there) [ inl same ↦ h.0 same | inr later ↦ none_among x xs h.1 later ]

apart : (xs ys : List (List ℕ)) → AllDiffer (xs ++ ys) → (k : List ℕ) → Contains xs k → Contains ys k → ⊥
apart [] ys d k front back = contains_none k front
apart (x ∷ xs) ys d k front back = elim (contains_either x k xs front) [
  | inl same ↦ none_among x (xs ++ ys) d.0 (Contains-append_right xs ys x (subst (Contains ys) (sym same) back))
  | inr later ↦ apart xs ys d.1 k later back
]

module _ (f : List ℕ → List (List ℕ)) where
  pub flat_contains : (xs : List (List ℕ)) (j : ℕ) (k : List ℕ) → j < length xs → Contains (f (get_or xs j [])) k → Contains
      (flat_map f xs) k
  flat_contains [] j k less there = absurd (omega (arith, less))
  flat_contains (x ∷ xs) zero k less there = Contains-append_left (f x) (flat_map f xs) k there
  flat_contains (x ∷ xs) (suc j) k less there =
      let small : j < length xs = omega (arith, less) in
      Contains-append_right (f x) (flat_map f xs) k (flat_contains xs j k small there)

  pub one_block : (xs : List (List ℕ)) → AllDiffer (flat_map f xs) → (i j : ℕ) (k : List ℕ) → i < length xs → j < length xs
      → Contains (f (get_or xs i [])) k → Contains (f (get_or xs j [])) k → i ≡ j
  one_block [] d i j k small less a b = absurd (omega (arith, small))
  one_block (x ∷ xs) d zero zero k small less a b = refl
  one_block (x ∷ xs) d zero (suc j) k small less a b =
      let inside : j < length xs = omega (arith, less) in absurd (apart (f x) (flat_map f xs) d k a (flat_contains xs j k inside b))
  one_block (x ∷ xs) d (suc i) zero k small less a b =
      let inside : i < length xs = omega (arith, small) in absurd (apart (f x) (flat_map f xs) d k b (flat_contains xs i k inside a))
  one_block (x ∷ xs) d (suc i) (suc j) k small less a b =
      let p : i < length xs = omega (arith, small) in
      let q : j < length xs = omega (arith, less) in
      ap suc (one_block xs (differ_behind (f x) (flat_map f xs) d) i j k p q a b)

-- numbers in the order of their names
pub contains_mapped : {A B : Type 0} (f : A → B) (xs : List A) (x : A) → Contains xs x → Contains (map f xs) (f x)
contains_mapped f [] x there = absurd (contains_none x there)
contains_mapped f (y ∷ xs) x there = elim (contains_either y x xs there) [
  | inl same ↦ subst (λ b. Contains (map f (y ∷ xs)) (f b)) same (contains_head (f y) (map f xs))
  | inr later ↦ Contains-append_right (f y ∷ []) (map f xs) (f x) (contains_mapped f xs x later)
]

pub named_once : (name : ℕ → List ℕ) (ks : List ℕ) → AllDiffer (map name ks) → (a b : ℕ) → Contains ks a → Contains ks b → name a ≡ name b
    → a ≡ b
named_once name [] d a b p q same = absurd (contains_none a p)
named_once name (k ∷ ks) d a b p q same = elim (contains_either k a ks p) [
  | inl is ↦ elim (contains_either k b ks q) [
    | inl also ↦ sym is ∙ also
    | inr later ↦
        absurd (none_among (name k) (map name ks) d.0
        (subst (Contains (map name ks)) (sym same ∙ ap name (sym is)) (contains_mapped name ks b later)))
  ]
  | inr later ↦ elim (contains_either k b ks q) [
    | inl also ↦
        absurd (none_among (name k) (map name ks) d.0
        (subst (Contains (map name ks)) (same ∙ ap name (sym also)) (contains_mapped name ks a later)))
    | inr too ↦ named_once name ks d.1 a b later too same
  ]
]

same_from_names : (name : ℕ → List ℕ) (ks : List ℕ) → AllDiffer (map name ks) → (xs ys : List ℕ) → ((a : ℕ) → Contains xs a → Contains ks a)
    → ((a : ℕ) → Contains ys a → Contains ks a) → map name xs ≡ map name ys → xs ≡ ys
same_from_names name ks d [] [] p q e = refl
same_from_names name ks d [] (y ∷ ys) p q e = absurd (subst is_some_list (sym e) tt)
same_from_names name ks d (x ∷ xs) [] p q e = absurd (subst is_some_list e tt)
same_from_names name ks d (x ∷ xs) (y ∷ ys) p q e =
    let head = named_once name ks d x y (p x (contains_head x xs)) (q y (contains_head y ys)) (ap first_name e) in
    let rest = same_from_names name ks d xs ys (λ a there. p a (contains_behind x a xs there))
    (λ a there. q a (contains_behind y a ys there))
    (ap other_names e) in
    λ i. head i ∷ rest i

pub one_order : (name : ℕ → List ℕ) (ks xs ys : List ℕ) → AllDiffer (map name ks) → IsPermutation xs ks → IsPermutation ys ks
    → IsStrictlySortedBy (slice_cmp nat_cmp) (map name xs) → IsStrictlySortedBy (slice_cmp nat_cmp) (map name ys) → xs ≡ ys
one_order name ks xs ys d p q s t =
    same_from_names name ks d xs ys (λ a. Contains-permutation xs ks a p) (λ a. Contains-permutation ys ks a q)
    (one_rising nat_list_cmp_total (map name xs) (map name ys) s t (λ w. (
      λ there. moved xs ys p q w there,
      λ there. moved ys xs q p w there,
    )))
  where
    moved : (vs us : List ℕ) → IsPermutation vs ks → IsPermutation us ks → (w : List ℕ) → Contains (map name vs) w
        → Contains (map name us) w
    moved vs us a b w there =
        Contains-permutation (map name ks) (map name us) w (IsPermutation-map name ks us (IsPermutation-sym us ks b))
        (Contains-permutation (map name vs) (map name ks) w (IsPermutation-map name vs ks a) there)
