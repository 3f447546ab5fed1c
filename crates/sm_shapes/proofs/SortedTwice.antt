-- A value stands twice in a list exactly where it does in another order of the list; and in one that is sorted exactly where two neighbours
-- don't rise.
use Rattle.std.proofs.Common.{◌≡◌, ℕ, zero, suc, ◌<◌, ◌≤◌, ◌+◌, Bool, true, false, not, List, [], ◌∷◌, map, length, get_or, IsPermutation}
use Rattle.std.proofs.Common.{IsSortedBy, refl, sym, ap, ◌∙◌, subst, arith}
use Rattle.std.specs.List.{sum_by, AllAdjacentBelow, IsAllAdjacentAnswer}
use Rattle.std.specs.Ordering.{is_lt, ordering_reverse}
use Rattle.std.specs.declared.cmp.Ordering.{Ordering}
use Rattle.std.specs.declared.cmp.Ordering.TheVariants.{Less, Equal, Greater}
use Rattle.std.proofs.lemmas.List.Sums.{sum_by-cons}
use Rattle.std.proofs.lemmas.List.Sorted.{ranks_by, sorted_far, sum_by-IsPermutation, IsPermutation-map, IsPermutation-sym}
use Rattle.sm_shapes.specs.Values.{Val, same_val}
use Rattle.sm_shapes.specs.Broken.{has_twice}
use Rattle.sm_shapes.specs.Fitting.{NoneIsLike, AllUnlike}
use Rattle.sm_shapes.specs.ValueOrder.{val_cmp}
use Rattle.sm_shapes.proofs.SameVals.{same_is, same_itself, unlike_where, where_unlike}
use Rattle.sm_shapes.proofs.ValueOrders.{values_in_order, equal_is_same}

never_both : (b : Bool) → b ≡ true → b ≡ false → ⊥
never_both true h g = cc
never_both false h g = cc

-- how often a value stands
abbrev as_number : Bool → ℕ
as_number true = 1
as_number false = 0

abbrev one_if : Val → Val → ℕ
one_if v w = as_number (same_val v w)

abbrev occurs : Val → List Val → ℕ
occurs v vs = sum_by (one_if v) vs

none_by : (v w : Val) (b : Bool) → same_val v w ≡ b → (w ≡ v → ⊥) → as_number b ≡ 0
none_by v w true e apart = absurd (apart (sym (same_is v w e)))
none_by v w false e apart = refl

none_occurs : (v : Val) (ws : List Val) → NoneIsLike v ws → occurs v ws ≡ 0
none_occurs v [] h = refl
none_occurs v (w ∷ ws) h =
    let other : one_if v w ≡ 0 = none_by v w (same_val v w) refl h.0 in
    let rest = none_occurs v ws h.1 in
    let whole = sum_by-cons (one_if v) w ws in
    omega (arith, other, rest, whole)

once_by : (v w : Val) (ws : List Val) (b : Bool) → same_val v w ≡ b → NoneIsLike w ws → occurs v ws ≤ 1 → as_number b + occurs v ws ≤ 1
once_by v w ws true e none rest =
    let no_more : occurs v ws ≡ 0 = ap (λ u. occurs u ws) (same_is v w e) ∙ none_occurs w ws none in
    omega (arith, no_more)
once_by v w ws false e none rest = omega (arith, rest)

one_occurs : (v : Val) (ws : List Val) → AllUnlike ws → occurs v ws ≤ 1
one_occurs v [] h = omega arith
one_occurs v (w ∷ ws) h =
    let whole = sum_by-cons (one_if v) w ws in
    let least = once_by v w ws (same_val v w) refl h.0 (one_occurs v ws h.1) in
    omega (arith, whole, least)

-- and back
none_where : (v : Val) (ws : List Val) → occurs v ws ≡ 0 → NoneIsLike v ws
none_where v [] h = tt
none_where v (w ∷ ws) h =
    let whole = sum_by-cons (one_if v) w ws in (
      λ e. let one : one_if v w ≡ 1 = ap as_number (subst (λ u. same_val v u ≡ true) (sym e) (same_itself v)) in
          absurd (omega (arith, whole, one, h)),
      none_where v ws (omega (arith, whole, h)),
    )

unlike_from : (vs : List Val) → ((v : Val) → occurs v vs ≤ 1) → AllUnlike vs
unlike_from [] h = tt
unlike_from (v ∷ vs) h =
    let here : one_if v v ≡ 1 = ap as_number (same_itself v) in
    let whole = sum_by-cons (one_if v) v vs in
    let most = h v in (
      none_where v vs (omega (arith, here, whole, most)),
      unlike_from vs (λ u. let all = sum_by-cons (one_if u) v vs in let few = h u in omega (arith, all, few)),
    )

unlike_moved : (vs ws : List Val) → IsPermutation vs ws → AllUnlike vs → AllUnlike ws
unlike_moved vs ws moved h =
    unlike_from ws (λ v. subst (λ n. n ≤ 1) (sym (sum_by-IsPermutation (one_if v) vs ws moved)) (one_occurs v vs h))

-- lists of what has a value
module _ {X : Type 0} (key : X → Val) where
  abbrev pub comes_before : X → X → Bool
  comes_before x y = is_lt (val_cmp (key x) (key y))

  none_at : (x : X) (ys : List X) → ((j : ℕ) (d : X) → j < length ys → key (get_or ys j d) ≡ key x → ⊥) → NoneIsLike (key x) (map key ys)
  none_at x [] h = tt
  none_at x (y ∷ ys) h = (h 0 x (omega arith), none_at x ys (λ j d lt. h (suc j) d (omega (arith, lt))))

  unlike_at : (xs : List X) → ((i j : ℕ) (d : X) → i < j → j < length xs → key (get_or xs j d) ≡ key (get_or xs i d) → ⊥)
      → AllUnlike (map key xs)
  unlike_at [] h = tt
  unlike_at (x ∷ xs) h = (
    none_at x xs (λ j d lt. h 0 (suc j) d (omega arith) (omega (arith, lt))),
    unlike_at xs (λ i j d lt inside. h (suc i) (suc j) d (omega (arith, lt)) (omega (arith, inside))),
  )

  none_like : (x : X) (ys : List X) → NoneIsLike (key x) (map key ys) → (j : ℕ) (d : X) → j < length ys → key (get_or ys j d) ≡ key x → ⊥
  none_like x [] h j d lt e = absurd (omega (arith, lt))
  none_like x (y ∷ ys) h zero d lt e = h.0 e
  none_like x (y ∷ ys) h (suc j) d lt e = none_like x ys h.1 j d (omega (arith, lt)) e

  differ_at : (xs : List X) → AllUnlike (map key xs) → (i j : ℕ) (d : X) → i < j → j < length xs
      → key (get_or xs j d) ≡ key (get_or xs i d) → ⊥
  differ_at [] h i j d lt inside e = absurd (omega (arith, inside))
  differ_at (x ∷ xs) h i zero d lt inside e = absurd (omega (arith, lt))
  differ_at (x ∷ xs) h zero (suc j) d lt inside e = none_like x xs h.0 j d (omega (arith, inside)) e
  differ_at (x ∷ xs) h (suc i) (suc j) d lt inside e = differ_at xs h.1 i j d (omega (arith, lt)) (omega (arith, inside)) e

  -- where each comes before the next, none stands twice
  rising : (xs : List X) → IsSortedBy comes_before xs → AllAdjacentBelow (λ x y. true ≡ comes_before x y) xs (length xs)
      → AllUnlike (map key xs)
  rising xs up rises = unlike_at xs (λ i j d lt inside e.
      let next : comes_before (get_or xs i d) (get_or xs (i + 1) d) ≡ true = sym (rises i d (omega (arith, lt, inside))) in
      let far : comes_before (get_or xs j d) (get_or xs (i + 1) d) ≡ false =
      sorted_far comes_before (ranks_by values_in_order key) xs up (i + 1) j d (omega (arith, lt)) inside in
      let same : comes_before (get_or xs j d) (get_or xs (i + 1) d) ≡ comes_before (get_or xs i d) (get_or xs (i + 1) d) =
      ap (λ v. is_lt (val_cmp v (key (get_or xs (i + 1) d)))) e in
      never_both (comes_before (get_or xs i d) (get_or xs (i + 1) d)) next (sym same ∙ far))

  neither_before : (r s : Ordering) → s ≡ ordering_reverse r → is_lt r ≡ false → is_lt s ≡ false → r ≡ Equal
  neither_before Less s e h g = absurd cc
  neither_before Equal s e h g = refl
  neither_before Greater s e h g = let less : is_lt s ≡ true = ap is_lt e in absurd cc

  tie : (x y : X) → comes_before x y ≡ false → comes_before y x ≡ false → key y ≡ key x
  tie x y h g =
      sym ((equal_is_same (key x) (key y)).0
      (neither_before (val_cmp (key x) (key y)) (val_cmp (key y) (key x)) (values_in_order.antisymm (key y) (key x)) h g))

  -- where two neighbours don't rise, they are the same
  tied : (xs : List X) → IsSortedBy comes_before xs
      → ((k : ℕ) × (k + 1 < length xs) × ((d : X) → false ≡ comes_before (get_or xs k d) (get_or xs (k + 1) d))) → AllUnlike (map key xs)
      → ⊥
  tied [] up h unlike = absurd (omega (arith, h.1))
  tied (x ∷ xs) up h unlike =
      let k = h.0 in
      differ_at (x ∷ xs) unlike k (k + 1) x (omega arith) h.1
      (tie (get_or (x ∷ xs) k x) (get_or (x ∷ xs) (k + 1) x) (sym (h.2 x)) (up k x (omega arith) h.1))

  not_twice : (b : Bool) → (b ≡ false → ⊥) → b ≡ true
  not_twice true h = refl
  not_twice false h = absurd (h refl)

  pub twice_told : (xs ys : List X) (rises : Bool) → IsPermutation xs ys → IsSortedBy comes_before ys
      → IsAllAdjacentAnswer (λ x y b. b ≡ comes_before x y) ys rises → not rises ≡ has_twice (map key xs)
  twice_told xs ys true moved up told =
      sym (where_unlike (map key xs) (unlike_back (rising ys up told)))
    where
      unlike_back : AllUnlike (map key ys) → AllUnlike (map key xs)
      unlike_back h = unlike_moved (map key ys) (map key xs) (IsPermutation-sym (map key xs) (map key ys)
          (IsPermutation-map key xs ys moved)) h
  twice_told xs ys false moved up told =
      sym (not_twice (has_twice (map key xs)) (λ none.
      tied ys up told (unlike_moved (map key xs) (map key ys) (IsPermutation-map key xs ys moved) (unlike_where (map key xs) none))))
