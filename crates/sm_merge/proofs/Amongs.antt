-- What stands among elements, and among what each of them comes to.
use Rattle.std.proofs.Common.{◌≡◌, ◌⊎◌, inl, inr, ℕ, zero, suc, ◌<◌, Bool, true, false, List, [], ◌∷◌, ◌++◌, map, length, Some}
use Rattle.std.proofs.Common.{refl, sym, ap, subst, ◌∙◌, arith, bytes_eq}
use Rattle.std.specs.Prelude.{◌||◌}
use Rattle.std.specs.List.{Contains, flat_map, list_any}
use Rattle.std.specs.FinMap.Entries.{find}
use Rattle.std.proofs.lemmas.Bool.{true≢false}
use Rattle.std.proofs.lemmas.Option.{none-some, same_Some}
use Rattle.std.proofs.lemmas.Slice.Eq.{bytes_eq-Decides}
use Rattle.sm_model.specs.Graphs.{text_cmp}
use Rattle.sm_merge.specs.steps.PlaceEvents.{all_below}
use Rattle.sm_merge.proofs.FoundRows.{here, passed}

less_or_same : (n v : ℕ) → v < suc n → (v < n) ⊎ (v ≡ n)
less_or_same zero zero small = inr refl
less_or_same zero (suc v) small = absurd (omega (arith, small))
less_or_same (suc n) zero small = inl (omega arith)
less_or_same (suc n) (suc v) small = elim (less_or_same n v (omega (arith, small)))
    [ inl less ↦ inl (omega (arith, less)) | inr same ↦ inr (ap suc same) ]

abbrev pub Among : {A : Type 0} → A → List A → Type 0
Among x [] = ⊥
Among x (y ∷ ys) = (y ≡ x) ⊎ Among x ys

module _ {A : Type 0} where
  pub among_from : (x : A) (xs : List A) → Contains xs x → Among x xs
  among_from x [] (k, inside, at) = absurd (omega (arith, inside))
  among_from x (y ∷ ys) (zero, inside, at) = inl at
  among_from x (y ∷ ys) (suc k, inside, at) = let less : k < length ys = omega (arith, inside) in inr (among_from x ys (k, less, at))

  pub among_to : (x : A) (xs : List A) → Among x xs → Contains xs x
  among_to x [] h = absurd h
  among_to x (y ∷ ys) (inl same) = let inside : 0 < length (y ∷ ys) = omega arith in (0, inside, same)
  among_to x (y ∷ ys) (inr h) =
      let later = among_to x ys h in
      let less : later.0 < length ys = later.1 in
      let inside : suc later.0 < length (y ∷ ys) = omega (arith, less) in (suc later.0, inside, later.2)

  pub among_either : (x : A) (xs ys : List A) → Among x (xs ++ ys) → Among x xs ⊎ Among x ys
  among_either x [] ys h = inr h
  among_either x (z ∷ xs) ys (inl same) = inl (inl same)
  among_either x (z ∷ xs) ys (inr h) = elim (among_either x xs ys h) [ inl front ↦ inl (inr front) | inr back ↦ inr back ]

  pub among_front : (x : A) (xs ys : List A) → Among x xs → Among x (xs ++ ys)
  among_front x [] ys h = absurd h
  among_front x (z ∷ xs) ys (inl same) = inl same
  among_front x (z ∷ xs) ys (inr h) = inr (among_front x xs ys h)

  pub among_back : (x : A) (xs ys : List A) → Among x ys → Among x (xs ++ ys)
  among_back x [] ys h = h
  among_back x (z ∷ xs) ys h = inr (among_back x xs ys h)

module _ {A B : Type 0} where
  pub among_flat : (f : A → List B) (xs : List A) (y : B) → Among y (flat_map f xs) → (x : A) × Among x xs × Among y (f x)
  among_flat f [] y h = absurd h
  among_flat f (x ∷ xs) y h = elim (among_either y (f x) (flat_map f xs) h) [
    | inl front ↦ (x, inl refl, front)
    | inr back ↦ let rest = among_flat f xs y back in (rest.0, inr rest.1, rest.2)
  ]

  pub flat_among : (f : A → List B) (xs : List A) (x : A) (y : B) → Among x xs → Among y (f x) → Among y (flat_map f xs)
  flat_among f [] x y h g = absurd h
  flat_among f (z ∷ xs) x y (inl same) g = among_front y (f z) (flat_map f xs) (subst (λ w. Among y (f w)) (sym same) g)
  flat_among f (z ∷ xs) x y (inr h) g = among_back y (f z) (flat_map f xs) (flat_among f xs x y h g)

  pub among_map : (f : A → B) (xs : List A) (y : B) → Among y (map f xs) → (x : A) × Among x xs × (f x ≡ y)
  among_map f [] y h = absurd h
  among_map f (x ∷ xs) y (inl same) = (x, inl refl, same)
  among_map f (x ∷ xs) y (inr h) = let rest = among_map f xs y h in (rest.0, inr rest.1, rest.2)

  pub map_among : (f : A → B) (xs : List A) (x : A) → Among x xs → Among (f x) (map f xs)
  map_among f [] x h = absurd h
  map_among f (z ∷ xs) x (inl same) = inl (ap f same)
  map_among f (z ∷ xs) x (inr h) = inr (map_among f xs x h)

-- what stands at a number stands among all below a greater one, and nothing else does
module _ {A : Type 0} (at_number : ℕ → List A) where
  pub among_below : (n : ℕ) (x : A) → Among x (all_below at_number n) → (v : ℕ) × (v < n) × Among x (at_number v)
  among_below zero x none = absurd none
  among_below (suc n) x among = elim (among_either x (all_below at_number n) (at_number n) among) [
    | inl before ↦
        let rest = among_below n x before in
        let less : rest.0 < n = rest.1 in
        let more : rest.0 < suc n = omega (arith, less) in (rest.0, more, rest.2)
    | inr now ↦ let last : n < suc n = omega arith in (n, last, now)
  ]

  pub below_among : (n v : ℕ) (x : A) → v < n → Among x (at_number v) → Among x (all_below at_number n)
  below_among zero v x small among = absurd (omega (arith, small))
  below_among (suc n) v x small among = by (λ less. below_among n v x less among) (less_or_same n v small)
    where
      by : (v < n → Among x (all_below at_number n)) → (v < n) ⊎ (v ≡ n) → Among x (all_below at_number n ++ at_number n)
      by rest (inl less) = among_front x (all_below at_number n) (at_number n) (rest less)
      by rest (inr same) =
          among_back x (all_below at_number n) (at_number n) (subst (λ w. Among x (at_number w)) same among)

-- what is found stands among, and a name that stands among is found
module _ {X : Type 0} where
  pub among_found : (k : List ℕ) (es : List (List ℕ × X)) (x : X) → find text_cmp k es ≡ Some x
      → (e : List ℕ × X) × Among e es × (e.0 ≡ k) × (e.1 ≡ x)
  among_found k [] x h = absurd (none-some x h)
  among_found k (e ∷ es) x h = by (bytes_eq e.0 k) refl (λ f. among_found k es x f)
    where
      by : (b : Bool) → bytes_eq e.0 k ≡ b
          → (find text_cmp k es ≡ Some x → (d : List ℕ × X) × Among d es × (d.0 ≡ k) × (d.1 ≡ x))
          → (d : List ℕ × X) × Among d (e ∷ es) × (d.0 ≡ k) × (d.1 ≡ x)
      by true is later = (e, inl refl, (bytes_eq-Decides e.0 k).0 is, same_Some e.1 x (sym (here k e es is) ∙ h))
      by false is later = let rest = later (sym (passed k e es is) ∙ h) in (rest.0, inr rest.1, rest.2, rest.3)

  pub found_among : (e : List ℕ × X) (es : List (List ℕ × X)) → Among e es → (x : X) × (find text_cmp e.0 es ≡ Some x)
  found_among e [] h = absurd h
  found_among e (d ∷ es) h = by (bytes_eq d.0 e.0) refl (λ a. found_among e es a) h
    where
      by : (b : Bool) → bytes_eq d.0 e.0 ≡ b → (Among e es → (x : X) × (find text_cmp e.0 es ≡ Some x)) → Among e (d ∷ es)
          → (x : X) × (find text_cmp e.0 (d ∷ es) ≡ Some x)
      by true is step all = (d.1, here e.0 d es is)
      by false is step (inl same) =
          absurd (true≢false (sym ((bytes_eq-Decides d.0 e.0).1 (ap (λ (z : List ℕ × X). z.0) same)) ∙ is))
      by false is step (inr later) = let rest = step later in (rest.0, passed e.0 d es is ∙ rest.1)

-- a text is among others exactly where a test finds it
pub among_any : (id : List ℕ) (ks : List (List ℕ)) → list_any (λ k. bytes_eq k id) ks ≡ true → Among id ks
among_any id [] h = absurd (true≢false (sym h))
among_any id (k ∷ ks) h = by (bytes_eq k id) refl (λ a. among_any id ks a) h
  where
    by : (b : Bool) → bytes_eq k id ≡ b → (list_any (λ k. bytes_eq k id) ks ≡ true → Among id ks)
        → (b || list_any (λ k. bytes_eq k id) ks) ≡ true → Among id (k ∷ ks)
    by true is step rest = inl ((bytes_eq-Decides k id).0 is)
    by false is step rest = inr (step rest)

pub any_among : (id : List ℕ) (ks : List (List ℕ)) → Among id ks → list_any (λ k. bytes_eq k id) ks ≡ true
any_among id [] h = absurd h
any_among id (k ∷ ks) (inl same) = ap (λ b. (b || list_any (λ k. bytes_eq k id) ks)) ((bytes_eq-Decides k id).1 same)
any_among id (k ∷ ks) (inr h) = by (any_among id ks h) (bytes_eq k id)
  where
    by : list_any (λ k. bytes_eq k id) ks ≡ true → (b : Bool) → (b || list_any (λ k. bytes_eq k id) ks) ≡ true
    by rest true = refl
    by rest false = rest
