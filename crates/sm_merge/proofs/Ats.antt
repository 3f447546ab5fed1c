-- What stands at a place of a list: in front of more, behind it, in a part, and after a store.
use Rattle.std.proofs.Common.{◌≡◌, ◌⊎◌, inl, inr, ℕ, zero, suc, ◌+◌, ◌<◌, ◌≤◌, List, [], ◌∷◌, ◌++◌, length, take, drop, set, map, get_or}
use Rattle.std.proofs.Common.{Some, refl, sym}
use Rattle.std.proofs.Common.{◌∙◌, ap, subst, arith, ◌-◌}
use Rattle.std.proofs.lemmas.Option.{slice_get_within, same_Some, none-some, get_or_from_slice_get, slice_get-get_or}
use Rattle.std.specs.List.{Contains}
use Rattle.sm_merge.specs.steps.Links.{At}

pub at_within : {A : Type 0} (xs : List A) (k : ℕ) (x : A) → At xs k x → k < length xs
at_within xs k x h = slice_get_within xs k x h

pub at_one : {A : Type 0} (xs : List A) (k : ℕ) (x y : A) → At xs k x → At xs k y → x ≡ y
at_one xs k x y h g = same_Some x y (sym h ∙ g)

pub at_there : {A : Type 0} (xs : List A) (k : ℕ) → k < length xs → (x : A) × At xs k x
at_there [] k h = absurd (omega (arith, h))
at_there (x ∷ xs) zero h = (x, refl)
at_there (x ∷ xs) (suc k) h = at_there xs k (omega (arith, h))

pub at_front : {A : Type 0} (xs ys : List A) (k : ℕ) (x : A) → At xs k x → At (xs ++ ys) k x
at_front [] ys k x h = absurd (none-some x h)
at_front (a ∷ xs) ys zero x h = h
at_front (a ∷ xs) ys (suc k) x h = at_front xs ys k x h

pub at_behind : {A : Type 0} (xs ys : List A) (k : ℕ) (x : A) → At ys k x → At (xs ++ ys) (length xs + k) x
at_behind [] ys k x h = subst (λ i. At ys i x) (omega arith) h
at_behind (a ∷ xs) ys k x h = subst (λ i. At (a ∷ (xs ++ ys)) i x) {x = suc (length xs + k)} (omega arith) (at_behind xs ys k x h)

pub at_last : {A : Type 0} (xs : List A) (x : A) → At (xs ++ x ∷ []) (length xs) x
at_last xs x = subst (λ i. At (xs ++ x ∷ []) i x) (omega arith) (at_behind xs (x ∷ []) 0 x refl)

pub at_either : {A : Type 0} (xs ys : List A) (k : ℕ) (x : A) → At (xs ++ ys) k x
    → At xs k x ⊎ ((i : ℕ) × (k ≡ length xs + i) × At ys i x)
at_either [] ys k x h = inr (k, omega arith, h)
at_either (a ∷ xs) ys zero x h = inl h
at_either (a ∷ xs) ys (suc k) x h = elim (at_either xs ys k x h) [
  | inl here ↦ inl here
  | inr (i, is, there) ↦ inr (i, omega (arith, is), there)
]

pub at_either_one : {A : Type 0} (xs : List A) (y : A) (k : ℕ) (x : A) → At (xs ++ y ∷ []) k x → At xs k x ⊎ ((k ≡ length xs) × (x ≡ y))
at_either_one xs y k x h = elim (at_either xs (y ∷ []) k x h) [
  | inl here ↦ inl here
  | inr (i, is, there) ↦
      let small : i < 1 = at_within (y ∷ []) i x there in
      let none : i ≡ 0 = omega (arith, small) in
      inr (omega (arith, is, none), sym (same_Some y x (subst (λ n. At (y ∷ []) n x) none there)))
]

pub at_low : {A : Type 0} (xs ys : List A) (k : ℕ) (x : A) → k < length xs → At (xs ++ ys) k x → At xs k x
at_low xs ys k x low h = elim (at_either xs ys k x h) [
  | inl here ↦ here
  | inr (i, is, there) ↦ absurd (omega (arith, is, low))
]

pub at_taken : {A : Type 0} (n : ℕ) (xs : List A) (k : ℕ) (x : A) → At (take n xs) k x → At xs k x × (k < n)
at_taken zero xs k x h = absurd (none-some x h)
at_taken (suc n) [] k x h = absurd (none-some x h)
at_taken (suc n) (a ∷ xs) zero x h = (h, omega arith)
at_taken (suc n) (a ∷ xs) (suc k) x h = let rest = at_taken n xs k x h in (rest.0, omega (arith, rest.1))

pub at_take : {A : Type 0} (n : ℕ) (xs : List A) (k : ℕ) (x : A) → k < n → At xs k x → At (take n xs) k x
at_take zero xs k x low h = absurd (omega (arith, low))
at_take (suc n) [] k x low h = h
at_take (suc n) (a ∷ xs) zero x low h = h
at_take (suc n) (a ∷ xs) (suc k) x low h = at_take n xs k x (omega (arith, low)) h

pub at_dropped : {A : Type 0} (n : ℕ) (xs : List A) (k : ℕ) (x : A) → At (drop n xs) k x → At xs (n + k) x
at_dropped zero xs k x h = subst (λ i. At xs i x) (omega arith) h
at_dropped (suc n) [] k x h = absurd (none-some x h)
at_dropped (suc n) (a ∷ xs) k x h = subst (λ i. At (a ∷ xs) i x) {x = suc (n + k)} (omega arith) (at_dropped n xs k x h)

pub at_drop : {A : Type 0} (n : ℕ) (xs : List A) (k : ℕ) (x : A) → n ≤ k → At xs k x → (i : ℕ) × (k ≡ n + i) × At (drop n xs) i x
at_drop zero xs k x low h = (k, omega arith, h)
at_drop (suc n) [] k x low h = absurd (none-some x h)
at_drop (suc n) (a ∷ xs) zero x low h = absurd (omega (arith, low))
at_drop (suc n) (a ∷ xs) (suc k) x low h =
    let rest = at_drop n xs k x (omega (arith, low)) h in (rest.0, omega (arith, rest.1), rest.2)

pub at_stored : {A : Type 0} (xs : List A) (i : ℕ) (y : A) → i < length xs → At (set xs i y) i y
at_stored [] i y h = absurd (omega (arith, h))
at_stored (a ∷ xs) zero y h = refl
at_stored (a ∷ xs) (suc i) y h = at_stored xs i y (omega (arith, h))

pub at_other : {A : Type 0} (xs : List A) (i : ℕ) (y : A) (k : ℕ) (x : A) → (k ≡ i → ⊥) → At xs k x → At (set xs i y) k x
at_other [] i y k x other h = h
at_other (a ∷ xs) zero y zero x other h = absurd (other refl)
at_other (a ∷ xs) zero y (suc k) x other h = h
at_other (a ∷ xs) (suc i) y zero x other h = h
at_other (a ∷ xs) (suc i) y (suc k) x other h = at_other xs i y k x (λ e. other (ap suc e)) h

pub at_was : {A : Type 0} (xs : List A) (i : ℕ) (y : A) (k : ℕ) (x : A) → At (set xs i y) k x
    → ((k ≡ i) × (x ≡ y)) ⊎ ((k ≡ i → ⊥) × At xs k x)
at_was [] i y k x h = absurd (none-some x h)
at_was (a ∷ xs) zero y zero x h = inl (refl, sym (same_Some y x h))
at_was (a ∷ xs) zero y (suc k) x h = inr (λ e. omega (arith, e), h)
at_was (a ∷ xs) (suc i) y zero x h = inr (λ e. omega (arith, e), h)
at_was (a ∷ xs) (suc i) y (suc k) x h = elim (at_was xs i y k x h) [
  | inl (same, is) ↦ inl (ap suc same, is)
  | inr (other, there) ↦ inr (λ e. other (omega (arith, e)), there)
]

-- a list whose last element is known
pub last_split : {A : Type 0} (xs : List A) (x : A) → At xs (length xs - 1) x → (front : List A) × (xs ≡ front ++ x ∷ [])
last_split [] x h = absurd (none-some x h)
last_split (a ∷ []) x h = ([], ap (λ y. y ∷ []) (same_Some a x h))
last_split (a ∷ (b ∷ xs)) x h =
    let one_less : length (a ∷ (b ∷ xs)) - 1 ≡ suc (length (b ∷ xs) - 1) = omega arith in
    let rest = last_split (b ∷ xs) x (subst (λ i. At (a ∷ (b ∷ xs)) i x) one_less h) in
    (a ∷ rest.0, ap (λ ys. a ∷ ys) rest.1)

-- a number is below another, or isn't
pub sides : (k m : ℕ) → (k < m) ⊎ (m ≤ k)
sides k zero = inr (omega arith)
sides zero (suc m) = inl (omega arith)
sides (suc k) (suc m) = elim (sides k m) [
  | inl h ↦ inl (omega (arith, h))
  | inr h ↦ inr (omega (arith, h))
]

-- a store changes one place, and none that has the value
pub at_set : {A : Type 0} (xs : List A) (i : ℕ) (y : A) (k : ℕ) (x : A) → At xs k x → At (set xs i y) k x ⊎ (k ≡ i)
at_set [] i y k x h = inl h
at_set (a ∷ xs) zero y zero x h = inr refl
at_set (a ∷ xs) zero y (suc k) x h = inl h
at_set (a ∷ xs) (suc i) y zero x h = inl h
at_set (a ∷ xs) (suc i) y (suc k) x h = elim (at_set xs i y k x h) [
  | inl there ↦ inl there
  | inr same ↦ inr (ap suc same)
]

pub at_kept : {A : Type 0} (xs : List A) (i : ℕ) (y : A) (k : ℕ) → At xs k y → At (set xs i y) k y
at_kept [] i y k h = h
at_kept (a ∷ xs) zero y zero h = refl
at_kept (a ∷ xs) zero y (suc k) h = h
at_kept (a ∷ xs) (suc i) y zero h = h
at_kept (a ∷ xs) (suc i) y (suc k) h = at_kept xs i y k h

-- along a function
pub at_map : {A B : Type 0} (f : A → B) (xs : List A) (k : ℕ) (x : A) → At xs k x → At (map f xs) k (f x)
at_map f [] k x h = absurd (none-some x h)
at_map f (a ∷ xs) zero x h = ap (λ y. Some (f y)) (same_Some a x h)
at_map f (a ∷ xs) (suc k) x h = at_map f xs k x h

pub at_mapped : {A B : Type 0} (f : A → B) (xs : List A) (k : ℕ) (y : B) → At (map f xs) k y → (x : A) × At xs k x × (f x ≡ y)
at_mapped f [] k y h = absurd (none-some y h)
at_mapped f (a ∷ xs) zero y h = (a, refl, same_Some (f a) y h)
at_mapped f (a ∷ xs) (suc k) y h = at_mapped f xs k y h

-- an element stands at some place
pub contains_at : {A : Type 0} (xs : List A) (k : ℕ) (x : A) → At xs k x → Contains xs x
contains_at xs k x h = (k, slice_get_within xs k x h, get_or_from_slice_get xs k x x h)

pub at_contained : {A : Type 0} (xs : List A) (x : A) → Contains xs x → (k : ℕ) × At xs k x
at_contained xs x (k, small, is) = (k, slice_get-get_or xs k x small ∙ ap (λ y. Some y) is)

-- one more is taken
pub taken_more : {A : Type 0} (xs : List A) (d : A) (i j : ℕ) → j ≡ i + 1 → i < length xs → take j xs ≡ take i xs ++ get_or xs i d ∷ []
taken_more [] d i j is small = absurd (omega (arith, small))
taken_more (x ∷ xs) d zero j is small = ap (λ k. take k (x ∷ xs)) is
taken_more (x ∷ xs) d (suc i) j is small =
    let same : j ≡ suc (i + 1) = omega (arith, is) in
    ap (λ k. take k (x ∷ xs)) same ∙ ap (λ ys. x ∷ ys) (taken_more xs d i (i + 1) refl (omega (arith, small)))
