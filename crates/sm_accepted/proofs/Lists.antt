-- Lists in which what stands later differs, by what holds of each part before.
use Rattle.std.proofs.Common.{◌≡◌, inl, inr, ℕ, ℤ, Bool, true, false, List, [], ◌∷◌, ◌++◌, map, Option, Some, None, refl, sym, ap, subst}
use Rattle.std.proofs.Common.{◌∙◌, arith, bytes_eq}
use Rattle.std.specs.Prelude.{◌||◌, filter_map}
use Rattle.std.specs.List.{Contains, cons_option, list_any}
use Rattle.std.proofs.lemmas.List.Elements.{Contains-append_right}
use Rattle.std.proofs.lemmas.Slice.Eq.{bytes_eq-Decides}
use Rattle.sm_model.proofs.LinkedEntries.{cons_cases, cons_here}
use Rattle.sm_shapes.specs.Names.{AllDiffer, NoneIs}
use Rattle.sm_compile.specs.Sound.{AllNumbersDiffer, NoneIsNumber}
use Rattle.sm_accepted.proofs.GivenShapes.{behind_head}

-- an element with what stands before it
pub record IsSplit {A : Type 0} (xs : List A) (x : A) : Type 0 where
  pub before : List A
  pub later : List A
  pub is : xs ≡ before ++ x ∷ later

pub split_at : {A : Type 0} (xs : List A) (x : A) → Contains xs x → IsSplit xs x
split_at [] x h = absurd (omega (arith, h.1))
split_at (y ∷ xs) x h = elim (cons_cases y xs x h) [
  | inl is ↦ record { before = []; later = xs; is = ap (λ z. z ∷ xs) is }
  | inr rest ↦
      let s = split_at xs x rest in
      record { before = y ∷ s.before; later = s.later; is = ap (λ zs. y ∷ zs) s.is }
]

pub stands_at : {A : Type 0} (before : List A) (x : A) (later : List A) → Contains (before ++ x ∷ later) x
stands_at before x later = Contains-append_right before (x ∷ later) x (cons_here x later)

-- no two have one value, by what holds of an element and those before it
abbrev pub NoneAgain : {A X : Type 0} → (A → X) → List A → Type 0
NoneAgain {A} {X} value xs =
    (before : List A) (x : A) (later : List A) → xs ≡ before ++ x ∷ later → (y : A) → Contains before y → Path X (value y) (value x) → ⊥

module _ {A X : Type 0} (value : A → X) (a : A) (xs : List A) (none : NoneAgain value (a ∷ xs)) where
  pub none_later : NoneAgain value xs
  none_later before x later is y among same =
      none (a ∷ before) x later (ap (λ zs. a ∷ zs) is) y (behind_head a before y among) same

  pub none_as_first : (x : A) → Contains xs x → Path X (value a) (value x) → ⊥
  none_as_first x among same =
      let s = split_at xs x among in
      none (a ∷ s.before) x s.later (ap (λ zs. a ∷ zs) s.is) a (cons_here a s.before) same

module _ {A : Type 0} (value : A → List ℕ) where
  none_is : (a : A) (xs : List A) → ((x : A) → Contains xs x → value a ≡ value x → ⊥) → NoneIs (value a) (map value xs)
  none_is a [] h = tt
  none_is a (x ∷ xs) h = ((λ e. h x (cons_here x xs) (sym e)), none_is a xs (λ y among. h y (behind_head x xs y among)))

  pub all_differ : (xs : List A) → NoneAgain value xs → AllDiffer (map value xs)
  all_differ [] none = tt
  all_differ (x ∷ xs) none = (none_is x xs (none_as_first value x xs none), all_differ xs (none_later value x xs none))

module _ {A : Type 0} (value : A → ℤ) where
  no_number : (a : A) (xs : List A) → ((x : A) → Contains xs x → value a ≡ value x → ⊥) → NoneIsNumber (value a) (map value xs)
  no_number a [] h = tt
  no_number a (x ∷ xs) h = ((λ e. h x (cons_here x xs) (sym e)), no_number a xs (λ y among. h y (behind_head x xs y among)))

  pub all_numbers_differ : (xs : List A) → NoneAgain value xs → AllNumbersDiffer (map value xs)
  all_numbers_differ [] none = tt
  all_numbers_differ (x ∷ xs) none =
      (no_number x xs (none_as_first value x xs none), all_numbers_differ xs (none_later value x xs none))

-- a name that some element has is found
pub or_later : (a b : Bool) → b ≡ true → (a || b) ≡ true
or_later true b h = refl
or_later false b h = h

onto : (t : List ℕ) (o : Option (List ℕ)) (ts : List (List ℕ)) → list_any (bytes_eq t) ts ≡ true
    → list_any (bytes_eq t) (cons_option o ts) ≡ true
onto t None ts h = h
onto t (Some u) ts h = or_later (bytes_eq t u) (list_any (bytes_eq t) ts) h

module _ {A : Type 0} (name_of : A → Option (List ℕ)) (t : List ℕ) where
  here : (o : Option (List ℕ)) → o ≡ Some t → (ts : List (List ℕ)) → list_any (bytes_eq t) (cons_option o ts) ≡ true
  here o is ts =
      subst (λ (x : Option (List ℕ)). list_any (bytes_eq t) (cons_option x ts) ≡ true) (sym is)
      (ap (λ b. b || list_any (bytes_eq t) ts) ((bytes_eq-Decides t t).1 refl))

  pub any_named : (xs : List A) (x : A) → Contains xs x → name_of x ≡ Some t → list_any (bytes_eq t) (filter_map name_of xs) ≡ true
  any_named [] x among is = absurd (omega (arith, among.1))
  any_named (y ∷ xs) x among is = elim (cons_cases y xs x among) [
    | inl same ↦ here (name_of y) (ap name_of same ∙ is) (filter_map name_of xs)
    | inr rest ↦ onto t (name_of y) (filter_map name_of xs) (any_named xs x rest is)
  ]
