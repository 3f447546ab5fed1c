-- Lists of which each says something of an id, and lists in which no two have one name, by what holds of each part before.
use Rattle.std.proofs.Common.{◌≡◌, inl, inr, ℕ, ◌+◌, ◌≤◌, Bool, true, false, ◌||◌, cond, List, [], ◌∷◌, ◌++◌, map, Option, Some, None, refl}
use Rattle.std.proofs.Common.{sym}
use Rattle.std.proofs.Common.{ap, subst, ◌∙◌, arith}
use Rattle.std.specs.Prelude.{filter_map}
use Rattle.std.specs.List.{Contains, cons_option, count_by, list_any}
use Rattle.std.proofs.lemmas.List.Sums.{sum_by-cons}
use Rattle.std.proofs.lemmas.List.Elements.{Contains-append_left, Contains-append_right}
use Rattle.sm_model.proofs.LinkedEntries.{cons_cases, cons_here}
use Rattle.sm_model.proofs.Worklist.{apart}
use Rattle.sm_shapes.specs.Names.{AllDiffer, NoneIs}
use Rattle.sm_compile.specs.Compiled.{EachSays}
use Rattle.sm_accepted.proofs.GivenShapes.{behind_head}

-- an element with what stands before it
record IsSplit {A : Type 0} (xs : List A) (x : A) : Type 0 where
  pub before : List A
  pub later : List A
  pub is : xs ≡ before ++ x ∷ later

split_at : {A : Type 0} (xs : List A) (x : A) → Contains xs x → IsSplit xs x
split_at [] x h = absurd (omega (arith, h.1))
split_at (y ∷ xs) x h = elim (cons_cases y xs x h) [
  | inl is ↦ record { before = []; later = xs; is = ap (λ z. z ∷ xs) is }
  | inr rest ↦
      let s = split_at xs x rest in
      record { before = y ∷ s.before; later = s.later; is = ap (λ zs. y ∷ zs) s.is }
]

pub stands_at : {A : Type 0} (before : List A) (x : A) (later : List A) → Contains (before ++ x ∷ later) x
stands_at before x later = Contains-append_right before (x ∷ later) x (cons_here x later)

pub stands_before : {A : Type 0} (before : List A) (x : A) (later : List A) (y : A) → Contains before y → Contains (before ++ x ∷ later) y
stands_before before x later y h = Contains-append_left before (x ∷ later) y h

-- one of the second list, with its id, and those before it
pub record IsCut {D : Type 0} (Says : List ℕ → D → Type 0) (ids : List (List ℕ)) (before : List D) (x : D) : Type 0 where
  pub first : List (List ℕ)
  pub id : List ℕ
  pub rest : List (List ℕ)
  pub is : ids ≡ first ++ id ∷ rest
  pub each : EachSays Says first before
  pub says : Says id x

module _ {D : Type 0} (Says : List ℕ → D → Type 0) where
  pub cut : (ids : List (List ℕ)) (before : List D) (x : D) (later : List D) → EachSays Says ids (before ++ x ∷ later)
      → IsCut Says ids before x
  cut [] [] x later h = absurd h
  cut (i ∷ ids) [] x later h = record { first = []; id = i; rest = ids; is = refl; each = tt; says = h.0 }
  cut [] (b ∷ before) x later h = absurd h
  cut (i ∷ ids) (b ∷ before) x later h =
      let r = cut ids before x later h.1 in
      record { first = i ∷ r.first; id = r.id; rest = r.rest; is = ap (λ zs. i ∷ zs) r.is; each = (h.0, r.each); says = r.says }

  -- the id of one, and the one of an id
  pub id_of : (ids : List (List ℕ)) (ds : List D) → EachSays Says ids ds → (d : D) → Contains ds d
      → (id : List ℕ) × Contains ids id × Says id d
  id_of [] [] h d among = absurd (omega (arith, among.1))
  id_of [] (x ∷ ds) h d among = absurd h
  id_of (i ∷ ids) [] h d among = absurd h
  id_of (i ∷ ids) (x ∷ ds) h d among = elim (cons_cases x ds d among) [
    | inl is ↦ (i, cons_here i ids, subst (Says i) is h.0)
    | inr later ↦ let r = id_of ids ds h.1 d later in (r.0, behind_head i ids r.0 r.1, r.2)
  ]

  pub said_of : (ids : List (List ℕ)) (ds : List D) → EachSays Says ids ds → (id : List ℕ) → Contains ids id
      → (d : D) × Contains ds d × Says id d
  said_of [] [] h id among = absurd (omega (arith, among.1))
  said_of [] (x ∷ ds) h id among = absurd h
  said_of (i ∷ ids) [] h id among = absurd h
  said_of (i ∷ ids) (x ∷ ds) h id among = elim (cons_cases i ids id among) [
    | inl is ↦ (x, cons_here x ds, subst (λ j. Says j x) is h.0)
    | inr later ↦ let r = said_of ids ds h.1 id later in (r.0, behind_head x ds r.0 r.1, r.2)
  ]

-- a name that is among those found
pub found_among : {A : Type 0} (name_of : A → Option (List ℕ)) (xs : List A) (t : List ℕ) → Contains (filter_map name_of xs) t
    → (x : A) × Contains xs x × (name_of x ≡ Some t)
found_among name_of [] t h = absurd (omega (arith, h.1))
found_among {A} name_of (x ∷ xs) t h = by (name_of x) refl (λ later. found_among name_of xs t later) h
  where
    Found : List A → Type 0
    Found ys = (y : A) × Contains ys y × (name_of y ≡ Some t)

    behind : Found xs → Found (x ∷ xs)
    behind r = (r.0, behind_head x xs r.0 r.1, r.2)

    by : (o : Option (List ℕ)) → name_of x ≡ o → (Contains (filter_map name_of xs) t → Found xs)
        → Contains (cons_option o (filter_map name_of xs)) t → Found (x ∷ xs)
    by None is rest among = behind (rest among)
    by (Some u) is rest among = elim (cons_cases u (filter_map name_of xs) t among) [
      | inl same ↦ (x, cons_here x xs, is ∙ ap Some same)
      | inr later ↦ behind (rest later)
    ]

-- that some name passes
or_later : (a b : Bool) → b ≡ true → (a || b) ≡ true
or_later true b h = refl
or_later false b h = h

module _ {A : Type 0} (name_of : A → Option (List ℕ)) (test : List ℕ → Bool) (u : List ℕ) (passes : test u ≡ true) where
  here : (o : Option (List ℕ)) → o ≡ Some u → (ts : List (List ℕ)) → list_any test (cons_option o ts) ≡ true
  here o is ts =
      subst (λ (x : Option (List ℕ)). list_any test (cons_option x ts) ≡ true) (sym is) (ap (λ b. b || list_any test ts) passes)

  onto : (o : Option (List ℕ)) (ts : List (List ℕ)) → list_any test ts ≡ true → list_any test (cons_option o ts) ≡ true
  onto None ts h = h
  onto (Some t) ts h = or_later (test t) (list_any test ts) h

  pub any_passes : (xs : List A) (x : A) → Contains xs x → name_of x ≡ Some u → list_any test (filter_map name_of xs) ≡ true
  any_passes [] x among is = absurd (omega (arith, among.1))
  any_passes (y ∷ xs) x among is = elim (cons_cases y xs x among) [
    | inl same ↦ here (name_of y) (ap name_of same ∙ is) (filter_map name_of xs)
    | inr rest ↦ onto (name_of y) (filter_map name_of xs) (any_passes xs x rest is)
  ]

-- no two have one name, by a way to compare names
module _ {A : Type 0} (name_of : A → Option (List ℕ)) (f : List ℕ → List ℕ) where
  abbrev pub NoneAgain : List A → Type 0
  NoneAgain xs =
      (before : List A) (x : A) (later : List A) → xs ≡ before ++ x ∷ later → (y : A) → Contains before y → (t u : List ℕ)
      → name_of x ≡ Some t → name_of y ≡ Some u → f u ≡ f t → ⊥

  none_later : (a : A) (xs : List A) → NoneAgain (a ∷ xs) → NoneAgain xs
  none_later a xs none before x later is y among t u named other same =
      none (a ∷ before) x later (ap (λ zs. a ∷ zs) is) y (behind_head a before y among) t u named other same

  none_as_first : (a : A) (u : List ℕ) → name_of a ≡ Some u → (xs : List A) → NoneAgain (a ∷ xs) → (x : A) → Contains xs x
      → (t : List ℕ) → name_of x ≡ Some t → f t ≡ f u → ⊥
  none_as_first a u other xs none x among t named same =
      let s = split_at xs x among in
      none (a ∷ s.before) x s.later (ap (λ zs. a ∷ zs) s.is) a (cons_here a s.before) t u named other (sym same)

  none_is : (u : List ℕ) (xs : List A)
      → ((x : A) → Contains xs x → (t : List ℕ) → name_of x ≡ Some t → f t ≡ f u → ⊥) → NoneIs (f u) (map f (filter_map name_of xs))
  none_is u [] h = tt
  none_is u (x ∷ xs) h = by (name_of x) refl (none_is u xs (λ y among. h y (behind_head x xs y among)))
    where
      by : (o : Option (List ℕ)) → name_of x ≡ o → NoneIs (f u) (map f (filter_map name_of xs))
          → NoneIs (f u) (map f (cons_option o (filter_map name_of xs)))
      by None is rest = rest
      by (Some t) is rest = (λ same. h x (cons_here x xs) t is same, rest)

  pub all_differ : (xs : List A) → NoneAgain xs → AllDiffer (map f (filter_map name_of xs))
  all_differ [] none = tt
  all_differ (x ∷ xs) none = by (name_of x) refl (all_differ xs (none_later x xs none))
    where
      by : (o : Option (List ℕ)) → name_of x ≡ o → AllDiffer (map f (filter_map name_of xs))
          → AllDiffer (map f (cons_option o (filter_map name_of xs)))
      by None is rest = rest
      by (Some t) is rest = (none_is t xs (none_as_first x t is xs none), rest)

pub map_same : (xs : List (List ℕ)) → map (λ (x : List ℕ). x) xs ≡ xs
map_same [] = refl
map_same (x ∷ xs) = ap (λ zs. x ∷ zs) (map_same xs)

-- at most one passes
isnt : (b : Bool) → (b ≡ true → ⊥) → b ≡ false
isnt true h = absurd (h refl)
isnt false h = refl

module _ {A : Type 0} (p : A → Bool) where
  abbrev pub NoTwoPass : List A → Type 0
  NoTwoPass xs =
      (before : List A) (x : A) (later : List A) → xs ≡ before ++ x ∷ later → (y : A) → Contains before y → p y ≡ true → p x ≡ true → ⊥

  counted : (x : A) (xs : List A) → count_by p (x ∷ xs) ≡ cond (p x) 1 0 + count_by p xs
  counted x xs = sum_by-cons (λ y. cond (p y) 1 0) x xs

  none_passes : (xs : List A) → ((x : A) → Contains xs x → p x ≡ true → ⊥) → count_by p xs ≡ 0
  none_passes [] h = refl
  none_passes (x ∷ xs) h =
      let rest = none_passes xs (λ y among. h y (behind_head x xs y among)) in
      counted x xs ∙ ap (λ b. cond b 1 0 + count_by p xs) (isnt (p x) (h x (cons_here x xs))) ∙ omega (arith, rest)

  pub at_most_one : (xs : List A) → NoTwoPass xs → count_by p xs ≤ 1
  at_most_one [] h = omega arith
  at_most_one (x ∷ xs) h =
      subst (λ k. k ≤ 1) (sym (counted x xs))
      (by (p x) refl (at_most_one xs (λ before y later is z among. h (x ∷ before) y later (ap (λ zs. x ∷ zs) is) z
      (behind_head x before z among))))
    where
      by : (b : Bool) → p x ≡ b → count_by p xs ≤ 1 → cond b 1 0 + count_by p xs ≤ 1
      by true is rest =
          let none = none_passes xs (λ y among passes. let s = split_at xs y among in
          h (x ∷ s.before) y s.later (ap (λ zs. x ∷ zs) s.is) x (cons_here x s.before) is passes) in
          omega (arith, none)
      by false is rest = omega (arith, rest)

-- tests of lists
pub any_not : {A : Type 0} (p : A → Bool) (xs : List A) → list_any p xs ≡ false → (x : A) → Contains xs x → p x ≡ false
any_not p [] h x among = absurd (omega (arith, among.1))
any_not p (y ∷ xs) h x among = elim (cons_cases y xs x among) [
  | inl is ↦ sym (ap p is) ∙ first (p y) (list_any p xs) h
  | inr later ↦ any_not p xs (second (p y) (list_any p xs) h) x later
]
  where
    first : (a b : Bool) → (a || b) ≡ false → a ≡ false
    first true b e = e
    first false b e = refl

    second : (a b : Bool) → (a || b) ≡ false → b ≡ false
    second true b e = absurd (apart (sym e))
    second false b e = e

pub any_alike : {A : Type 0} (p q : A → Bool) (xs : List A) → ((x : A) → p x ≡ q x) → list_any p xs ≡ list_any q xs
any_alike p q [] h = refl
any_alike p q (x ∷ xs) h = ap (λ b. b || list_any p xs) (h x) ∙ ap (λ b. q x || b) (any_alike p q xs h)
