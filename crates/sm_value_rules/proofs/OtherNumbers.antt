-- The number that stands in one list of names for what has a number in another: by the name where both have it, else behind the list, so
-- that nothing is lost.
use Rattle.std.proofs.Common.{◌≡◌, ℕ, zero, suc, ◌+◌, ◌-◌, ◌≤◌, Bool, true, false, cond, List, [], ◌∷◌, length, refl, sym, ap, ◌∙◌, subst}
use Rattle.std.proofs.Common.{arith, inl, inr}
use Rattle.std.specs.Prelude.{Option, Some, None, slice_get, unwrap_or}
use Rattle.std.specs.List.{Contains}
use Rattle.std.specs.Option.{option_and_then, option_map}
use Rattle.std.specs.Str.{bytes_eq}
use Rattle.std.proofs.lemmas.Option.{none-some, same_Some, slice_get_past}
use Rattle.std.proofs.lemmas.Slice.Eq.{bytes_eq-Decides}
use Rattle.sm_model.proofs.OneRising.{contains_behind, contains_either, contains_head, contains_none}
use Rattle.sm_shapes.specs.Names.{AllDiffer, NoneIs}

-- the first place of a name
abbrev pub place_of : List (List ℕ) → List ℕ → Option ℕ
place_of [] x = None
place_of (y ∷ ys) x = cond (bytes_eq y x) (Some 0) (option_map suc (place_of ys x))

place_is : (ys : List (List ℕ)) (x : List ℕ) (j : ℕ) → place_of ys x ≡ Some j → slice_get ys j ≡ Some x
place_is [] x j h = absurd (none-some j h)
place_is (y ∷ ys) x j h = by (bytes_eq y x) refl (place_of ys x) (λ i e. place_is ys x i e) h
  where
    by : (b : Bool) → bytes_eq y x ≡ b → (o : Option ℕ) → ((i : ℕ) → o ≡ Some i → slice_get ys i ≡ Some x)
        → cond b (Some 0) (option_map suc o) ≡ Some j → slice_get (y ∷ ys) j ≡ Some x
    by true e o later is =
        subst (λ i. slice_get (y ∷ ys) i ≡ Some x) (same_Some 0 j is) (ap Some ((bytes_eq-Decides y x).0 e))
    by false e None later is = absurd (none-some j is)
    by false e (Some i) later is = subst (λ n. slice_get (y ∷ ys) n ≡ Some x) (same_Some (suc i) j is) (later i refl)

-- where names differ that is the place of the name
not_first : (x y : List ℕ) (ys : List (List ℕ)) (j : ℕ) → NoneIs y ys → slice_get ys j ≡ Some x → bytes_eq y x ≡ true → ⊥
not_first x y [] j none h e = none-some x h
not_first x y (z ∷ ys) zero none h e = none.0 (same_Some z x h ∙ sym ((bytes_eq-Decides y x).0 e))
not_first x y (z ∷ ys) (suc j) none h e = not_first x y ys j none.1 h e

its_place : (ys : List (List ℕ)) → AllDiffer ys → (x : List ℕ) (j : ℕ) → slice_get ys j ≡ Some x → place_of ys x ≡ Some j
its_place [] d x j h = absurd (none-some x h)
its_place (y ∷ ys) d x zero h =
    ap (λ b. cond b (Some 0) (option_map suc (place_of ys x))) ((bytes_eq-Decides y x).1 (same_Some y x h))
its_place (y ∷ ys) d x (suc j) h = by (bytes_eq y x) refl ∙ ap (option_map suc) (its_place ys d.1 x j h)
  where
    by : (b : Bool) → bytes_eq y x ≡ b → cond b (Some 0) (option_map suc (place_of ys x)) ≡ option_map suc (place_of ys x)
    by true e = absurd (not_first x y ys j d.0 h e)
    by false e = refl

pub contains_at : {X : Type 0} (xs : List X) (x : X) → Contains xs x → (j : ℕ) × (slice_get xs j ≡ Some x)
contains_at [] x h = absurd (contains_none x h)
contains_at (y ∷ xs) x h = elim (contains_either y x xs h) [
  | inl same ↦ (0, ap Some same)
  | inr later ↦ let r = contains_at xs x later in (suc r.0, r.1)
]

pub at_contains : {X : Type 0} (xs : List X) (j : ℕ) (x : X) → slice_get xs j ≡ Some x → Contains xs x
at_contains [] j x h = absurd (none-some x h)
at_contains (y ∷ xs) zero x h = subst (Contains (y ∷ xs)) (same_Some y x h) (contains_head y xs)
at_contains (y ∷ xs) (suc j) x h = contains_behind y x xs (at_contains xs j x h)

-- from numbers of xs to those of ys
abbrev pub other_number : List (List ℕ) → List (List ℕ) → ℕ → ℕ
other_number xs ys k = unwrap_or (option_and_then (place_of ys) (slice_get xs k)) (length ys + k)

-- and back
abbrev pub number_back : List (List ℕ) → List (List ℕ) → ℕ → ℕ
number_back xs ys j = unwrap_or (option_and_then (place_of xs) (slice_get ys j)) (j - length ys)

pub nothing_lost : (xs ys : List (List ℕ)) → AllDiffer xs → (k : ℕ) → number_back xs ys (other_number xs ys k) ≡ k
nothing_lost xs ys d k = by (slice_get xs k) refl
  where
    behind : number_back xs ys (length ys + k) ≡ k
    behind =
        let past : length ys ≤ length ys + k = omega arith in
        let left : length ys + k - length ys ≡ k = omega arith in
        ap (λ o. unwrap_or (option_and_then (place_of xs) o) (length ys + k - length ys)) (slice_get_past ys (length ys + k) past) ∙ left

    found : (x : List ℕ) → slice_get xs k ≡ Some x → (o : Option ℕ) → place_of ys x ≡ o
        → number_back xs ys (unwrap_or o (length ys + k)) ≡ k
    found x at None e = behind
    found x at (Some j) e =
        ap (λ o. unwrap_or (option_and_then (place_of xs) o) (j - length ys)) (place_is ys x j e)
        ∙ ap (λ o. unwrap_or o (j - length ys)) (its_place xs d x k at)

    by : (o : Option (List ℕ)) → slice_get xs k ≡ o
        → number_back xs ys (unwrap_or (option_and_then (place_of ys) (slice_get xs k)) (length ys + k)) ≡ k
    by None e = ap (λ o. number_back xs ys (unwrap_or (option_and_then (place_of ys) o) (length ys + k))) e ∙ behind
    by (Some x) e =
        ap (λ o. number_back xs ys (unwrap_or (option_and_then (place_of ys) o) (length ys + k))) e ∙ found x e (place_of ys x) refl

-- the same name stands there
pub same_name_there : (xs ys : List (List ℕ)) → AllDiffer ys → (k j : ℕ) (x : List ℕ) → slice_get xs k ≡ Some x → slice_get ys j ≡ Some x
    → other_number xs ys k ≡ j
same_name_there xs ys d k j x at there =
    ap (λ o. unwrap_or (option_and_then (place_of ys) o) (length ys + k)) at
    ∙ ap (λ o. unwrap_or o (length ys + k)) (its_place ys d x j there)
