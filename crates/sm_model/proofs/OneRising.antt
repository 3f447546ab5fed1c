-- Lists that rise and have the same entries are one.
use Rattle.std.proofs.Common.{◌≡◌, ◌⊎◌, inl, inr, ◌<◌, zero, suc, cond, List, [], ◌∷◌, length, refl, sym, ◌∙◌, subst, arith}
use Rattle.std.specs.Prelude.{◌↔◌}
use Rattle.std.specs.Cmp.{IsTotalOrder, tied_itself}
use Rattle.std.specs.List.{AllByRecursion, Contains}
use Rattle.std.specs.List.Sorted.{IsStrictlySortedBy}
use Rattle.std.specs.Ordering.{is_eq}
use Rattle.std.specs.declared.cmp.Ordering.{Ordering}
use Rattle.std.specs.declared.cmp.Ordering.TheVariants.{Less}

module _ {K : Type 0} where
  pub contains_either : (x y : K) (xs : List K) → Contains (x ∷ xs) y → (x ≡ y) ⊎ Contains xs y
  contains_either x y xs (zero, inside, at) = inl at
  contains_either x y xs (suc k, inside, at) = let less : k < length xs = omega (arith, inside) in inr (k, less, at)

  pub contains_head : (x : K) (xs : List K) → Contains (x ∷ xs) x
  contains_head x xs = let inside : 0 < length (x ∷ xs) = omega arith in (0, inside, refl)

  pub contains_behind : (x y : K) (xs : List K) → Contains xs y → Contains (x ∷ xs) y
  contains_behind x y xs (k, inside, at) = let more : suc k < length (x ∷ xs) = omega (arith, inside) in (suc k, more, at)

  pub contains_none : (x : K) → Contains [] x → ⊥
  contains_none x (k, inside, at) = omega (arith, inside)

module _ {K : Type 0} {R : K → K → Ordering} (o : IsTotalOrder R) where
  abbrev pub IsBefore : K → List K → Type 0
  IsBefore x ys = AllByRecursion (λ y. R x y ≡ Less) ys

  pub before_one : (x y : K) (ys : List K) → IsBefore x ys → Contains ys y → R x y ≡ Less
  before_one x y [] h there = absurd (contains_none y there)
  before_one x y (z ∷ zs) h there = elim (contains_either z y zs there) [
    | inl same ↦ subst (λ w. R x w ≡ Less) same h.0
    | inr later ↦ before_one x y zs h.1 later
  ]

  pub not_before_itself : (x : K) → R x x ≡ Less → ⊥
  not_before_itself x h = subst (λ r. cond (is_eq r) (Unit {0}) ⊥) (sym (tied_itself o x) ∙ h) tt

  heads : (x y : K) (xs ys : List K) → IsBefore x xs → IsBefore y ys → Contains (y ∷ ys) x → Contains (x ∷ xs) y → x ≡ y
  heads x y xs ys h k there back = elim (contains_either y x ys there) [
    | inl same ↦ sym same
    | inr here ↦ elim (contains_either x y xs back) [
      | inl same ↦ same
      | inr after ↦ absurd (not_before_itself x (o.trans x y x (before_one x y xs h after) (before_one y x ys k here)))
    ]
  ]

  rest_contains : (x y e : K) (xs ys : List K) → x ≡ y → IsBefore x xs → Contains xs e → Contains (y ∷ ys) e → Contains ys e
  rest_contains x y e xs ys same h there among = elim (contains_either y e ys among) [
    | inl is ↦ absurd (not_before_itself x (subst (λ w. R x w ≡ Less) (sym (same ∙ is)) (before_one x e xs h there)))
    | inr later ↦ later
  ]

  rising : (xs ys : List K) → IsStrictlySortedBy R xs → IsStrictlySortedBy R ys → ((e : K) → Contains xs e → Contains ys e)
      → ((e : K) → Contains ys e → Contains xs e) → xs ≡ ys
  unfolding IsStrictlySortedBy
  rising [] [] h k forth back = refl
  rising [] (y ∷ ys) h k forth back = absurd (contains_none y (back y (contains_head y ys)))
  rising (x ∷ xs) [] h k forth back = absurd (contains_none x (forth x (contains_head x xs)))
  rising (x ∷ xs) (y ∷ ys) h k forth back =
      let same : x ≡ y = heads x y xs ys h.0 k.0 (forth x (contains_head x xs)) (back y (contains_head y ys)) in
      let rest = rising xs ys h.1 k.1 (λ e there. rest_contains x y e xs ys same h.0 there (forth e (contains_behind x e xs there)))
      (λ e there. rest_contains y x e ys xs (sym same) k.0 there (back e (contains_behind y e ys there))) in
      λ i. same i ∷ rest i

  pub one_rising : (xs ys : List K) → IsStrictlySortedBy R xs → IsStrictlySortedBy R ys → ((e : K) → Contains xs e ↔ Contains ys e)
      → xs ≡ ys
  one_rising xs ys h k same = rising xs ys h k (λ e. (same e).0) (λ e. (same e).1)
