-- The last field, taken where it is of a number.
use Rattle.std.proofs.Common.{◌≡◌, ◌⊎◌, inl, inr, ℕ, zero, suc, ◌-◌, true, false, List, [], ◌∷◌, ◌++◌, length, map, reverse, refl, sym, ap, ◌∙◌, arith}
use Rattle.std.proofs.lemmas.Bool.{true≢false}
use Rattle.std.proofs.lemmas.Bool.Decides.{Decides-eqb}
use Rattle.std.proofs.lemmas.List.{append-nil, length-append, map-append, reverse-append, reverse-reverse}
use Rattle.std.specs.Prelude.{◌==◌, None, Ok, Option, Some, slice_get}
use Rattle.sm_shapes.specs.Values.{Val}
use Rattle.sm_shapes.specs.ValueView.{each_field_view, val_of}
use Rattle.sm_shapes.specs.declared.values.Value.{Value}
use Rattle.sm_codec.specs.Readings.{member_fields}
use Rattle.sm_bind_read.specs.steps.Coming.{IsNotLast, is_number}

abbrev rest_of : {X : Type 0} → List X → List X
rest_of [] = []
rest_of (z ∷ zs) = zs

abbrev head_or : {X : Type 0} → X → List X → X
head_or d [] = d
head_or d (z ∷ zs) = z

-- rows turned round, each put into another form
pub map_turned : {X Y : Type 0} (f : X → Y) (xs : List X) → map f (reverse xs) ≡ reverse (map f xs)
map_turned f [] = refl
map_turned f (x ∷ xs) =
    ap (map f) (reverse-append (x ∷ []) xs) ∙ map-append f (reverse xs) (x ∷ []) ∙ ap (λ ys. ys ++ f x ∷ []) (map_turned f xs)
    ∙ sym (reverse-append (f x ∷ []) (map f xs))

-- two lists with one last element are one
same_last : {X : Type 0} (xs ys : List X) (x y : X) → xs ++ x ∷ [] ≡ ys ++ y ∷ [] → (xs ≡ ys) × (x ≡ y)
same_last xs ys x y e =
    let turned : x ∷ reverse xs ≡ y ∷ reverse ys = sym (reverse-append xs (x ∷ [])) ∙ ap reverse e ∙ reverse-append ys (y ∷ []) in (
      sym (reverse-reverse xs) ∙ ap reverse (ap rest_of turned) ∙ reverse-reverse ys,
      ap (head_or x) turned,
    )

not_empty : {X : Type 0} (xs : List X) (x : X) → [] ≡ xs ++ x ∷ [] → ⊥
not_empty [] x e = absurd cc
not_empty (y ∷ xs) x e = absurd cc

-- each list is empty or has a last element
abbrev HasLast : {X : Type 0} → List X → Type 0
HasLast {X} xs = (front : List X) × (x : X) × (xs ≡ front ++ x ∷ [])

one_before : {X : Type 0} (x : X) (xs : List X) → (xs ≡ []) ⊎ HasLast xs → HasLast (x ∷ xs)
one_before x xs (inl none) = ([], x, ap (λ zs. x ∷ zs) none)
one_before x xs (inr (front, y, is)) = (x ∷ front, y, ap (λ zs. x ∷ zs) is)

from_end : {X : Type 0} (xs : List X) → (xs ≡ []) ⊎ HasLast xs
from_end [] = inl refl
from_end (x ∷ xs) = inr (one_before x xs (from_end xs))

got_last : {X : Type 0} (front : List X) (x : X) (n : ℕ) → n ≡ length front → slice_get (front ++ x ∷ []) n ≡ Some x
got_last [] x zero e = refl
got_last [] x (suc n) e = absurd (omega (arith, e))
got_last (y ∷ front) x zero e = absurd (omega (arith, e))
got_last (y ∷ front) x (suc n) e = got_last front x n (omega (arith, e))

last_there : {X : Type 0} (front : List X) (x : X) → slice_get (front ++ x ∷ []) (length (front ++ x ∷ []) - 1) ≡ Some x
last_there front x =
    got_last front x (length (front ++ x ∷ []) - 1) (let long = length-append front (x ∷ []) in omega (arith, long))

viewed : (front : List (ℕ × Value)) (f : ℕ × Value) → each_field_view (front ++ f ∷ []) ≡ each_field_view front ++ (f.0, val_of f.1) ∷ []
viewed front f = map-append (λ g. (g.0, val_of g.1)) front (f ∷ [])

number_of : (j : ℕ) (front : List (ℕ × Value)) (f : ℕ × Value) (xs : List (ℕ × Value)) → xs ≡ front ++ f ∷ []
    → is_number j (slice_get xs (length xs - 1)) ≡ (f.0 == j)
number_of j front f xs is = ap (λ ys. is_number j (slice_get ys (length ys - 1))) is ∙ ap (is_number j) (last_there front f)

module _ (j : ℕ) (xs : List (ℕ × Value)) (o : Option Val) (left : List (ℕ × Val)) (is : each_field_view xs ≡ left ++ member_fields j (Ok o)) where
  -- it isn't
  pub not_taken : is_number j (slice_get xs (length xs - 1)) ≡ false → (None ≡ o) × (each_field_view xs ≡ left)
  not_taken off = by o is
    where
      never : (v : Val) → each_field_view xs ≡ left ++ (j, v) ∷ [] → (xs ≡ []) ⊎ HasLast xs → ⊥
      never v at (inl none) = not_empty left (j, v) (sym (ap each_field_view none) ∙ at)
      never v at (inr (front, f, ends)) =
          let same = same_last (each_field_view front) left (f.0, val_of f.1) (j, v) (sym (viewed front f) ∙ sym (ap each_field_view ends) ∙ at) in
          true≢false (sym ((Decides-eqb f.0 j).1 (ap (λ p. p.0) same.1)) ∙ sym (number_of j front f xs ends) ∙ off)

      by : (o : Option Val) → each_field_view xs ≡ left ++ member_fields j (Ok o) → (None ≡ o) × (each_field_view xs ≡ left)
      by None at = (refl, at ∙ append-nil left)
      by (Some v) at = absurd (never v at (from_end xs))

  -- it is
  pub is_taken : IsNotLast j left → is_number j (slice_get xs (length xs - 1)) ≡ true → (front : List (ℕ × Value)) (f : ℕ × Value)
      → xs ≡ front ++ f ∷ [] → (Some (val_of f.1) ≡ o) × (each_field_view front ≡ left)
  is_taken last on front f ends = by o is
    where
      number : f.0 ≡ j
      number = (Decides-eqb f.0 j).0 (sym (number_of j front f xs ends) ∙ on)

      all : each_field_view xs ≡ each_field_view front ++ (f.0, val_of f.1) ∷ []
      all = ap each_field_view ends ∙ viewed front f

      by : (o : Option Val) → each_field_view xs ≡ left ++ member_fields j (Ok o) → (Some (val_of f.1) ≡ o) × (each_field_view front ≡ left)
      by None at = absurd (last f.0 (val_of f.1) (each_field_view front) (sym (at ∙ append-nil left) ∙ all) number)
      by (Some v) at =
          let same = same_last (each_field_view front) left (f.0, val_of f.1) (j, v) (sym all ∙ at) in (ap (λ p. Some p.1) same.1, same.0)

  pub none_left : is_number j (slice_get xs (length xs - 1)) ≡ true → xs ≡ [] → ⊥
  none_left on none = true≢false (sym on ∙ ap (λ ys. is_number j (slice_get ys (length ys - 1))) none)
