-- What is said of one element of a list joins what held before, one element after the other.
use Rattle.std.proofs.Common.{◌≡◌, ◌⊎◌, ◌<◌, ◌+◌, inl, inr, ℕ, List, [], ◌∷◌, ◌++◌, get_or, length, take, sym, ap, ◌∙◌, subst}
use Rattle.std.specs.Prelude.{◌↔◌}
use Rattle.std.proofs.lemmas.List.{take_more}
use Rattle.std.proofs.lemmas.List.Elements.{Contains-append_left, Contains-push, Contains-push_cases}
use Rattle.sm_model.specs.Joins.{Joins}
use Rattle.sm_model.proofs.Linking.{joins_both, joins_none, joins_same}
use Rattle.sm_model.proofs.OneRising.{contains_none}
use Rattle.sm_trait_rules.specs.steps.Conflicting.{IsOfSome}

module _ {X Y : Type 0} (Is : X → Y → Type 0) where
  pub none_of_some : (Old : Y → Type 0) → Joins Old (IsOfSome Is []) Old
  none_of_some Old = joins_none Old (IsOfSome Is []) (λ y h. contains_none h.0 h.1)

  some_more : (xs : List X) (x : X) (y : Y) → (IsOfSome Is xs y ⊎ Is x y) ↔ IsOfSome Is (xs ++ x ∷ []) y
  some_more xs x y = (
    λ h. elim h [ inl o ↦ (o.0, Contains-append_left xs (x ∷ []) o.0 o.1, o.2) | inr last ↦ (x, Contains-push xs x, last) ],
    λ h. elim (Contains-push_cases xs x h.0 h.1) [
      | inl o ↦ inl (h.0, o, h.2)
      | inr same ↦ inr (subst (λ z. Is z y) (sym same) h.2)
    ],
  )

  pub some_next : (xs : List X) (i : ℕ) (x : X) → i < length xs → x ≡ get_or xs i x → (Old Mid Now : Y → Type 0)
      → Joins Old (IsOfSome Is (take i xs)) Mid → Joins Mid (Is x) Now → Joins Old (IsOfSome Is (take (i + 1) xs)) Now
  some_next xs i x within is Old Mid Now h k =
      let parts : take (i + 1) xs ≡ take i xs ++ x ∷ [] = take_more xs i x within ∙ ap (λ y. take i xs ++ y ∷ []) (sym is) in
      subst (λ ys. Joins Old (IsOfSome Is ys) Now) (sym parts)
      (joins_same Old (λ y. IsOfSome Is (take i xs) y ⊎ Is x y) (IsOfSome Is (take i xs ++ x ∷ [])) Now (some_more (take i xs) x)
      (joins_both Old (IsOfSome Is (take i xs)) Mid (Is x) Now h k))
