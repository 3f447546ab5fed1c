-- What is joined to what was there, part by part: of members of lists, or of anything else that holds of some things.
use Rattle.std.proofs.Common.{◌≡◌, ◌⊎◌, inl, inr, List, [], ◌∷◌, ◌++◌, sym, subst}
use Rattle.std.specs.Prelude.{◌↔◌}
use Rattle.std.specs.List.{Contains}
use Rattle.std.proofs.lemmas.List.Elements.{Contains-append_left, Contains-push, Contains-push_cases}
use Rattle.sm_model.specs.Joins.{Joins, JoinsUpTo}

module _ {X : Type 0} where
  pub joins_none : (Old P : X → Type 0) → ((x : X) → P x → ⊥) → Joins Old P Old
  joins_none Old P none x = (λ h. inl h, λ h. elim h [ inl old ↦ old | inr new ↦ absurd (none x new) ])

  pub joins_one : (x : X) (xs : List X) → Joins (Contains xs) (λ y. y ≡ x) (Contains (xs ++ x ∷ []))
  joins_one x xs y = (
    λ h. elim (Contains-push_cases xs x y h) [ inl old ↦ inl old | inr is ↦ inr (sym is) ],
    λ h. elim h [
      | inl old ↦ Contains-append_left xs (x ∷ []) y old
      | inr is ↦ subst (Contains (xs ++ x ∷ [])) (sym is)
          (Contains-push xs x)
    ],
  )

  pub joins_same : (Old P Q Now : X → Type 0) → ((x : X) → P x ↔ Q x) → Joins Old P Now → Joins Old Q Now
  joins_same Old P Q Now same joins x = (
    λ h. elim ((joins x).0 h) [ inl o ↦ inl o | inr p ↦ inr ((same x).0 p) ],
    λ h. (joins x).1 (elim h [ inl o ↦ inl o | inr q ↦ inr ((same x).1 q) ]),
  )

  pub joins_both : (Old P Now Q Next : X → Type 0) → Joins Old P Now → Joins Now Q Next → Joins Old (λ x. P x ⊎ Q x) Next
  joins_both Old P Now Q Next first then x = (
    λ h. elim ((then x).0 h) [
      | inl n ↦ elim ((first x).0 n) [ inl o ↦ inl o | inr p ↦ inr (inl p) ]
      | inr q ↦ inr (inr q)
    ],
    λ h. (then x).1 (elim h [
      | inl o ↦ inl ((first x).1 (inl o))
      | inr pq ↦ elim pq [ inl p ↦ inl ((first x).1 (inr p)) | inr q ↦ inr q ]
    ]),
  )

  pub up_to_start : (All Old : X → Type 0) → JoinsUpTo All All Old Old
  up_to_start All Old x = (λ h. h, λ h. h)

  pub up_to_more : (All P Rest Old Now Next : X → Type 0) → Joins Now P Next → JoinsUpTo All (λ x. P x ⊎ Rest x) Old Now
      → JoinsUpTo All Rest Old Next
  up_to_more All P Rest Old Now Next joins so x = (
    λ h. (so x).0 (elim h [
      | inl n ↦ elim ((joins x).0 n) [ inl o ↦ inl o | inr p ↦ inr (inl p) ]
      | inr rest ↦ inr (inr rest)
    ]),
    λ h. elim ((so x).1 h) [
      | inl n ↦ inl ((joins x).1 (inl n))
      | inr pr ↦ elim pr [ inl p ↦ inl ((joins x).1 (inr p)) | inr rest ↦ inr rest ]
    ],
  )

  pub up_to_end : (All Rest Old Now : X → Type 0) → ((x : X) → Rest x → ⊥) → JoinsUpTo All Rest Old Now → Joins Old All Now
  up_to_end All Rest Old Now none so x = (
    λ h. (so x).0 (inl h),
    λ h. elim ((so x).1 h) [ inl n ↦ n | inr rest ↦ absurd (none x rest) ],
  )

  -- the rest in other words
  pub up_to_same : (All Rest Other Old Now : X → Type 0) → ((x : X) → Rest x ↔ Other x) → JoinsUpTo All Rest Old Now
      → JoinsUpTo All Other Old Now
  up_to_same All Rest Other Old Now same so x = (
    λ h. (so x).0 (elim h [ inl n ↦ inl n | inr other ↦ inr ((same x).1 other) ]),
    λ h. elim ((so x).1 h) [ inl n ↦ inl n | inr rest ↦ inr ((same x).0 rest) ],
  )
