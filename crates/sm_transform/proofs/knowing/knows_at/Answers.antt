use Rattle.std.proofs.Common.{inl, inr, refl, sym, ◌∙◌}
use Rattle.sm_model.proofs.Worklist.{apart}
use Rattle.sm_transform.proofs.knowing.knows_at.Goals as goal

pub returns-then-is_in_namespace : goal.returns-then-is_in_namespace
returns-then-is_in_namespace c = (λ x. inl (c.is_in_namespace.ensures.0 c.if-is_in_namespace.true), λ x. refl)

pub returns-then-has_trait_in : goal.returns-then-has_trait_in
returns-then-has_trait_in c = (λ x. inr (inl (c.has_trait_in.ensures.0 c.if-has_trait_in.true)), λ x. refl)

pub returns : goal.returns
returns c = (
  λ h. inr (inr (c.has_key_at.ensures.0 h)),
  λ h. elim h [
    | inl of ↦ absurd (apart (sym c.if-is_in_namespace.false ∙ c.is_in_namespace.ensures.1 of))
    | inr rest ↦ elim rest [
      | inl t ↦ absurd (apart (sym c.if-has_trait_in.false ∙ c.has_trait_in.ensures.1 t))
      | inr k ↦ c.has_key_at.ensures.1 k
    ]
  ],
)
