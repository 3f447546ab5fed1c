use Rattle.std.proofs.Common.{inl, inr, refl, sym, ◌∙◌}
use Rattle.std.proofs.lemmas.Slice.Eq.{bytes_eq-Decides}
use Rattle.sm_model.proofs.Worklist.{apart}
use Rattle.sm_transform.specs.Namespaces.{api_namespace}
use Rattle.sm_transform.proofs.renaming.is_refused.Goals as goal

pub returns-then-eq : goal.returns-then-eq
returns-then-eq c = (
  λ x. inl ((bytes_eq-Decides c.args.from.now api_namespace).0 (sym c.eq.ensures ∙ c.if-eq.true)),
  λ x. refl,
)

pub returns-then-not-has_namespace : goal.returns-then-not-has_namespace
returns-then-not-has_namespace c = (
  λ x. inr (inl (λ h. apart (sym c.if-not-has_namespace.true ∙ c.has_namespace.ensures.1 h))),
  λ x. refl,
)

pub returns : goal.returns
returns c = (
  λ h. inr (inr (c.is_known_in.ensures.0 h)),
  λ h. elim h [
    | inl api ↦ absurd (apart (sym c.if-eq.false ∙ c.eq.ensures ∙ (bytes_eq-Decides c.args.from.now api_namespace).1 api))
    | inr rest ↦ elim rest [
      | inl none ↦ absurd (none (c.has_namespace.ensures.0 c.if-not-has_namespace.false))
      | inr known ↦ c.is_known_in.ensures.1 known
    ]
  ],
)
