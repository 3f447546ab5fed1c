use Rattle.std.proofs.Common.{inl, inr, ap, refl, subst, sym, ◌∙◌}
use Rattle.sm_model.specs.GraphView.{maps_of}
use Rattle.sm_model.specs.Reaching.{id_of_number}
use Rattle.sm_model.proofs.Worklist.{apart}
use Rattle.sm_compile.specs.Kinds.{is_left_out}
use Rattle.sm_compile.specs.steps.Unserved.{TellsType}
use Rattle.sm_compile.proofs.UnservedTold.{unserved_cases, unserved_left_out, unserved_streams, unserved_tells}
use Rattle.sm_compile.proofs.unserved.is_unserved_of_kind.Goals as goal

pub returns-then-is_left_out : goal.returns-then-is_left_out
returns-then-is_left_out c =
    let g = c.args.graph.now in
    let told = c.is_left_out.ensures ∙ ap is_left_out c.table_kind.ensures in (
      λ h.
          unserved_left_out (maps_of g) (id_of_number g c.args.shape) c.args.kind c.requires.kind (sym told ∙ c.if-is_left_out.true),
      λ u. refl,
    )

pub returns-then-has_trait : goal.returns-then-has_trait
returns-then-has_trait c =
    let g = c.args.graph.now in (
      λ h.
          unserved_streams (maps_of g) (id_of_number g c.args.shape) c.args.kind c.requires.kind
          (sym c.has_trait.ensures ∙ c.if-has_trait.true),
      λ u. refl,
    )

pub returns-then-may_tell_type : goal.returns-then-may_tell_type
returns-then-may_tell_type c =
    let g = c.args.graph.now in
    let id = id_of_number g c.args.shape in
    let told = c.is_left_out.ensures ∙ ap is_left_out c.table_kind.ensures in (
      λ h.
          unserved_tells (maps_of g) id c.args.kind c.requires.kind (sym c.may_tell_type.ensures ∙ c.if-may_tell_type.true)
          (subst (TellsType (maps_of g) id) c.members_of.ensures.ids (c.tells_type.ensures.0 h)),
      λ u. elim (unserved_cases (maps_of g) id c.args.kind c.requires.kind u) [
        | inl left_out ↦ absurd (apart (sym c.if-is_left_out.false ∙ told ∙ left_out))
        | inr rest ↦ elim rest [
          | inl streams ↦ absurd (apart (sym c.if-has_trait.false ∙ c.has_trait.ensures ∙ streams))
          | inr tells ↦ c.tells_type.ensures.1 (subst (TellsType (maps_of g) id) (sym c.members_of.ensures.ids) tells.1)
        ]
      ],
    )

pub returns-else-may_tell_type : goal.returns-else-may_tell_type
returns-else-may_tell_type c =
    let g = c.args.graph.now in
    let id = id_of_number g c.args.shape in
    let told = c.is_left_out.ensures ∙ ap is_left_out c.table_kind.ensures in (
      λ h. absurd (apart h),
      λ u. elim (unserved_cases (maps_of g) id c.args.kind c.requires.kind u) [
        | inl left_out ↦ absurd (apart (sym c.if-is_left_out.false ∙ told ∙ left_out))
        | inr rest ↦ elim rest [
          | inl streams ↦ absurd (apart (sym c.if-has_trait.false ∙ c.has_trait.ensures ∙ streams))
          | inr tells ↦ absurd (apart (sym c.if-may_tell_type.false ∙ c.may_tell_type.ensures ∙ tells.0))
        ]
      ],
    )
