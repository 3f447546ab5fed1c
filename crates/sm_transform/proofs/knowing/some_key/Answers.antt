use Rattle.std.proofs.Common.{◌≡◌, ◌+◌, ◌∷◌, [], ℕ, List, ap, arith, drop, inl, inr, refl, subst, sym, ◌∙◌}
use Rattle.std.proofs.lemmas.List.{drop_all, drop_more}
use Rattle.sm_tree.specs.Node.{members_of}
use Rattle.sm_tree.specs.View.{members_view, node_of}
use Rattle.sm_tree.specs.declared.tree.Tree.{Tree}
use Rattle.sm_model.proofs.Worklist.{apart}
use Rattle.sm_transform.specs.steps.Knowing.{HasFieldKey, IsKeyField}
use Rattle.sm_transform.proofs.KnownIds.{field_either, no_field}
use Rattle.sm_transform.proofs.knowing.some_key.Goals as goal

pub loop-field-init : goal.loop-field-init
loop-field-init c = (λ h. h, λ h. h)

pub loop-field-preserved : goal.loop-field-preserved
loop-field-preserved c =
    let at = c.loop-field in
    let i = at.field-index in
    let fields = c.args.fields.now in
    let field : List ℕ × Tree = c.field-item.result in
    let rest = drop (i + 1) fields in
    let Keys : List (List ℕ × Tree) → Type 0 = λ ps. HasFieldKey c.args.kind c.args.namespace.now (members_of (members_view ps)) in
    let next : drop i fields ≡ field ∷ rest = drop_more fields i field (omega arith) ∙ ap (λ y. y ∷ rest) (sym c.field-item.is) in
    let either = field_either c.args.namespace.now c.args.kind field.0 (node_of field.1) (members_of (members_view rest)) in (
      λ h. at.invariant.0 (subst Keys (sym next) (either.1 (inr h))),
      λ h. elim (either.0 (subst Keys next (at.invariant.1 h))) [
        | inl here ↦ absurd (apart (sym c.if-is_key_field.false ∙ c.is_key_field.ensures.1
            (subst (λ k. IsKeyField c.args.kind k (node_of field.1) c.args.namespace.now) (sym c.as_str.ensures.bytes) here)))
        | inr later ↦ later
      ],
    )

pub returns-then-is_key_field : goal.returns-then-is_key_field
returns-then-is_key_field c =
    let at = c.loop-field in
    let i = at.field-index in
    let fields = c.args.fields.now in
    let field : List ℕ × Tree = c.field-item.result in
    let rest = drop (i + 1) fields in
    let Keys : List (List ℕ × Tree) → Type 0 = λ ps. HasFieldKey c.args.kind c.args.namespace.now (members_of (members_view ps)) in
    let next : drop i fields ≡ field ∷ rest = drop_more fields i field (omega arith) ∙ ap (λ y. y ∷ rest) (sym c.field-item.is) in
    let either = field_either c.args.namespace.now c.args.kind field.0 (node_of field.1) (members_of (members_view rest)) in
    let here = subst (λ k. IsKeyField c.args.kind k (node_of field.1) c.args.namespace.now) c.as_str.ensures.bytes
    (c.is_key_field.ensures.0 c.if-is_key_field.true) in (
      λ x. at.invariant.0 (subst Keys (sym next) (either.1 (inl here))),
      λ x. refl,
    )

pub returns : goal.returns
returns c =
    let at = c.loop-field in
    let fields = c.args.fields.now in
    let Keys : List (List ℕ × Tree) → Type 0 = λ ps. HasFieldKey c.args.kind c.args.namespace.now (members_of (members_view ps)) in
    let none : drop at.field-index fields ≡ [] = drop_all at.field-index fields (omega (arith, c.loop-field-test.false)) in (
      λ h. absurd (apart h),
      λ h. absurd (no_field c.args.namespace.now c.args.kind (subst Keys none (at.invariant.1 h))),
    )
