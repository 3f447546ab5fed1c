use Rattle.std.proofs.Common.{◌≡◌, arith, length, refl, subst, sym, ◌∙◌}
use Rattle.sm_model.specs.GraphView.{IsShapeNumber, entries_of}
use Rattle.sm_model.proofs.Worklist.{apart}
use Rattle.sm_transform.specs.steps.Knowing.{IsInNamespaceAt, SomeBelow}
use Rattle.sm_transform.proofs.KnownIds.{below_next, below_nothing, namespace_some}
use Rattle.sm_transform.proofs.knowing.has_namespace.Goals as goal

pub loop-number-init : goal.loop-number-init
loop-number-init c = below_nothing (IsInNamespaceAt c.args.graph.now c.args.namespace.now)

pub loop-number-preserved : goal.loop-number-preserved
loop-number-preserved c =
    below_next (IsInNamespaceAt c.args.graph.now c.args.namespace.now) c.loop-number.number c.loop-number.invariant
    (λ h. apart (sym c.if-is_in_namespace.false ∙ c.is_in_namespace.ensures.1 h))

pub returns-then-is_in_namespace : goal.returns-then-is_in_namespace
returns-then-is_in_namespace c =
    let g = c.args.graph.now in
    let lt : IsShapeNumber g c.loop-number.number = omega (arith, c.count-number-end.ensures, c.loop-number-test.true) in (
      λ x. (namespace_some g c.args.namespace.now).0 (c.loop-number.number, lt, c.is_in_namespace.ensures.0 c.if-is_in_namespace.true),
      λ x. refl,
    )

pub returns : goal.returns
returns c =
    let g = c.args.graph.now in
    let Holds = IsInNamespaceAt g c.args.namespace.now in
    let all : c.loop-number.number ≡ length (entries_of g) = omega (arith, c.count-number-end.ensures, c.loop-number-test.false) in (
      λ h. absurd (apart h),
      λ h. absurd (c.loop-number.invariant (subst (SomeBelow Holds) (sym all) ((namespace_some g c.args.namespace.now).1 h))),
    )
