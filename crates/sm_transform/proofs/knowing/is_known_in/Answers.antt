use Rattle.std.proofs.Common.{◌≡◌, arith, length, refl, subst, sym, ◌∙◌}
use Rattle.sm_model.specs.GraphView.{IsShapeNumber, entries_of}
use Rattle.sm_model.proofs.Worklist.{apart}
use Rattle.sm_transform.specs.steps.Knowing.{KnowsAt, SomeBelow}
use Rattle.sm_transform.proofs.KnownIds.{below_next, below_nothing, known_is}
use Rattle.sm_transform.proofs.knowing.is_known_in.Goals as goal

pub loop-number-init : goal.loop-number-init
loop-number-init c = below_nothing (KnowsAt c.args.graph.now c.args.namespace.now)

pub loop-number-preserved : goal.loop-number-preserved
loop-number-preserved c =
    below_next (KnowsAt c.args.graph.now c.args.namespace.now) c.loop-number.number c.loop-number.invariant
    (λ h. apart (sym c.if-knows_at.false ∙ c.knows_at.ensures.1 h))

pub returns-then-knows_at : goal.returns-then-knows_at
returns-then-knows_at c =
    let g = c.args.graph.now in
    let lt : IsShapeNumber g c.loop-number.number = omega (arith, c.count-number-end.ensures, c.loop-number-test.true) in (
      λ x. (known_is g c.args.namespace.now).0 (c.loop-number.number, lt, c.knows_at.ensures.0 c.if-knows_at.true),
      λ x. refl,
    )

pub returns : goal.returns
returns c =
    let g = c.args.graph.now in
    let Holds = KnowsAt g c.args.namespace.now in
    let all : c.loop-number.number ≡ length (entries_of g) = omega (arith, c.count-number-end.ensures, c.loop-number-test.false) in (
      λ h. absurd (apart h),
      λ h. absurd (c.loop-number.invariant (subst (SomeBelow Holds) (sym all) ((known_is g c.args.namespace.now).1 h))),
    )
