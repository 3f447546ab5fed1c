use Rattle.std.proofs.Common.{inl, inr}
use Rattle.sm_merge.specs.steps.ShapeTables.{shapes_view}
use Rattle.sm_merge.proofs.ShapeNumbers.{none_listed, number_at}
use Rattle.std.proofs.Common.{refl}
use Rattle.sm_merge.proofs.mixins.put_number.Goals as goal

pub returns-in-None : goal.returns-in-None
returns-in-None c = inr (λ w there. none_listed (shapes_view c.args.rows.now) c.args.mixin.now c.in-None.ensures w there, refl)

pub returns-in_ok-push-in-Some : goal.returns-in_ok-push-in-Some
returns-in_ok-push-in-Some c =
    inl (
      c.in-Some.number,
      number_at c.args.rows.now c.args.mixin.now c.in-Some.number c.in-Some.ensures,
      c.in_ok-push-in-Some.ensures.items,
    )
