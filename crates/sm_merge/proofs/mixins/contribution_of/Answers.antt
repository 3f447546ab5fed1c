use Rattle.std.proofs.Common.{arith}
use Rattle.sm_merge.specs.steps.ShapeTables.{ids_of, shapes_view}
use Rattle.sm_merge.proofs.Ats.{at_within}
use Rattle.sm_merge.proofs.MixinsTold.{no_such_mixin}
use Rattle.sm_merge.proofs.ShapeNumbers.{ids_count, none_listed, number_at}
use Rattle.sm_merge.proofs.mixins.contribution_of.Goals as goal

pub returns-in-None-clause-told : goal.returns-in-None-clause-told
returns-in-None-clause-told c = λ ss s t same.
    no_such_mixin ss c.args.rows.now c.args.traits.now c.args.walk.now t s c.args.mixin.now
    (none_listed (shapes_view c.args.rows.now) c.args.mixin.now c.in-None.ensures)

pub contribution_by-requires-clause-number : goal.contribution_by-requires-clause-number
contribution_by-requires-clause-number c = number_at c.args.rows.now c.args.mixin.now c.in-Some.number c.in-Some.ensures

pub contribution_by-requires-clause-inside : goal.contribution_by-requires-clause-inside
contribution_by-requires-clause-inside c =
    let small = at_within (ids_of c.args.rows.now) c.in-Some.number c.args.mixin.now
    (number_at c.args.rows.now c.args.mixin.now c.in-Some.number c.in-Some.ensures) in
    omega (arith, small, ids_count c.args.rows.now)
