use Rattle.std.proofs.Common.{arith}
use Rattle.sm_examples.proofs.ErrorsById.{name_within, told_here, told_none, told_other}
use Rattle.sm_examples.proofs.error_ids.error_with_id.Goals as goal

pub has_id-requires : goal.has_id-requires
has_id-requires c = name_within c.args.errors.now c.in-Some.place c.name_in.result.now c.in-Some.ensures

pub overflow_cast-result : goal.overflow_cast-result
overflow_cast-result c =
    omega (arith, name_within c.args.errors.now c.in-Some.place c.name_in.result.now c.in-Some.ensures, c.requires.few)

pub returns-then-has_id : goal.returns-then-has_id
returns-then-has_id c =
    told_here c.args.errors.now c.args.id.now c.requires.differ c.in-Some.place c.name_in.result.now c.has_id.result c.name_in.ensures
    c.in-Some.ensures (name_within c.args.errors.now c.in-Some.place c.name_in.result.now c.in-Some.ensures) c.has_id.ensures
    c.if-has_id.true

pub returns-else-has_id : goal.returns-else-has_id
returns-else-has_id c =
    told_other c.args.errors.now c.args.id.now c.requires.differ c.in-Some.place c.name_in.result.now c.has_id.result c.name_in.ensures
    c.in-Some.ensures c.has_id.ensures c.if-has_id.false

pub returns-in-None : goal.returns-in-None
returns-in-None c =
    told_none c.args.errors.now c.args.id.now c.requires.differ c.name_in.result.now c.name_in.ensures c.in-None.ensures
